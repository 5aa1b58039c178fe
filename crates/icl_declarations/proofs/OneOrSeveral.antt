-- Values of one number, and of several.
use Rattle.std.proofs.Common.{◌≡◌, ◌≢◌, ℕ, List, [], ◌∷◌, length, map, get_or, refl, sym, ap, arith}
use Rattle.ij_text.specs.declared.Place.{Place}
use Rattle.icl_lexer.specs.Values.{SeenExpr}
use Rattle.icl_declarations.specs.Values.{Params}
use Rattle.icl_declarations.specs.Widths.{lone_value, parts_value, value_in}

module _ {X : Type 0} (see : X → SeenExpr) (ps : Params) (holder : Place) (width : ℕ) where
  pub of_one : (es : List X) (e : X) → length es ≡ 1 → e ≡ get_or es 0 e
      → value_in ps holder width (map see es) ≡ lone_value ps holder width (see e)
  unfolding value_in
  of_one [] e l h = absurd (omega (arith, l))
  of_one (d ∷ []) e l h = ap (λ c. lone_value ps holder width (see c)) (sym h)
  of_one (d ∷ c ∷ es) e l h = absurd (omega (arith, l))

  pub of_several : (es : List X) → length es ≢ 1
      → value_in ps holder width (map see es) ≡ parts_value ps holder width (map see es)
  unfolding value_in
  of_several [] l = refl
  of_several (d ∷ []) l = absurd (l refl)
  of_several (d ∷ c ∷ es) l = refl
