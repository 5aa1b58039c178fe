-- Numbers and texts that are printed, derived again.
use Rattle.std.proofs.Common.{◌≡◌, ◌≤◌, ◌-◌, ℕ, Bool, true, false, List, [], ◌∷◌, ◌++◌, length, drop, Option}
use Rattle.std.proofs.Common.{Some, None, refl, sym, ap, ◌∙◌, subst, decimal}
use Rattle.std.specs.Prelude.{slice_range}
use Rattle.ij_text.specs.declared.Place.{Place}
use Rattle.ij_text.specs.Symbol.{one}
use Rattle.icl_lexer.specs.declared.token.TokenKind.{TokenKind}
use Rattle.icl_lexer.specs.declared.token.TokenKind.TheVariants.{Word, Decimal, Sized, Quoted, Param, Mark}
use Rattle.icl_lexer.specs.declared.token.PieceKind.TheVariants.{Is}
use Rattle.icl_lexer.specs.Pieces.{kind_of}
use Rattle.ij_text.specs.Numbers.{decimal_from}
use Rattle.icl_lexer.specs.Tokens.{decimal_of}
use Rattle.icl_lexer.specs.Values.{SeenExpr, ADecimal, ASized, AQuoted, AParam, AnOp}
use Rattle.icl_lexer.specs.Grammar.{Counted, leaf_of, leaf_at, with_count, as_decimal}
use Rattle.icl_printer.specs.Canonical.{formula_tokens}
use Rattle.icl_printer.proofs.Printed.{Printed, p_token}
use Rattle.icl_printer.proofs.Bytes.{decimal_kind, decimal_again, small_is, inside_quotes, quoted_text}
use Rattle.icl_printer.proofs.Bytes.{param_text}
use Rattle.icl_printer.proofs.Chains.{counted, placeless_counted}

-- its numbers fit, and its texts are pieces
unfoldable pub Sound : SeenExpr → Type 0
Sound (ADecimal n) = n ≤ 4294967295
Sound (ASized t) = kind_of t ≡ Some (Is Sized)
Sound (AQuoted t) = kind_of (34 ∷ (t ++ 34 ∷ [])) ≡ Some (Is Quoted)
Sound (AParam at n) = kind_of (36 ∷ n) ≡ Some (Is Param)
Sound (AnOp at sign a b) = Sound a × Sound b

pub p_decimal_leaf : (alone : Bool) (used n : ℕ) → Sound (ADecimal n)
    → Printed (one (leaf_at alone used)) placeless_counted
    (formula_tokens (ADecimal n)) (counted (ADecimal n) used false)
unfolding Sound
p_decimal_leaf alone used n s =
    p_token (record { kind = Decimal; text = decimal n }) (counted (ADecimal n) used false)
    (λ at. counted (ADecimal n) used false) (decimal_kind n s)
    (λ at. ap (λ o. with_count used (as_decimal o)) (decimal_again n s)) (λ at. refl)

pub p_sized_leaf : (used : ℕ) (t : List ℕ) → Sound (ASized t) → Printed
    (one (leaf_at true used)) placeless_counted (formula_tokens (ASized t)) (counted (ASized t) used true)
unfolding Sound
p_sized_leaf used t s = p_token (record { kind = Sized; text = t }) (counted (ASized t) used true)
    (λ at. counted (ASized t) used true) s (λ at. refl) (λ at. refl)

pub p_quoted_leaf : (alone : Bool) (used : ℕ) (t : List ℕ) → Sound (AQuoted t) → Printed
    (one (leaf_at alone used)) placeless_counted (formula_tokens (AQuoted t)) (counted (AQuoted t) used false)
unfolding Sound
p_quoted_leaf alone used t s =
    p_token (record { kind = Quoted; text = 34 ∷ (t ++ 34 ∷ []) }) (counted (AQuoted t) used false)
    (λ at. counted (AQuoted t) used false) s
    (λ at. ap (λ x. Some (counted (AQuoted x) used false)) (inside_quotes t)) (λ at. refl)

pub p_param_leaf : (alone : Bool) (used : ℕ) (at : Place) (n : List ℕ) → Sound (AParam at n)
    → Printed (one (leaf_at alone used)) placeless_counted
    (formula_tokens (AParam at n)) (counted (AParam at n) used false)
unfolding Sound
p_param_leaf alone used at n s =
    p_token (record { kind = Param; text = 36 ∷ n }) (counted (AParam at n) used false)
    (λ p. counted (AParam p n) used false) s (λ p. refl) (λ p. refl)

-- ---- what a leaf that is derived is

abbrev pub IsTight : SeenExpr → Type 0
IsTight (ADecimal n) = Unit {0}
IsTight (ASized t) = ⊥
IsTight (AQuoted t) = Unit {0}
IsTight (AParam at n) = Unit {0}
IsTight (AnOp at sign a b) = ⊥

abbrev pub IsSizedNumber : SeenExpr → Type 0
IsSizedNumber (ADecimal n) = ⊥
IsSizedNumber (ASized t) = Unit {0}
IsSizedNumber (AQuoted t) = ⊥
IsSizedNumber (AParam at n) = ⊥
IsSizedNumber (AnOp at sign a b) = ⊥

pub record IsLeaf (alone : Bool) (used : ℕ) (c : Counted) : Type 0 where
  pub sound : Sound c.formula
  pub used_is : c.used ≡ used
  pub plain : c.lone ≡ false → IsTight c.formula
  pub lone : c.lone ≡ true → IsSizedNumber c.formula
  pub first : alone ≡ false → c.lone ≡ false

-- a leaf of a certain formula
plain_leaf : (alone : Bool) (used : ℕ) (f : SeenExpr) → Sound f → IsTight f
    → IsLeaf alone used (counted f used false)
plain_leaf alone used f s tight =
    record { sound = s; used_is = refl; plain = λ e. tight; lone = λ e. absurd (cc); first = λ e. refl }

decimal_leaf : (alone : Bool) (used : ℕ) (o : Option ℕ) (c : Counted)
    → ((n : ℕ) → o ≡ Some n → n ≤ 4294967295) → with_count used (as_decimal o) ≡ Some c → IsLeaf alone used c
unfolding Sound
decimal_leaf alone used None c few h = absurd (cc)
decimal_leaf alone used (Some n) c few h =
    let is : counted (ADecimal n) used false ≡ c = cc in
    subst (IsLeaf alone used) is (plain_leaf alone used (ADecimal n) (few n refl) tt)

pub leaf_is : (alone : Bool) (used : ℕ) (k : TokenKind) (at : Place) (text : List ℕ) (c : Counted)
    → kind_of text ≡ Some (Is k) → leaf_of alone used k at text ≡ Some c → IsLeaf alone used c
unfolding Sound
leaf_is alone used Decimal at text c kind h =
    decimal_leaf alone used (decimal_of text) c (λ n e. small_is (decimal_from 0 text) n e) h
leaf_is alone used Param at text c kind h =
    let is : counted (AParam at (drop 1 text)) used false ≡ c = cc in
    subst (IsLeaf alone used) is (plain_leaf alone used (AParam at (drop 1 text))
    (subst (λ (t : List ℕ). kind_of t ≡ Some (Is Param)) (param_text text kind) kind) tt)
leaf_is alone used Quoted at text c kind h =
    let q = quoted_text text kind in
    let t = slice_range text 1 (length text - 1) in
    let inside : t ≡ q.0 = ap (λ (x : List ℕ). slice_range x 1 (length x - 1)) q.1 ∙ inside_quotes q.0 in
    let same : text ≡ 34 ∷ (t ++ 34 ∷ []) = q.1 ∙ ap (λ (x : List ℕ). 34 ∷ (x ++ 34 ∷ [])) (sym inside) in
    let is : counted (AQuoted t) used false ≡ c = cc in
    subst (IsLeaf alone used) is (plain_leaf alone used (AQuoted t)
    (subst (λ (x : List ℕ). kind_of x ≡ Some (Is Quoted)) same kind) tt)
leaf_is true used Sized at text c kind h =
    let is : counted (ASized text) used true ≡ c = cc in
    subst (IsLeaf true used) is (record
    { sound = kind; used_is = refl; plain = λ e. absurd (cc); lone = λ e. tt; first = λ e. absurd (cc) })
leaf_is false used Sized at text c kind h = absurd (cc)
leaf_is true used Word at text c kind h = absurd (cc)
leaf_is false used Word at text c kind h = absurd (cc)
leaf_is true used Mark at text c kind h = absurd (cc)
leaf_is false used Mark at text c kind h = absurd (cc)
