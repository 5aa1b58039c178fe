-- A value has the width that is wanted.
use Rattle.std.proofs.Common.{◌≡◌, ℕ, Bool, true, false, cond, nat_lt, List, [], ◌∷◌, length, get_or, Some}
use Rattle.std.proofs.Common.{Ok, Err, sym, ap, ◌∙◌}
use Rattle.std.proofs.lemmas.List.FromFn.{length-map-range_with_len}
use Rattle.ij_text.specs.declared.Place.{Place}
use Rattle.icl_lexer.specs.Values.{SeenExpr}
use Rattle.icl_declarations.specs.Faults.{Answer, ◌>>=◌, each, WidthDiffers}
use Rattle.icl_declarations.specs.Values.{OpenBits, ParamValue, AnInteger, SomeBits, AText, Params}
use Rattle.icl_declarations.specs.Values.{integer_bits}
use Rattle.icl_declarations.specs.Sized.{fits, in_width}
use Rattle.icl_declarations.specs.Expressions.{evaluate, fault_place}
use Rattle.icl_declarations.specs.Widths.{fit_unsized, fit_sized, fit_number, one_part, joined, parts_value}
use Rattle.icl_declarations.specs.Widths.{value_in}

wide : (width : ℕ) (bits : OpenBits) → length (in_width width bits) ≡ width
wide width bits = length-map-range_with_len (λ k. get_or bits k (Some false)) 0 width

-- the width of an answer
abbrev IsWide : ℕ → Answer OpenBits → Type 0
IsWide width (Ok bits) = length bits ≡ width
IsWide width (Err e) = Unit {0}

free_wide : (holder : Place) (width : ℕ) (bits : OpenBits) → IsWide width (fit_unsized holder width bits)
free_wide holder width bits = by_test (fits width bits)
  where
    by_test : (b : Bool) → IsWide width (cond b (Ok (in_width width bits)) (Err (WidthDiffers holder)))
    by_test true = wide width bits
    by_test false = tt

sized_wide : (holder : Place) (width : ℕ) (bits : OpenBits) → IsWide width (fit_sized holder width bits)
sized_wide holder width bits = by_test (nat_lt width (length bits))
  where
    by_test : (b : Bool) → IsWide width (cond b (Err (WidthDiffers holder)) (Ok (in_width width bits)))
    by_test true = tt
    by_test false = wide width bits

lone_wide : (holder at : Place) (width : ℕ) (value : ParamValue)
    → IsWide width (fit_number holder at width value)
lone_wide holder at width (AnInteger n) = free_wide holder width (integer_bits n)
lone_wide holder at width (SomeBits false bits) = free_wide holder width bits
lone_wide holder at width (SomeBits true bits) = sized_wide holder width bits
lone_wide holder at width (AText text) = tt

then_wide : {A : Type 0} (width : ℕ) (r : Answer A) (next : A → Answer OpenBits)
    → ((x : A) → IsWide width (next x)) → IsWide width (r >>= next)
then_wide width (Ok x) next h = h x
then_wide width (Err e) next h = tt

parts_wide : (ps : Params) (holder : Place) (width : ℕ) (es : List SeenExpr)
    → IsWide width (parts_value ps holder width es)
parts_wide ps holder width es = then_wide width (each (one_part ps holder) es)
    (λ parts. fit_sized holder width (joined parts)) (λ parts. sized_wide holder width (joined parts))

value_is_wide : (ps : Params) (holder : Place) (width : ℕ) (es : List SeenExpr)
    → IsWide width (value_in ps holder width es)
unfolding value_in
value_is_wide ps holder width [] = parts_wide ps holder width []
value_is_wide ps holder width (e ∷ []) = then_wide width (evaluate ps holder e)
    (fit_number holder (fault_place holder e) width) (λ value. lone_wide holder (fault_place holder e) width
    value)
value_is_wide ps holder width (e ∷ f ∷ es) = parts_wide ps holder width (e ∷ f ∷ es)

pub value_wide : (ps : Params) (holder : Place) (width : ℕ) (es : List SeenExpr) (bits : OpenBits)
    → value_in ps holder width es ≡ Ok bits → length bits ≡ width
value_wide ps holder width es bits h =
    by_answer (value_in ps holder width es) h (value_is_wide ps holder width es)
  where
    value : OpenBits → Answer OpenBits → OpenBits
    value d (Ok b) = b
    value d (Err e) = d

    by_answer : (r : Answer OpenBits) → r ≡ Ok bits → IsWide width r → length bits ≡ width
    by_answer (Ok b) e w = ap length (sym (ap (value bits) e)) ∙ w
    by_answer (Err f) e w = absurd cc
