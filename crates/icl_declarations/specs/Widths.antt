-- Numbers and concatenations in the width that is wanted (IEEE 1687-2014: ResetValue, the values of an Enum
-- and of a ScanMux).
use Rattle.std.specs.Prelude.{ℕ, true, false, cond, nat_lt, List, [], ◌∷◌, ◌++◌, length, Ok, Err}
use Rattle.ij_text.specs.declared.Place.{Place}
use Rattle.icl_lexer.specs.Values.{SeenExpr}
use Rattle.icl_declarations.specs.Faults.{Answer, ◌>>=◌, each, WidthDiffers, WrongKind}
use Rattle.icl_declarations.specs.Values.{OpenBits, ParamValue, AnInteger, SomeBits, AText, Params}
use Rattle.icl_declarations.specs.Values.{integer_bits}
use Rattle.icl_declarations.specs.Sized.{fits, in_width}
use Rattle.icl_declarations.specs.Expressions.{evaluate, fault_place}

-- a number without a size: zeros are added or dropped on the left
abbrev pub fit_unsized : Place → ℕ → OpenBits → Answer OpenBits
fit_unsized holder width bits = cond (fits width bits) (Ok (in_width width bits)) (Err (WidthDiffers holder))

-- bits with a size: zeros are added on the left, and none is dropped
abbrev pub fit_sized : Place → ℕ → OpenBits → Answer OpenBits
fit_sized holder width bits =
    cond (nat_lt width (length bits)) (Err (WidthDiffers holder)) (Ok (in_width width bits))

-- a number alone
abbrev pub fit_number : Place → Place → ℕ → ParamValue → Answer OpenBits
fit_number holder at width (AnInteger n) = fit_unsized holder width (integer_bits n)
fit_number holder at width (SomeBits false bits) = fit_unsized holder width bits
fit_number holder at width (SomeBits true bits) = fit_sized holder width bits
fit_number holder at width (AText text) = Err (WrongKind at)

-- a number of a concatenation needs a size
abbrev pub sized_bits : Place → ParamValue → Answer OpenBits
sized_bits at (AnInteger n) = Err (WrongKind at)
sized_bits at (SomeBits false bits) = Err (WrongKind at)
sized_bits at (SomeBits true bits) = Ok bits
sized_bits at (AText text) = Err (WrongKind at)

abbrev pub one_part : Params → Place → SeenExpr → Answer OpenBits
one_part ps holder e = evaluate ps holder e >>= sized_bits (fault_place holder e)

-- a concatenation begins at the left, so its last part has position 0
abbrev pub joined : {A : Type 0} → List (List A) → List A
joined [] = []
joined (part ∷ parts) = joined parts ++ part

abbrev pub lone_value : Params → Place → ℕ → SeenExpr → Answer OpenBits
lone_value ps holder width e = evaluate ps holder e >>= fit_number holder (fault_place holder e) width

abbrev pub parts_value : Params → Place → ℕ → List SeenExpr → Answer OpenBits
parts_value ps holder width es = each (one_part ps holder) es
    >>= λ parts. fit_sized holder width (joined parts)

-- a value in the width that is wanted: a number alone, or a concatenation
unfoldable pub value_in : Params → Place → ℕ → List SeenExpr → Answer OpenBits
value_in ps holder width (e ∷ []) = lone_value ps holder width e
value_in ps holder width es = parts_value ps holder width es
