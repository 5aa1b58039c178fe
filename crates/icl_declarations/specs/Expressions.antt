-- The value of an expression (IEEE 1687-2014: numbers, parameters and operators), or the first fault in it.
-- A fault of a parameter or of an operator is at that token, and every other one at what holds the
-- expression.
use Rattle.std.specs.Prelude.{ℕ, ◌+◌, ◌-◌, ◌*◌, ◌/◌, ◌%◌, ◌==◌, ◌^◌, Bool, true, false, ◌&&◌, cond, nat_lt}
use Rattle.std.specs.Prelude.{List, [], ◌∷◌, map, Option, Some, None, Ok, Err}
use Rattle.std.specs.List.{list_all}
use Rattle.std.specs.Option.{is_some, unwrap_or}
use Rattle.ij_bits.specs.BitLists.{number_of}
use Rattle.ij_text.specs.declared.Place.{Place}
use Rattle.ij_text.specs.Numbers.{decimal_from}
use Rattle.icl_lexer.specs.declared.tree.Sign.{Sign}
use Rattle.icl_lexer.specs.declared.tree.Sign.TheVariants.{Plus, Minus, Times, Over, Rest}
use Rattle.icl_lexer.specs.Values.{SeenExpr, ADecimal, ASized, AQuoted, AParam, AnOp}
use Rattle.icl_declarations.specs.Faults.{Answer, ◌>>=◌, NoParameter, DivideByZero, BadNumber, WrongKind}
use Rattle.icl_declarations.specs.Values.{OpenBits, ParamValue, AnInteger, SomeBits, AText, Params}
use Rattle.icl_declarations.specs.Values.{param_value}
use Rattle.icl_declarations.specs.Sized.{front, after, normalized_digits, based_number_bits, within_size}
use Rattle.icl_declarations.specs.Sized.{at_most_4096}

-- ---- integers

-- integers are below 2^32
abbrev pub small : Place → ℕ → Answer ℕ
small at n = cond (nat_lt n (2 ^ 32)) (Ok n) (Err (BadNumber at))

-- the number of bits without x
unfoldable pub closed_number : Place → OpenBits → Answer ℕ
closed_number at bits = cond (list_all is_some bits)
    (small at (number_of (map (λ b. unwrap_or b false) bits))) (Err (BadNumber at))

abbrev pub as_integer : Place → ParamValue → Answer ℕ
as_integer at (AnInteger n) = Ok n
as_integer at (SomeBits sized bits) = closed_number at bits
as_integer at (AText text) = Err (WrongKind at)

-- ---- parameters

abbrev pub known : Place → List ℕ → Option ParamValue → Answer ParamValue
known at name None = Err (NoParameter at name)
known at name (Some value) = Ok value

abbrev pub parameter : Params → Place → List ℕ → Answer ParamValue
parameter ps at name = known at name (param_value ps name)

-- ---- sized numbers

-- a size is from 1 to 4096
abbrev pub size : Place → ℕ → Answer (Option ℕ)
size at n = cond (nat_lt 0 n && nat_lt n 4097) (Ok (Some n)) (Err (BadNumber at))

abbrev pub parameter_size : Params → Place → List ℕ → Answer (Option ℕ)
parameter_size ps at name = parameter ps at name >>= as_integer at >>= size at

-- a parameter after `$` (36), a decimal, or none
unfoldable pub size_of : Params → Place → List ℕ → Answer (Option ℕ)
size_of ps at [] = Ok None
size_of ps at (b ∷ bs) = cond (b == 36) (parameter_size ps at bs) (size at (decimal_from 0 (b ∷ bs)))

abbrev pub told : Place → Bool → Option OpenBits → Answer ParamValue
told at sized None = Err (BadNumber at)
told at sized (Some bits) = Ok (SomeBits sized bits)

abbrev pub number_of_size : Place → Option OpenBits → Option ℕ → Answer ParamValue
number_of_size at None n = Err (BadNumber at)
number_of_size at (Some bits) None = told at false (at_most_4096 bits)
number_of_size at (Some bits) (Some n) = told at true (within_size n bits)

unfoldable pub sized_number : Params → Place → List ℕ → Answer ParamValue
sized_number ps at text = size_of ps at (front text) >>= number_of_size at (based_number_bits
    (normalized_digits (after text)))

-- ---- operators

abbrev pub difference : Place → ℕ → ℕ → Answer ℕ
difference at a b = cond (nat_lt a b) (Err (BadNumber at)) (Ok (a - b))

abbrev pub undivided : Place → ℕ → ℕ → Answer ℕ
undivided at b n = cond (b == 0) (Err (DivideByZero at)) (Ok n)

unfoldable pub operate : Place → Sign → ℕ → ℕ → Answer ℕ
operate at Plus a b = small at (a + b)
operate at Minus a b = difference at a b
operate at Times a b = small at (a * b)
operate at Over a b = undivided at b (a / b)
operate at Rest a b = undivided at b (a % b)

-- ---- expressions

-- where a fault of an expression's own value is
abbrev pub fault_place : Place → SeenExpr → Place
fault_place holder (ADecimal n) = holder
fault_place holder (ASized text) = holder
fault_place holder (AQuoted text) = holder
fault_place holder (AParam at name) = at
fault_place holder (AnOp at sign a b) = holder

unfoldable pub evaluate : Params → Place → SeenExpr → Answer ParamValue
evaluate ps holder (ADecimal n) = Ok (AnInteger n)
evaluate ps holder (ASized text) = sized_number ps holder text
evaluate ps holder (AQuoted text) = Ok (AText text)
evaluate ps holder (AParam at name) = parameter ps at name
evaluate ps holder (AnOp at sign a b) = do
  left ← evaluate ps holder a >>= as_integer (fault_place holder a)
  right ← evaluate ps holder b >>= as_integer (fault_place holder b)
  n ← operate at sign left right
  Ok (AnInteger n)

-- an expression where an integer is wanted
abbrev pub integer : Params → Place → SeenExpr → Answer ℕ
integer ps holder e = evaluate ps holder e >>= as_integer (fault_place holder e)
