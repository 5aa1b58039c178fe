-- The numbers of PDL (IEEE 1687-2014): decimals, `0b` with the digits 0, 1 and x, and `0x` with hexadecimal
-- digits and x. Any number of `_` may stand between two digits.
use Rattle.std.specs.Prelude.{◌≢◌, ℕ, ◌+◌, ◌-◌, ◌*◌, ◌^◌, ◌<◌, ◌≤◌, ◌==◌, Bool, true, false, ◌&&◌, ◌||◌, cond}
use Rattle.std.specs.Prelude.{nat_lt, List, [], ◌∷◌, ◌++◌, length, map, get_or, Option, Some, None}
use Rattle.std.specs.Char.{is_ascii_digit, is_ascii_hexdigit}
use Rattle.std.specs.List.{range_with_len}
use Rattle.ij_bits.specs.BitLists.{bits_of}
use Rattle.ij_bits.specs.declared.tern.Tern.{Tern}
use Rattle.ij_text.specs.declared.number.Number.{Number}
use Rattle.ij_text.specs.declared.number.Number.TheVariants.{Decimal, Digits}
use Rattle.ij_text.specs.declared.digits.Radix.{Radix}
use Rattle.ij_text.specs.declared.digits.Radix.TheVariants.{Ten, Two, Sixteen}

-- ---- digits

-- an `x` (120) stands for open bits
abbrev pub is_digit : Radix → ℕ → Bool
is_digit Ten b = is_ascii_digit b
is_digit Two b = b == 48 || (b == 49 || b == 120)
is_digit Sixteen b = is_ascii_hexdigit b || b == 120

-- digits and `_` (95), the last of them a digit; it is told whether a digit comes before
abbrev pub is_rest_of_digits : Radix → Bool → List ℕ → Bool
is_rest_of_digits radix after_digit [] = after_digit
is_rest_of_digits radix after_digit (b ∷ bs) =
    cond (is_digit radix b) (is_rest_of_digits radix true bs) (b == 95 && is_rest_of_digits radix false bs)

-- a digit, and then digits and `_`, the last of them a digit
abbrev pub are_digits : Radix → List ℕ → Bool
are_digits radix [] = false
are_digits radix (b ∷ bs) = is_digit radix b && is_rest_of_digits radix true bs

-- ---- values

-- a decimal, of which the digits so far stand for n
abbrev pub with_decimal_digit : ℕ → ℕ → ℕ
with_decimal_digit n b = cond (b == 95) n (10 * n + (b - 48))

abbrev pub decimal_from : ℕ → List ℕ → ℕ
decimal_from n [] = n
decimal_from n (b ∷ bs) = decimal_from (with_decimal_digit n b) bs

-- a decimal of at most 4,294,967,295
abbrev pub small : ℕ → Option ℕ
small n = cond (nat_lt 4294967295 n) None (Some n)

-- a digit's value: 0 to 9, A to F, a to f
abbrev pub hex_value : ℕ → ℕ
hex_value b = cond (nat_lt b 58) (b - 48) (cond (nat_lt b 71) (b - 55) (b - 87))

-- the bits of a digit, the lowest first, each 0, 1 or open; a decimal has none
abbrev pub digit_bits : Radix → ℕ → List (Option Bool)
digit_bits Ten b = []
digit_bits Two b = cond (b == 120) None (Some (b == 49)) ∷ []
digit_bits Sixteen b = map (λ bit. cond (b == 120) None (Some bit)) (bits_of 4 (hex_value b))

-- the bits of a text: position 0 is the lowest bit of its last digit
abbrev pub text_bits : Radix → List ℕ → List (Option Bool)
text_bits radix [] = []
text_bits radix (b ∷ bs) = text_bits radix bs ++ cond (b == 95) [] (digit_bits radix b)

-- ---- numbers

pub data Written : Type 0 where
  InDecimal : ℕ → Written
  InBits : List (Option Bool) → Written

abbrev pub value_of : Radix → List ℕ → Written
value_of Ten text = InDecimal (decimal_from 0 text)
value_of Two text = InBits (text_bits Two text)
value_of Sixteen text = InBits (text_bits Sixteen text)

abbrev pub said : Radix → List ℕ → Option Written
said radix text = cond (are_digits radix text) (Some (value_of radix text)) None

-- the number that a text says, if it is one: after `0b` (48, 98) and `0x` (48, 120) stand binary and
-- hexadecimal digits
abbrev pub number_of_text : List ℕ → Option Written
number_of_text [] = None
number_of_text (a ∷ []) = said Ten (a ∷ [])
number_of_text (a ∷ b ∷ bs) = cond (a == 48 && b == 98) (said Two bs)
    (cond (a == 48 && b == 120) (said Sixteen bs) (said Ten (a ∷ b ∷ bs)))

-- a decimal above 2^128 - 1, and digits for more than 4096 bits
abbrev pub IsTooWide : Written → Type 0
IsTooWide (InDecimal n) = 2 ^ 128 ≤ n
IsTooWide (InBits bits) = 4096 < length bits

-- a text says a number that is too wide
abbrev pub SaysTooWide : Option Written → Type 0
SaysTooWide None = ⊥
SaysTooWide (Some w) = IsTooWide w

-- ---- what contracts see of numbers

-- bits of which some are open, each with whether it counts
abbrev pub open_bits : List Bool → List Bool → List (Option Bool)
open_bits [] cs = []
open_bits (v ∷ vs) [] = []
open_bits (v ∷ vs) (c ∷ cs) = cond c (Some v) None ∷ open_bits vs cs

abbrev pub tern_bits : Tern → List (Option Bool)
tern_bits t = open_bits t.value.items t.care.items

abbrev pub seen : Number → Written
seen (Decimal n) = InDecimal n
seen (Digits t) = InBits (tern_bits t)

-- the bits of a number below a width, with zeros past its end
abbrev pub bits_in : ℕ → Written → List (Option Bool)
bits_in width (InDecimal n) = map (λ bit. Some bit) (bits_of width n)
bits_in width (InBits bits) = map (λ k. get_or bits k (Some false)) (range_with_len 0 width)

-- a number has a 1 or an open bit at the width or above
abbrev pub IsWide : ℕ → Written → Type 0
IsWide width (InDecimal n) = 2 ^ width ≤ n
IsWide width (InBits bits) = (k : ℕ) × (width ≤ k) × (k < length bits)
    × (get_or bits k (Some false) ≢ Some false)
