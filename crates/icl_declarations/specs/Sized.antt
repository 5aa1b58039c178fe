-- The bits of a sized number (IEEE 1687-2014), as `4'b1x00`, `$W'hFF` or `'d12`: a size or none, `'`, a base,
-- and digits.
use Rattle.std.specs.Prelude.{ℕ, ◌==◌, ◌^◌, Bool, false, not, ◌&&◌, ◌||◌, cond, nat_lt, List, [], ◌∷◌, ◌++◌}
use Rattle.std.specs.Prelude.{map, filter, length, drop, Option, Some, None}
use Rattle.std.specs.List.{list_all}
use Rattle.std.specs.Char.{to_ascii_lowercase, is_ascii_digit, is_ascii_hexdigit}
use Rattle.ij_bits.specs.BitLists.{bits_of}
use Rattle.ij_text.specs.Numbers.{InBits, bits_in, decimal_from, hex_value}
use Rattle.icl_declarations.specs.Values.{OpenBits, number_bits}

-- ---- the parts of the token

-- what comes before the `'` (39), and what comes after it
abbrev pub front : List ℕ → List ℕ
front [] = []
front (b ∷ bs) = cond (b == 39) [] (b ∷ front bs)

abbrev pub after : List ℕ → List ℕ
after [] = []
after (b ∷ bs) = cond (b == 39) bs (after bs)

-- without `_` (95), and in lower case
abbrev pub normalized_digits : List ℕ → List ℕ
normalized_digits text = map to_ascii_lowercase (filter (λ b. not (b == 95)) text)

-- ---- digits

-- `0`, `1` and `x` (120)
abbrev pub is_binary : ℕ → Bool
is_binary b = b == 48 || b == 49 || b == 120

-- an x is four bits
abbrev pub is_hexadecimal : ℕ → Bool
is_hexadecimal b = is_ascii_hexdigit b || b == 120

-- the bits of a digit, the lowest first
abbrev pub binary_digit : ℕ → OpenBits
binary_digit b = cond (b == 120) None (Some (b == 49)) ∷ []

abbrev pub hex_digit : ℕ → OpenBits
hex_digit b = map (λ bit. cond (b == 120) None (Some bit)) (bits_of 4 (hex_value b))

-- the bits of digits: position 0 is the lowest bit of the last one
abbrev pub digits_bits : (ℕ → OpenBits) → List ℕ → OpenBits
digits_bits digit [] = []
digits_bits digit (b ∷ bs) = digits_bits digit bs ++ digit b

-- a decimal has no x, and is below 2^128
unfoldable pub decimal_bits : List ℕ → Option OpenBits
decimal_bits digits =
    cond (list_all is_ascii_digit digits && nat_lt (decimal_from 0 digits) (2 ^ 128))
    (Some (number_bits 128 (decimal_from 0 digits))) None

-- the bits of digits after a base, `b` (98), `d` (100) or `h` (104); none where they don't suit it
unfoldable pub base_bits : ℕ → List ℕ → Option OpenBits
base_bits base digits =
    cond (base == 98) (cond (list_all is_binary digits) (Some (digits_bits binary_digit digits)) None)
    (cond (base == 104) (cond (list_all is_hexadecimal digits) (Some (digits_bits hex_digit digits)) None)
    (cond (base == 100) (decimal_bits digits) None))

abbrev pub based_number_bits : List ℕ → Option OpenBits
based_number_bits [] = None
based_number_bits (base ∷ digits) = base_bits base digits

-- ---- widths

abbrev pub is_zero : Option Bool → Bool
is_zero None = false
is_zero (Some b) = not b

-- neither a 1 nor an x is at the width or above
abbrev pub fits : ℕ → OpenBits → Bool
fits width bits = list_all is_zero (drop width bits)

-- the bits below a width, with zeros past their end
abbrev pub in_width : ℕ → OpenBits → OpenBits
in_width width bits = bits_in width (InBits bits)

-- ---- numbers

-- the bits in a size: zeros are added or dropped on the left
abbrev pub within_size : ℕ → OpenBits → Option OpenBits
within_size size bits = cond (fits size bits) (Some (in_width size bits)) None

-- the bits without a size, at most 4096 of them
abbrev pub at_most_4096 : OpenBits → Option OpenBits
at_most_4096 bits = cond (nat_lt 4096 (length bits)) None (Some bits)
