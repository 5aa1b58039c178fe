-- The bits of a hexadecimal text (Serial Vector Format, revision E): position 0 is the lowest bit of the last
-- digit.
use Rattle.std.specs.Prelude.{ℕ, Bool, false, List, [], ◌∷◌, ◌++◌, take, drop, replicate}
use Rattle.ij_bits.specs.BitLists.{bits_of, has_one}
use Rattle.ij_text.specs.Numbers.{hex_value as digit_value}

-- four bits for each digit, those of the first digit last
abbrev pub hex_bits : List ℕ → List Bool
hex_bits [] = []
hex_bits (d ∷ ds) = hex_bits ds ++ bits_of 4 (digit_value d)

-- exactly `len` bits: those that are missing are zeros
unfoldable pub fitted : ℕ → List Bool → List Bool
fitted len bits = take len (bits ++ replicate len false)

-- whether there is a 1 at position `len` or above
unfoldable pub is_wide : ℕ → List Bool → Bool
is_wide len bits = has_one (drop len bits)
