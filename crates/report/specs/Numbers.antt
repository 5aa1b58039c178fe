-- Numbers of a width in hexadecimal digits.
use Rattle.std.specs.Prelude.{ℕ, zero, suc, ◌+◌, ◌*◌, ◌/◌, ◌%◌, ◌^◌, List, [], ◌∷◌}
use Rattle.ij_bits.specs.Hex.{hex_code}

-- the lowest n digits of a number, the highest first
abbrev pub lowest_digits : ℕ → ℕ → List ℕ
lowest_digits number zero = []
lowest_digits number (suc n) = hex_code (number / 2 ^ (4 * n) % 16) ∷ lowest_digits number n

-- as many digits as this many bits take
abbrev pub hex_number : ℕ → ℕ → List ℕ
hex_number width number = lowest_digits number ((width + 3) / 4)
