-- The identifier codes of variables (IEEE 1364-2005, 18.2.3: printable bytes), by their numbers: TCK has 0,
-- the others count from 1.
use Rattle.std.specs.Prelude.{ℕ, zero, suc, ◌+◌, ◌-◌, ◌/◌, ◌%◌, ◌==◌, cond, List, [], ◌∷◌}

-- at most this many digits in base 94, the lowest first; 33 is the first printable byte. In bijective base a
-- longer code begins where the shorter ones end: 0 to 93 have one digit, and 94 is 33 33
abbrev pub code_digits : ℕ → ℕ → List ℕ
code_digits zero n = []
code_digits (suc k) n = (33 + n % 94) ∷ cond (n / 94 == 0) [] (code_digits k (n / 94 - 1))

abbrev pub code : ℕ → List ℕ
code n = code_digits 10 n
