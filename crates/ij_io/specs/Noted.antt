-- How often a name was noted.
use Rattle.std.specs.Prelude.{ℕ, List, count_by}
use Rattle.std.specs.Str.{bytes_eq}

-- how often a name is in a list of names
abbrev pub times : List ℕ → List (List ℕ) → ℕ
times name names = count_by (λ other. bytes_eq name other) names
