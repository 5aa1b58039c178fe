-- Names in a list of distinct ones: the number of a name is its position.
use Rattle.std.specs.Prelude.{◌≡◌, ℕ, ◌<◌, cond, List, [], ◌∷◌, ◌++◌, length, Option, is_some, unwrap_or}
use Rattle.std.specs.Prelude.{position, slice_index_or}
use Rattle.std.specs.Str.{bytes_eq}

-- the number of a name, if it is there
abbrev pub number_in : List (List ℕ) → List ℕ → Option ℕ
number_in names name = position (bytes_eq name) names

-- the number that a name has, or gets as the next one
abbrev pub number_or_next : List (List ℕ) → List ℕ → ℕ
number_or_next names name = unwrap_or (number_in names name) (length names)

-- the names, with one more at the end where it isn't there
abbrev pub with_name : List (List ℕ) → List ℕ → List (List ℕ)
with_name names name = cond (is_some (number_in names name)) names (names ++ name ∷ [])

-- no name is twice
abbrev pub AreDistinct : List (List ℕ) → Type 0
AreDistinct names = (i j : ℕ) → i < length names → j < length names
    → slice_index_or names i [] ≡ slice_index_or names j [] → i ≡ j
