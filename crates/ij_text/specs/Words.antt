-- Words of ICL and PDL (IEEE 1687-2014).
use Rattle.std.specs.Prelude.{ℕ, ◌==◌, Bool, false, ◌&&◌, ◌||◌, cond, List, [], ◌∷◌, Option, Some, None}
use Rattle.std.specs.Char.{is_ascii_alphabetic, is_ascii_digit}
use Rattle.std.specs.List.{list_all}
use Rattle.std.specs.Str.{bytes_eq}

-- ---- names: a letter or `_`, and then letters, digits and `_`

-- a letter or `_` (95)
abbrev pub begins_name : ℕ → Bool
begins_name b = is_ascii_alphabetic b || b == 95

abbrev pub in_name : ℕ → Bool
in_name b = begins_name b || is_ascii_digit b

abbrev pub is_name : List ℕ → Bool
is_name [] = false
is_name (b ∷ bs) = begins_name b && list_all in_name bs

-- ---- words with a meaning

-- a word, and what it means
pub record Entry (A : Type 0) : Type 0 where
  pub word : List ℕ
  pub meaning : A

-- what a text means among some words
abbrev pub found_in : {A : Type 0} → List (Entry A) → List ℕ → Option A
found_in [] text = None
found_in (entry ∷ entries) text = cond (bytes_eq text entry.word) (Some entry.meaning) (found_in entries text)

-- a text is one of some words
abbrev pub is_one_of : List (List ℕ) → List ℕ → Bool
is_one_of [] text = false
is_one_of (w ∷ ws) text = bytes_eq text w || is_one_of ws text
