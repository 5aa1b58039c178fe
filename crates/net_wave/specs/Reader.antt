-- A reader of value change dumps (IEEE 1364-2005, 18.2): what a text tells of a variable at a time, and what
-- it declares. It knows of the text alone, and nothing of what wrote it.
use Rattle.std.specs.Prelude.{ℕ, zero, suc, ◌+◌, ◌*◌, ◌-◌, ◌==◌, nat_lt, Bool, false, cond, List, [], ◌∷◌}
use Rattle.std.specs.Prelude.{◌++◌, codes, drop, get_or, length, map}
use Rattle.std.specs.Str.{bytes_eq}

-- ---- lines and words

abbrev pub put_first : ℕ → List (List ℕ) → List (List ℕ)
put_first x [] = (x ∷ []) ∷ []
put_first x (l ∷ ls) = (x ∷ l) ∷ ls

-- what is between the bytes of one value
abbrev pub split : ℕ → List ℕ → List (List ℕ)
split at [] = [] ∷ []
split at (x ∷ xs) = cond (x == at) ([] ∷ split at xs) (put_first x (split at xs))

-- a line feed is 10, a blank 32
abbrev pub lines : List ℕ → List (List ℕ)
lines text = split 10 text

abbrev pub words : List ℕ → List (List ℕ)
words line = split 32 line

-- the number that decimal digits are, after those of another
abbrev pub number_from : ℕ → List ℕ → ℕ
number_from n [] = n
number_from n (d ∷ ds) = number_from (10 * n + (d - 48)) ds

-- ---- what a line tells

-- a time begins; a variable, by its code, has these digits from now on; anything else
pub data Event : Type 0 where
  At : ℕ → Event
  Told : List ℕ → List ℕ → Event
  Other : Event

-- after b (98): digits and a code
abbrev pub vector : List (List ℕ) → Event
vector [] = Other
vector (digits ∷ []) = Other
vector (digits ∷ code ∷ []) = Told code digits
vector (digits ∷ code ∷ _ ∷ _) = Other

-- # (35) begins a time, $ (36) a word of the format, b more bits than one; else the first byte is the bit and
-- the rest the code
abbrev pub event : List ℕ → Event
event [] = Other
event (c ∷ rest) =
    cond (c == 35) (At (number_from 0 rest))
    (cond (c == 36) Other (cond (c == 98) (vector (words rest)) (Told rest (c ∷ []))))

abbrev pub events : List ℕ → List Event
events text = map event (lines text)

-- ---- what a variable is at a time

-- the digits that were written last of the variable of a code, up to a time: those before the first time
-- after it
abbrev pub told_at : ℕ → List ℕ → List ℕ → List Event → List ℕ
told_at time code last [] = last
told_at time code last (At t ∷ es) = cond (nat_lt time t) last (told_at time code last es)
told_at time code last (Told c digits ∷ es) = told_at time code (cond (bytes_eq c code) digits last) es
told_at time code last (Other ∷ es) = told_at time code last es

-- with zeros (48) at the left, up to the width of the variable
abbrev pub zeros : ℕ → List ℕ
zeros zero = []
zeros (suc n) = 48 ∷ zeros n

abbrev pub padded : ℕ → List ℕ → List ℕ
padded width [] = []
padded width (d ∷ ds) = zeros (width - length (d ∷ ds)) ++ (d ∷ ds)

abbrev pub read_value : List ℕ → List ℕ → ℕ → ℕ → List ℕ
read_value text code width time = padded width (told_at time code [] (events text))

-- ---- declarations

-- a variable that is declared: its code, how many bits it has, and its name
pub record Declared : Type 0 where
  pub code : List ℕ
  pub width : ℕ
  pub name : List ℕ

-- the words of a line: $var, the sort, the width, the code and the name, after which a range and the end may
-- come
abbrev pub declared_in : List (List ℕ) → List Declared
declared_in (word ∷ sort ∷ width ∷ code ∷ name ∷ rest) =
    cond (bytes_eq word (codes "$var"))
    (record { code = code; width = number_from 0 width; name = name } ∷ []) []
declared_in _ = []

-- the line at which declarations end
abbrev pub ends_in : List (List ℕ) → Bool
ends_in [] = false
ends_in (word ∷ rest) = bytes_eq word (codes "$enddefinitions")

abbrev pub declared_to_end : List (List ℕ) → List Declared
declared_to_end [] = []
declared_to_end (line ∷ more) =
    cond (ends_in (words line)) [] (declared_in (words line) ++ declared_to_end more)

abbrev pub read_declared : List ℕ → List Declared
read_declared text = declared_to_end (lines text)

-- ---- scopes

-- the scopes that are open after a line, the innermost first: $scope, the sort and the name open one, and
-- $upscope closes it
abbrev pub open_after : List (List ℕ) → List (List ℕ) → List (List ℕ)
open_after scopes [] = scopes
open_after scopes (word ∷ rest) =
    cond (bytes_eq word (codes "$scope")) (get_or rest 1 [] ∷ scopes)
    (cond (bytes_eq word (codes "$upscope")) (drop 1 scopes) scopes)

-- those that are open at each line that declares a variable
abbrev pub scopes_to_end : List (List ℕ) → List (List ℕ) → List (List (List ℕ))
scopes_to_end scopes [] = []
scopes_to_end scopes (line ∷ more) =
    cond (ends_in (words line)) []
    (map (λ it. scopes) (declared_in (words line)) ++ scopes_to_end (open_after scopes (words line)) more)

abbrev pub read_scopes : List ℕ → List (List (List ℕ))
read_scopes text = scopes_to_end [] (lines text)
