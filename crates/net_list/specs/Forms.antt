-- The two forms of a listing: words in lines, or an object of JSON in each line (RFC 8259).
use Rattle.std.specs.Prelude.{ℕ, zero, suc, cond, List, [], ◌∷◌, ◌++◌, codes, decimal, length}
use Rattle.ij_bits.specs.BitLists.{bit}
use Rattle.ij_bits.specs.declared.tern.Tern.{Tern}
use Rattle.net_list.specs.declared.format.ListFormat.{ListFormat}
use Rattle.net_list.specs.declared.format.ListFormat.TheVariants.{Text, Json}

-- what is in text, and in JSON
abbrev pub text_or_json : ListFormat → List ℕ → List ℕ → List ℕ
text_or_json Text text json = text
text_or_json Json text json = json

-- a field that is a number
abbrev pub counted : ListFormat → List ℕ → List ℕ → ℕ → List ℕ
counted f text json n = text_or_json f text json ++ decimal n

-- items with something between them, and something before the first
abbrev pub items : {T : Type 0} → (T → List ℕ) → List ℕ → List ℕ → List T → List ℕ
items item between before [] = []
items item between before (x ∷ xs) = before ++ (item x ++ items item between between xs)

-- a list: in text these words, the items and blanks between; in JSON these words and a bracket, the items and
-- commas between; text has nothing for an empty one
abbrev pub listed : {T : Type 0} → ListFormat → List ℕ → List ℕ → (T → List ℕ) → List T → List ℕ
listed f text json item xs =
    text_or_json f [] json
    ++ (items item (text_or_json f (codes " ") (codes ",")) (text_or_json f text []) xs ++ text_or_json f [] (codes "]"))

-- the digit of a bit, an x (120) where it is open
abbrev pub tern_digit : Tern → ℕ → ℕ
tern_digit t p = cond (bit t.care.items p) (cond (bit t.value.items p) 49 48) 120

-- the lowest n digits, the highest first
abbrev pub tern_digits : Tern → ℕ → List ℕ
tern_digits t zero = []
tern_digits t (suc n) = tern_digit t n ∷ tern_digits t n

abbrev pub tern_text : Tern → List ℕ
tern_text t = tern_digits t (length t.value.items)

-- select values with bars between
abbrev pub values_text : List Tern → List ℕ
values_text ts = items tern_text (codes "|") [] ts
