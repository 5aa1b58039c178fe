-- How an SVF text falls into comments, commands and words (Serial Vector Format, revision E).
use Rattle.std.specs.Prelude.{ℕ, suc, ◌==◌, Bool, true, false, not, ◌&&◌, ◌||◌, cond, List, [], ◌∷◌}
use Rattle.ij_text.specs.Bytes.{is_blank}
use Rattle.ij_text.specs.Parts.{before, longer}

-- ---- comments

-- the first byte, or 0 where there is none
abbrev pub first : List ℕ → ℕ
first [] = 0
first (b ∷ bs) = b

-- a comment begins at `!` (33) and at `//` (47)
abbrev pub opens : ℕ → ℕ → Bool
opens b next = b == 33 || (b == 47 && next == 47)

-- whether a byte is in a comment, told from the byte before it and the one after it: a comment lasts up
-- to the line feed that ends its line, which isn't in it
abbrev pub in_comment : Bool → ℕ → ℕ → Bool
in_comment true b next = not (b == 10)
in_comment false b next = opens b next

-- a text with each byte of a comment as a space, so that every other byte keeps its place
abbrev pub plain_from : Bool → List ℕ → List ℕ
plain_from inside [] = []
plain_from inside (b ∷ bs) = cond (in_comment inside b (first bs)) 32 b
    ∷ plain_from (in_comment inside b (first bs)) bs

abbrev pub plain : List ℕ → List ℕ
plain text = plain_from false text

-- ---- commands

-- what comes before each `;` (59), and last what comes after all of them
abbrev pub texts : List ℕ → List (List ℕ)
texts [] = [] ∷ []
texts (b ∷ bs) = cond (b == 59) ([] ∷ texts bs) (before b (texts bs))

-- ---- words

-- parentheses
abbrev pub is_parenthesis : ℕ → Bool
is_parenthesis b = b == 40 || b == 41

abbrev pub is_any : ℕ → Bool
is_any b = false

-- a byte of a longer word, where the bytes that `alone` tells are words by themselves
abbrev pub in_word : (ℕ → Bool) → ℕ → Bool
in_word alone b = not (is_blank b || alone b)

abbrev pub goes_on : (ℕ → Bool) → List ℕ → Bool
goes_on alone [] = false
goes_on alone (b ∷ bs) = in_word alone b

abbrev pub cut : (ℕ → Bool) → List ℕ → List (List ℕ)
cut alone [] = []
cut alone (b ∷ bs) =
    cond (is_blank b) (cut alone bs)
    (cond (alone b) ((b ∷ []) ∷ cut alone bs)
    (longer (goes_on alone bs) b (cut alone bs)))

-- the words of a text: parentheses, and the longest runs of bytes that are neither blank nor parentheses
abbrev pub words : List ℕ → List (List ℕ)
words text = cut is_parenthesis text

-- the longest runs of bytes that aren't blank
abbrev pub runs : List ℕ → List (List ℕ)
runs text = cut is_any text

-- what comes after the bytes of a word at the front
abbrev pub after_bytes : List ℕ → List ℕ
after_bytes [] = []
after_bytes (b ∷ bs) = cond (in_word is_parenthesis b) (after_bytes bs) (b ∷ bs)

-- the text after the first word
abbrev pub after_word : List ℕ → List ℕ
after_word [] = []
after_word (b ∷ bs) = cond (is_blank b) (after_word bs) (cond (is_parenthesis b) bs (after_bytes bs))

-- how many blanks stand at the front
abbrev pub blanks : List ℕ → ℕ
blanks [] = 0
blanks (b ∷ bs) = cond (is_blank b) (suc (blanks bs)) 0
