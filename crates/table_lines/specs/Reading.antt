-- Texts as the readers go over them.
use Rattle.std.specs.Prelude.{ℕ, suc, ◌==◌, Bool, not, cond, List, [], ◌∷◌, map}
use Rattle.std.proofs.Common.{Bor}
use Rattle.ij_bits.specs.BitLists.{number_of}
use Rattle.ij_text.specs.Numbers.{Written, InDecimal, InBits, seen}
use Rattle.ij_text.specs.declared.number.Number.{Number}
use Rattle.ij_text.specs.declared.Place.{Place}
use Rattle.ij_text.specs.Bytes.{is_line_blank}
use Rattle.table_lines.specs.declared.bytes.Class.{Class}
use Rattle.table_lines.specs.declared.bytes.Class.TheVariants.{Blank, Word, Shown, Until}
use Rattle.table_lines.specs.Lines.{in_word, Line, words, lines, lines_from}
use Rattle.table_lines.specs.Words.{is_one}

abbrev pub in_class : Class → ℕ → Bool
in_class Blank b = is_line_blank b
in_class Word b = in_word b
in_class Shown b = not (b == 35)
in_class (Until at) b = not (b == at)

-- how many bytes at the front are of a class
abbrev pub run_length : Class → List ℕ → ℕ
run_length class [] = 0
run_length class (b ∷ bs) = cond (in_class class b) (suc (run_length class bs)) 0

-- words as plain lists
abbrev pub texts : List (Bor (List ℕ)) → List (List ℕ)
texts ws = map (λ w. w.now) ws

-- the lines of a text, the first of them having a number
unfoldable pub lines_left : ℕ → List ℕ → List Line
lines_left n text = lines_from n (lines text)

abbrev pub seen_line : Place → List ℕ → Line
seen_line at text = record { at = at; words = words text }

-- the number that is there, open bits being 0
abbrev pub value_of : Written → ℕ
value_of (InDecimal n) = n
value_of (InBits bits) = number_of (map is_one bits)

abbrev pub plain_value : Number → ℕ
plain_value n = value_of (seen n)
