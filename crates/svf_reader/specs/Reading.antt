-- Texts as the reader goes over them, comments and all.
use Rattle.std.specs.Prelude.{ℕ, suc, ◌==◌, Bool, false, not, ◌&&◌, ◌||◌, cond, List, [], ◌∷◌}
use Rattle.svf_reader.specs.declared.bytes.Class.{Class}
use Rattle.svf_reader.specs.declared.bytes.Class.TheVariants.{Gap, Word, Run, Command}
use Rattle.ij_text.specs.Bytes.{is_blank}
use Rattle.svf_reader.specs.Texts.{first, in_comment, is_parenthesis, in_word, is_any, words, runs, plain}

abbrev pub in_class : Class → Bool → ℕ → Bool
in_class Gap hidden b = hidden || is_blank b
in_class Word hidden b = not hidden && in_word is_parenthesis b
in_class Run hidden b = not hidden && in_word is_any b
in_class Command hidden b = hidden || not (b == 59)

-- how many bytes at the front are of a class
abbrev pub run_length : Class → Bool → List ℕ → ℕ
run_length class inside [] = 0
run_length class inside (b ∷ bs) =
    cond (in_class class (in_comment inside b (first bs)) b)
    (suc (run_length class (in_comment inside b (first bs)) bs)) 0

-- how long the first word is, where no gap comes before
abbrev pub word_length : List ℕ → ℕ
word_length text = cond (is_parenthesis (first text)) 1 (run_length Word false text)

-- the words and the runs of a text, after its comments
unfoldable pub words_of : List ℕ → List (List ℕ)
words_of text = words (plain text)

unfoldable pub runs_of : List ℕ → List (List ℕ)
runs_of text = runs (plain text)
