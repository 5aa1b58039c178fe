-- Written words: bytes, decimal numbers and bits in hexadecimal digits.
use Rattle.std.specs.Prelude.{ℕ, zero, suc, ◌+◌, ◌/◌, ◌==◌, Bool, true, false, List, [], ◌∷◌, ◌++◌, length}
use Rattle.std.specs.Prelude.{drop, decimal}
use Rattle.std.specs.List.{flat_map}
use Rattle.ij_bits.specs.Hex.{hex_digit}
use Rattle.ij_io.specs.declared.words.Word.{Word}
use Rattle.ij_io.specs.declared.words.Word.TheVariants.{Text, Number, Hex}

-- a digit, on a new line where 64 stand in the line
abbrev pub digit_piece : ℕ → ℕ → List ℕ
digit_piece digit column = elim (column == 64) [ true ↦ 10 ∷ digit ∷ [] | false ↦ digit ∷ [] ]

abbrev pub next_column : ℕ → ℕ
next_column column = elim (column == 64) [ true ↦ 1 | false ↦ suc column ]

-- the lowest d digits, the highest first, where `column` stand in the line
abbrev pub hex_lines : List Bool → ℕ → ℕ → List ℕ
hex_lines bits zero column = []
hex_lines bits (suc d) column = digit_piece (hex_digit bits d) column ++ hex_lines bits d (next_column column)

-- a digit for each four bits, position 0 in the rightmost one, 64 digits to a line
unfoldable pub hex_text : List Bool → List ℕ
hex_text bits = hex_lines bits ((length bits + 3) / 4) 0

-- the digits of positions below 4d, at most n of them, the highest first
abbrev pub hex_row : List Bool → ℕ → ℕ → List ℕ
hex_row bits zero n = []
hex_row bits (suc d) zero = []
hex_row bits (suc d) (suc n) = hex_digit bits d ∷ hex_row bits d n

-- a line of at most 64 of the lowest d digits, after a line feed unless one byte is skipped
unfoldable pub hex_line : List Bool → ℕ → ℕ → List ℕ
hex_line bits d skip = drop skip (10 ∷ hex_row bits d 64)

-- a word as it is written
abbrev pub word_text : Word → List ℕ
word_text (Text bytes) = bytes.now
word_text (Number n) = decimal n
word_text (Hex bits) = hex_text bits.now.items

-- words one after the other
unfoldable pub words_text : List Word → List ℕ
words_text words = flat_map word_text words
