-- A reader of the notes of an SVF text: what the lines after the `;` of a scan say. It knows of the text
-- alone, and nothing of what wrote it.
use Rattle.std.specs.Prelude.{ℕ, ◌==◌, ◌&&◌, Bool, false, cond, List, [], ◌∷◌, codes, Option, None, Some}
use Rattle.std.specs.Str.{bytes_eq}
use Rattle.ij_text.specs.Parts.{split}
use Rattle.svf_reader.specs.Commands.{number}
use Rattle.svf_reader.specs.Texts.{runs}

-- a row: the highest and the lowest position of a register in its scan, its name, and digits, those of the
-- highest position first
pub record ReadRow : Type 0 where
  pub high : ℕ
  pub low : ℕ
  pub name : List ℕ
  pub writes : List ℕ
  pub as_before : Bool
  pub expects : Option (List ℕ)
  pub finds : Option (List ℕ)

-- a note: the number of its scan, and its rows
pub record ReadNote : Type 0 where
  pub scan : ℕ
  pub rows : List ReadRow

-- ---- words

abbrev pub is_mark : List ℕ → Bool
is_mark word = bytes_eq word (codes "!:")

-- whether some words begin with a name, the word after it, and the words after both
abbrev pub is_at : List ℕ → List (List ℕ) → Bool
is_at name [] = false
is_at name (w ∷ ws) = bytes_eq w name

abbrev pub value_at : List ℕ → List (List ℕ) → Option (List ℕ)
value_at name [] = None
value_at name (w ∷ []) = None
value_at name (w ∷ v ∷ ws) = cond (bytes_eq w name) (Some v) None

abbrev pub after_value : List ℕ → List (List ℕ) → List (List ℕ)
after_value name [] = []
after_value name (w ∷ []) = w ∷ []
after_value name (w ∷ v ∷ ws) = cond (bytes_eq w name) ws (w ∷ v ∷ ws)

-- ---- rows

-- [ "as" "before" ] [ "expects" DIGITS ] [ "finds" DIGITS ]
abbrev pub row_with : ℕ → ℕ → List ℕ → List ℕ → List (List ℕ) → ReadRow
row_with high low name writes ws =
    let later = after_value (codes "as") ws in
    record {
      high = high;
      low = low;
      name = name;
      writes = writes;
      as_before = is_at (codes "as") ws;
      expects = value_at (codes "expects") later;
      finds = value_at (codes "finds") (after_value (codes "expects") later);
    }

abbrev pub row_of : Option ℕ → Option ℕ → List ℕ → Option (List ℕ) → List (List ℕ) → Option ReadRow
row_of (Some high) (Some low) name (Some writes) ws = Some (row_with high low name writes ws)
row_of _ _ name writes ws = None

-- HIGH..LOW, cut at its dots (46), a name, and "writes" DIGITS
abbrev pub row_at : List (List ℕ) → List ℕ → List (List ℕ) → Option ReadRow
row_at (high ∷ [] ∷ low ∷ []) name ws =
    row_of (number high) (number low) name (value_at (codes "writes") ws) (after_value (codes "writes") ws)
row_at _ name ws = None

abbrev pub read_row : List (List ℕ) → Option ReadRow
read_row (mark ∷ positions ∷ name ∷ ws) = cond (is_mark mark) (row_at (split 46 positions) name ws) None
read_row _ = None

-- a row and those after it: position 0 is in the last one
abbrev pub row_and : Option ReadRow → List ReadRow → List ReadRow
row_and None later = []
row_and (Some row) later = row ∷ cond (row.low == 0) [] later

abbrev pub read_rows : List (List ℕ) → List ReadRow
read_rows [] = []
read_rows (line ∷ lines) = row_and (read_row (runs line)) (read_rows lines)

-- ---- a note

abbrev pub note_with : Option ℕ → List ReadRow → Option ReadNote
note_with None rows = None
note_with (Some scan) rows = Some (record { scan = scan; rows = rows })

-- !: scan N WHAT, and any other words: after `path` rows follow
abbrev pub note_of_words : List (List ℕ) → List ReadRow → Option ReadNote
note_of_words (mark ∷ word ∷ scan ∷ what ∷ ws) rows =
    cond (is_mark mark && bytes_eq word (codes "scan"))
    (note_with (number scan) (cond (bytes_eq what (codes "path")) rows [])) None
note_of_words _ rows = None

-- nothing is left of the line of the command, and a note begins on the next one
abbrev pub note_in : List (List ℕ) → Option ReadNote
note_in ([] ∷ line ∷ lines) = note_of_words (runs line) (read_rows lines)
note_in _ = None

-- the note at the front of a text, a line between line feeds (10); what comes after it plays no part
abbrev pub read_note : List ℕ → Option ReadNote
read_note text = note_in (split 10 text)
