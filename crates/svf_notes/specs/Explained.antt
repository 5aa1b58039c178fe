-- An SVF text once more, with a note after each scan (Serial Vector Format, revision E: comments; SIR, SDR).
use Rattle.std.specs.Prelude.{◌≡◌, ℕ, suc, ◌==◌, Bool, true, false, cond, List, [], ◌∷◌, ◌++◌, drop, length}
use Rattle.std.specs.Prelude.{map, take, Ok, Option}
use Rattle.std.specs.List.{AllByRecursion}
use Rattle.ij_io.specs.Bytes.{AddsPart}
use Rattle.ij_io.specs.Files.{Files}
use Rattle.ij_io.specs.Pieces.{HoldsFront}
use Rattle.net_graph.specs.declared.device.Device.{Device}
use Rattle.net_graph.specs.declared.net.Net.{Net}
use Rattle.net_graph.specs.Nets.{IsNet}
use Rattle.instruments.specs.Seen.{SeenModel}
use Rattle.svf_writer.specs.SeenCommands.{SeenCommand}
use Rattle.svf_reader.specs.Commands.{is_scan}
use Rattle.svf_reader.specs.Meaning.{svf}
use Rattle.svf_reader.specs.Scripts.{IsOnLine}
use Rattle.svf_reader.specs.Texts.{first, plain, texts, words}
use Rattle.svf_notes.specs.Notes.{note_text, notes}

-- the line feed that closes a note, unless the text goes on with one
abbrev pub closing_line_feed : List ℕ → List ℕ
closing_line_feed rest = cond (first rest == 10) [] (10 ∷ [])

-- what comes after the `;` of a command: where it is a scan, the first note that is left
abbrev pub note_at : Bool → List (List ℕ) → List ℕ → List ℕ
note_at false notes rest = []
note_at true [] rest = []
note_at true (n ∷ ns) rest = n ++ closing_line_feed rest

abbrev pub notes_left : Bool → List (List ℕ) → List (List ℕ)
notes_left false notes = notes
notes_left true notes = drop 1 notes

-- a text, cut as its plain text is cut into commands at each `;` that is in no comment
abbrev pub with_notes : List (List ℕ) → List (List ℕ) → List ℕ → List ℕ
with_notes [] notes src = src
with_notes (t ∷ []) notes src = src
with_notes (t ∷ u ∷ us) notes src =
    let n = suc (length t) in
    let scans = is_scan (words t) in
    take n src
    ++ (note_at scans notes (drop n src) ++ with_notes (u ∷ us) (notes_left scans notes) (drop n src))

unfoldable pub explained : List (List ℕ) → List ℕ → List ℕ
explained notes src = with_notes (texts (plain src)) notes src

-- the notes are those of the scans of a play from power-up
unfoldable pub explained_text : Net → Device → List SeenModel → List SeenCommand → List ℕ → List ℕ
explained_text net device models commands src = explained (notes net device models commands) src

-- a file holds some first bytes of these old ones with the text after them
abbrev pub HoldsSome : Option Files → List ℕ → Option (List ℕ) → List ℕ → Type 0
HoldsSome files name old text = (held : Option (List ℕ)) × AddsPart old held text × HoldsFront files name held

-- Whatever the notes are, as long as no line of them has a line feed, an SVF text has the same commands with
-- them as without them.
abbrev pub SameCommands : Type 0
SameCommands =
    (notes : List (List (List ℕ))) (src : List ℕ) (commands : List SeenCommand)
    → AllByRecursion (AllByRecursion IsOnLine) notes → svf src ≡ Ok commands
    → svf (explained (map note_text notes) src) ≡ Ok commands

-- So a text that is explained has the commands that it had.
abbrev pub ExplainedIsSame : Type 0
ExplainedIsSame =
    (net : Net) (device : Device) (models : List SeenModel) (src : List ℕ) (commands : List SeenCommand)
    → IsNet net → svf src ≡ Ok commands
    → svf (explained_text net device models commands src) ≡ Ok commands
