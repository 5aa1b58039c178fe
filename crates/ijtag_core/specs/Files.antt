-- The files of a made design, and what is known of a call that writes some files.
use Rattle.std.specs.Prelude.{◌≡◌, ℕ, List, [], ◌∷◌, Option}
use Rattle.design_maker.specs.declared.texts.Made.{Made}
use Rattle.ij_io.specs.Causes.{Rose}
use Rattle.ij_io.specs.Files.{Files, file_at}
use Rattle.ijtag_work.specs.Loads.{IsNoneOf, IsOneOf}
use Rattle.ijtag_work.specs.Leaves.{Written}
use Rattle.ijtag_work.specs.Seen.{seen_made_name}
use Rattle.ijtag_work.specs.Stops.{Stop, Usage, Refuses, ReadFault, WriteFault, OutputFault, NoMemory}
use Rattle.ijtag_core.specs.declared.made_files.MadeFile.{MadeFile}

abbrev pub text_of : MadeFile → List ℕ
text_of file = file.text.now

abbrev pub seen_file : MadeFile → Written
seen_file file = record { name = seen_made_name file.name; bytes = text_of file }

-- the four texts, in the order of the files
abbrev pub texts_of : Made → List (List ℕ)
texts_of made = made.icl.items ∷ made.pdl.items ∷ made.device.items ∷ made.tables.items ∷ []

abbrev pub file_names : List Written → List (List ℕ)
file_names [] = []
file_names (w ∷ ws) = w.name ∷ file_names ws

-- no two of them have one name
abbrev pub AreApart : List Written → Type 0
AreApart [] = Unit {0}
AreApart (w ∷ ws) = IsNoneOf (file_names ws) w.name × AreApart ws

-- no file changes but those of these names
abbrev pub OthersAllStay : List (List ℕ) → Option Files → Option Files → Type 0
OthersAllStay names old new = (other : List ℕ) → IsNoneOf names other → file_at new other ≡ file_at old other

-- a store under one of these names failed, or there was no memory
abbrev pub IsWriteStopOf : List (List ℕ) → (List ℕ → ℕ) → (List ℕ → ℕ) → Stop → Type 0
IsWriteStopOf names before now (WriteFault name) = IsOneOf names name × Rose (before name) (now name)
IsWriteStopOf names before now NoMemory = Unit {0}
IsWriteStopOf names before now Usage = ⊥
IsWriteStopOf names before now (Refuses refusal) = ⊥
IsWriteStopOf names before now (ReadFault name) = ⊥
IsWriteStopOf names before now OutputFault = ⊥
