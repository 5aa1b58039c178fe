-- How the code goes: a call that loads files and follows work.
use Rattle.std.specs.Prelude.{◌≡◌, ◌≤◌, ℕ, List, [], ◌∷◌, length, map, Vec, Option, Result, Ok, Err}
use Rattle.std.specs.declared.alloc.Global.{Global}
use Rattle.ij_io.specs.Files.{Files}
use Rattle.ijtag_work.specs.Loads.{Load}
use Rattle.ijtag_stages.specs.Refusals.{Part}
use Rattle.ijtag_work.specs.Runs.{IsReadFault}
use Rattle.ijtag_work.specs.Seen.{seen_stop}
use Rattle.ijtag_work.specs.Stops.{Stop, Usage, Refuses, ReadFault, WriteFault, OutputFault, NoMemory}
use Rattle.ijtag_work.specs.declared.stop.Stop.{Stop as RustStop}

-- a stop of work that is done while files are loaded
abbrev pub IsLoadStop : {A : Type 0} → Option Files → List Load
    → (List ℕ → ℕ) → (List ℕ → ℕ) → Part A → Stop → Type 0
IsLoadStop files loads before now work (Refuses refusal) = work.refuses refusal
IsLoadStop files loads before now work (ReadFault name) = IsReadFault files loads before now name
IsLoadStop files loads before now work NoMemory = Unit {0}
IsLoadStop files loads before now work Usage = ⊥
IsLoadStop files loads before now work (WriteFault name) = ⊥
IsLoadStop files loads before now work OutputFault = ⊥

-- a call that loads these files and follows the work
abbrev pub LoadsAndFollows : {A B : Type 0} → Option Files → List Load → (List ℕ → ℕ) → (List ℕ → ℕ)
    → Part B → (A → B) → Result A RustStop → Type 0
LoadsAndFollows files loads before now work view (Ok a) = work.gives (view a)
LoadsAndFollows files loads before now work view (Err stop) =
    IsLoadStop files loads before now work (seen_stop stop)

-- ---- texts that were loaded

abbrev pub seen_texts : List (Vec ℕ Global) → List (List ℕ)
seen_texts texts = map (λ text. text.items) texts

abbrev pub AreShort : List (List ℕ) → Type 0
AreShort [] = Unit {0}
AreShort (text ∷ texts) = (length text ≤ 134217728) × AreShort texts

-- this many, each short enough for the readers
pub record AreTexts (n : ℕ) (texts : List (List ℕ)) : Type 0 where
  pub count : length texts ≡ n
  pub short : AreShort texts
