-- An SVF file that was written, with the commands that a reader finds in it.
use Rattle.std.specs.Prelude.{◌≡◌, ℕ, List, Option, Some}
use Rattle.std.specs.Option.{option_map}
use Rattle.ij_io.specs.Causes.{Rose}
use Rattle.ij_io.specs.Files.{Files, file_at}
use Rattle.svf_writer.specs.SeenCommands.{SeenCommand}
use Rattle.ijtag_stages.specs.Refusals.{Part}
use Rattle.ijtag_work.specs.Leaves.{Leaves}
use Rattle.ijtag_work.specs.Order.{commands_of}
use Rattle.ijtag_work.specs.Runs.{Counts}
use Rattle.ijtag_work.specs.Stops.{Stop, Usage, Refuses, ReadFault, WriteFault, OutputFault, NoMemory}

-- the file holds a text of this work, of which these are the commands
pub record HasCommands (work : Part (List ℕ)) (old new : Option Files) (name : List ℕ)
    (commands : List SeenCommand) : Type 0 where
  pub bytes : List ℕ
  pub given : work.gives bytes
  pub held : file_at new name ≡ option_map (λ _. Some bytes) old
  pub found : (commands_of bytes).gives commands

-- a store of the file failed, or a write of the output, for which there is all of this work; or there was no
-- memory
abbrev pub IsPlayStop : Part Leaves → List ℕ → Counts → Stop → Type 0
IsPlayStop work name c (WriteFault n) = ((leaves : Leaves) × work.gives leaves)
    × ((n ≡ name) × Rose (c.store n) (c.store_now n))
IsPlayStop work name c OutputFault = ((leaves : Leaves) × work.gives leaves) × Rose c.output c.output_now
IsPlayStop work name c NoMemory = Unit {0}
IsPlayStop work name c Usage = ⊥
IsPlayStop work name c (Refuses refusal) = ⊥
IsPlayStop work name c (ReadFault n) = ⊥

-- a store of the file failed, for which there is a text; or there was no memory
abbrev pub IsSvfStop : Part (List ℕ) → List ℕ → (List ℕ → ℕ) → (List ℕ → ℕ) → Stop → Type 0
IsSvfStop work name before now (WriteFault n) = ((bytes : List ℕ) × work.gives bytes)
    × ((n ≡ name) × Rose (before n) (now n))
IsSvfStop work name before now NoMemory = Unit {0}
IsSvfStop work name before now Usage = ⊥
IsSvfStop work name before now (Refuses refusal) = ⊥
IsSvfStop work name before now (ReadFault n) = ⊥
IsSvfStop work name before now OutputFault = ⊥
