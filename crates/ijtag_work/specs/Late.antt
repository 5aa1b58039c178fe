-- A part of a command's work, after its loads and the texts that were accepted: it may stop at a write, or
-- refuse.
use Rattle.std.specs.Prelude.{◌⊎◌}
use Rattle.ijtag_work.specs.Leaves.{Leaves}
use Rattle.ijtag_work.specs.Runs.{Seen, IsUnchanged, IsBegun, Counts, IsWriteStop}
use Rattle.ijtag_work.specs.Stops.{Stop, Usage, Refuses, ReadFault, WriteFault, OutputFault, NoMemory}
use Rattle.ijtag_stages.specs.Refusals.{Part}
use Rattle.ijtag_work.specs.Task.{Task}

-- nothing of it is there, or a first part
abbrev pub IsPartOf : Part Leaves → Seen → Seen → Type 0
IsPartOf part old new = IsUnchanged old new ⊎ IsBegun part old new

-- all of it could be done, and a write failed; or it refuses; or there was no memory
abbrev pub IsLateStop : Part Leaves → Task → Counts → Stop → Type 0
IsLateStop part task c (WriteFault name) =
    ((leaves : Leaves) × part.gives leaves) × IsWriteStop task c (WriteFault name)
IsLateStop part task c OutputFault = ((leaves : Leaves) × part.gives leaves) × IsWriteStop task c OutputFault
IsLateStop part task c NoMemory = Unit {0}
IsLateStop part task c Usage = ⊥
IsLateStop part task c (Refuses refusal) = part.refuses refusal
IsLateStop part task c (ReadFault name) = ⊥
