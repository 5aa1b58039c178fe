-- A run of a program, whichever its command is, in one record: how it ended, that it could end in no other
-- way, and that nothing changed but what is its own.
use Rattle.std.specs.Prelude.{◌≡◌, ◌⊎◌, ℕ, Bool, List, Option, Some, None}
use Rattle.std.specs.Bool.{OnTrue, OnFalse}
use Rattle.ij_io.specs.Bytes.{AddsPart}
use Rattle.ij_io.specs.Files.{Files}
use Rattle.ijtag_stages.specs.Refusals.{Part, Refusal}
use Rattle.ijtag_work.specs.Leaves.{Leaves}
use Rattle.ijtag_work.specs.Runs.{AreFirstWritten, Counts, FirstRose, IfTold, IsDone, IsOrMemory, IsPartDone}
use Rattle.ijtag_work.specs.Runs.{IsStop, LoadRose, OnlyTheseChange, OnlyTheseRise, Seen, Tells, WriteRose}
use Rattle.ijtag_work.specs.Runs.{counts, loads_in, prints_in, seen, status_if, writes_in}
use Rattle.ijtag_work.specs.Stops.{IsEarly, IsUsage, Stop, status_of, stop_text}
use Rattle.ijtag_work.specs.Task.{Task, work}
use Rattle.ijtag_work.specs.declared.status.Status.{Status}
use Rattle.ijtag_work.specs.declared.status.Status.TheVariants.{Refused, OutOfMemory}

-- what is seen of files (of type S), of an output (O) and of an error stream (E): what the files hold, and
-- how many loads and stores of each name failed; what a stream took, what the output has handed on, and how
-- many of a stream's writes failed
pub record Views (S O E : Type 0) : Type 0 where
  pub files : S → Option Files
  pub load_faults : S → List ℕ → ℕ
  pub store_faults : S → List ℕ → ℕ
  pub printed : O → Option (List ℕ)
  pub handed : O → Option (List ℕ)
  pub print_faults : O → ℕ
  pub said : E → Option (List ℕ)
  pub say_faults : E → ℕ

abbrev pub views : {S O E : Type 0} → (S → Option Files) → (S → List ℕ → ℕ) → (S → List ℕ → ℕ)
    → (O → Option (List ℕ)) → (O → Option (List ℕ)) → (O → ℕ) → (E → Option (List ℕ)) → (E → ℕ) → Views S O E
views files load_faults store_faults printed handed print_faults said say_faults = record {
  files = files;
  load_faults = load_faults;
  store_faults = store_faults;
  printed = printed;
  handed = handed;
  print_faults = print_faults;
  said = said;
  say_faults = say_faults;
}

-- all three, before a run or after it
pub record World (S O E : Type 0) : Type 0 where
  pub shelf : S
  pub out : O
  pub err : E

abbrev pub world : {S O E : Type 0} → S → O → E → World S O E
world shelf out err = record { shelf = shelf; out = out; err = err }

abbrev pub files_in : {S O E : Type 0} → Views S O E → World S O E → Option Files
files_in v w = v.files w.shelf

abbrev pub seen_in : {S O E : Type 0} → Views S O E → World S O E → Seen
seen_in v w = seen v.files v.printed w.shelf w.out

abbrev pub counts_in : {S O E : Type 0} → Views S O E → World S O E → World S O E → Counts
counts_in v old new = counts v.load_faults v.store_faults v.print_faults old.shelf new.shelf old.out new.out

-- ---- how a run ends

-- all of its work is done, in which something differs or nothing does; or it stopped short
pub data End : Type 0 where
  Done : (differs : Bool) → End
  Stopped : (stop : Stop) → End

-- after a stop nothing of the work is there, or a first part of it; where not all is accepted, only what is
-- written before, and nothing is printed
pub record IsLeft {S O E : Type 0} (v : Views S O E) (task : Task)
    (old new : World S O E) (stop : Stop) : Type 0 where
  pub part : IsPartDone (files_in v old) task (seen_in v old) (seen_in v new)
  pub files : IsEarly stop → AreFirstWritten task.begins task.first_writes (files_in v old) (files_in v new)
  pub printed : IsEarly stop → new.out ≡ old.out

-- where all is done, all of the work is there, and what was printed is handed on; a stop holds; and without a
-- command nothing changes
abbrev pub EndsAs : {S O E C : Type 0} → Views S O E → (C → Task) → Option C
    → World S O E → World S O E → End → Type 0
EndsAs v task None old new (Done differs) = ⊥
EndsAs v task None old new (Stopped stop) = IsUsage stop
    × (files_in v new ≡ files_in v old) × (new.out ≡ old.out)
EndsAs v task (Some command) old new (Done differs) =
    IsDone (work (files_in v old) (task command)) (seen_in v old) (seen_in v new) differs
    × OnTrue (task command).prints (v.handed new.out ≡ v.printed new.out)
EndsAs v task (Some command) old new (Stopped stop) =
    IsStop (files_in v old) (task command) (counts_in v old new) stop × IsLeft v (task command) old new stop

-- what the status and the error stream say of it: nothing where all is done; else the line of the stop, or a
-- first part of it where a write of the stream failed, which changes no status. Where there was no memory for
-- the line, that is the status.
abbrev pub Says : {E : Type 0} → (E → Option (List ℕ)) → (E → ℕ) → List ℕ → E → E → End → Status → Type 0
Says said faults usage old new (Done differs) result = (result ≡ status_if differs) × (new ≡ old)
Says said faults usage old new (Stopped stop) result =
    ((result ≡ status_of stop) × Tells said faults old new (stop_text usage stop))
    ⊎ ((result ≡ OutOfMemory) × AddsPart (said old) (said new) (stop_text usage stop))

-- ---- it could end in no other way: what is accepted is done, and what meets a refusal is refused, where no
-- fault is counted that would keep it from that, or there was no memory

pub record IsBound (work : Part Leaves) (task : Task) (c : Counts) (result : Status) : Type 0 where
  pub complete : (leaves : Leaves) → work.gives leaves → ¬ LoadRose task c → ¬ WriteRose task c
      → IsOrMemory result (status_if leaves.differs)
  pub refuses : (refusal : Refusal) → work.refuses refusal → ¬ LoadRose task c
      → ¬ FirstRose task c → IsOrMemory result Refused

-- ---- nothing changes but what is its own: the files that the command writes, the output if it prints, and
-- the counts of faults of the files that it loads and writes

pub record OnlyItsOwn {S O E C : Type 0} (v : Views S O E) (task : C
    → Task) (words : Option C) (old new : World S O E) : Type 0 where
  pub files : OnlyTheseChange (writes_in task words) (files_in v old) (files_in v new)
  pub output : OnFalse (prints_in task words) (new.out ≡ old.out)
  pub loads : OnlyTheseRise (loads_in task words) (v.load_faults old.shelf) (v.load_faults new.shelf)
  pub stores : OnlyTheseRise (writes_in task words) (v.store_faults old.shelf) (v.store_faults new.shelf)

-- ---- the run of a program with a table of commands and a usage text: the words are one of its commands, or
-- none

pub record IsRun {S O E C : Type 0} (v : Views S O E) (task : C
    → Task) (usage : List ℕ) (words : Option C) (old new : World S O E) (result : Status) : Type 0 where
  pub end : End
  pub ends : EndsAs v task words old new end
  pub says : Says v.said v.say_faults usage old.err new.err end result
  pub bound : IfTold words (files_in v old) (λ command files. IsBound (work (Some files) (task command))
      (task command) (counts_in v old new) result)
  pub own : OnlyItsOwn v task words old new

-- what holds where all is done, by whether something differs
abbrev pub IfDone : Status → (Bool → Type 0) → Type 0
IfDone result P = (differs : Bool) → result ≡ status_if differs → P differs
