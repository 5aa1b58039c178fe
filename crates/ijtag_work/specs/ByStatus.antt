-- What a run says, read by its status: each field follows from IsRun (proofs/ByStatus).
use Rattle.std.specs.Prelude.{◌≡◌, ℕ, List, Option, Some, IfSome, IsNone}
use Rattle.std.specs.Bool.{OnTrue}
use Rattle.ij_io.specs.Bytes.{AddsPart}
use Rattle.ijtag_stages.specs.Refusals.{Refusal}
use Rattle.ijtag_work.specs.Ends.{IfDone, OnlyItsOwn, Views, World, counts_in, files_in, seen_in}
use Rattle.ijtag_work.specs.Leaves.{Leaves}
use Rattle.ijtag_work.specs.Runs.{AreKept, FirstRose, IfTold, IsDone, IsEarlyStatus, IsOrMemory, IsPartDone}
use Rattle.ijtag_work.specs.Runs.{IsPartStatus, IsReadFault, IsRunStop, IsStop, IsWriteStop, LoadRose, Tells}
use Rattle.ijtag_work.specs.Runs.{WriteRose, prints_in, status_if}
use Rattle.ijtag_work.specs.Stops.{ReadFault, Refuses, Stop, Usage, stop_text}
use Rattle.ijtag_work.specs.Task.{Task, work}
use Rattle.ijtag_work.specs.declared.status.Status.{Status}
use Rattle.ijtag_work.specs.declared.status.Status.TheVariants.{Usage as UsageStatus, Refused}
use Rattle.ijtag_work.specs.declared.status.Status.TheVariants.{ReadFault as ReadStatus}
use Rattle.ijtag_work.specs.declared.status.Status.TheVariants.{WriteFault as WriteStatus, OutOfMemory}

-- the line of a stop is said
abbrev pub IsSaid : {S O E : Type 0} → Views S O E → List ℕ → World S O E → World S O E → Stop → Type 0
IsSaid v usage old new stop = Tells v.said v.say_faults old.err new.err (stop_text usage stop)

pub record ByStatus {S O E C : Type 0} (v : Views S O E) (task : C
    → Task) (line : List ℕ) (words : Option C) (old new : World S O E) (result : Status) : Type 0 where
  -- 0 and 1: all of the command's work is done, all that was printed is handed on, and nothing is said; and
  -- what is accepted is done
  pub done : IfDone result (λ differs. IfSome words
      (λ command. IsDone (work (files_in v old) (task command)) (seen_in v old) (seen_in v new) differs))
  pub handed_on : IfDone result
      (λ differs. OnTrue (prints_in task words) (v.handed new.out ≡ v.printed new.out))
  pub err_stays : IfDone result (λ differs. new.err ≡ old.err)
  pub complete : IfTold words (files_in v old) (λ command files.
      (leaves : Leaves) → (work (Some files) (task command)).gives leaves
      → ¬ LoadRose (task command) (counts_in v old new) → ¬ WriteRose (task command) (counts_in v old new)
      → IsOrMemory result (status_if leaves.differs))
  -- 2: exactly where the words are no command
  pub usage : result ≡ UsageStatus → IsNone words
  pub no_command : IsNone words → IsOrMemory result UsageStatus
  pub says_usage : result ≡ UsageStatus → IsSaid v line old new Usage
  -- 3: exactly at the first refusal of the command's work, unless a load failed, or a write of the files that
  -- come before the texts
  pub refused : result ≡ Refused → IfSome words (λ command. (refusal : Refusal)
      × (work (files_in v old) (task command)).refuses refusal × IsSaid v line old new (Refuses refusal))
  pub refuses : IfTold words (files_in v old) (λ command files.
      (refusal : Refusal) → (work (Some files) (task command)).refuses refusal
      → ¬ LoadRose (task command) (counts_in v old new) → ¬ FirstRose (task command) (counts_in v old new)
      → IsOrMemory result Refused)
  -- 4: a load failed that was come to
  pub read_fault : result ≡ ReadStatus → IfSome words (λ command.
      (name : List ℕ) × IsReadFault (files_in v old) (task command).loads (v.load_faults old.shelf)
      (v.load_faults new.shelf) name × IsSaid v line old new (ReadFault name))
  -- 5: a write failed of what could be written
  pub write_fault : result ≡ WriteStatus → IfSome words (λ command.
      (stop : Stop) × IsStop (files_in v old) (task command) (counts_in v old new) stop
      × IsWriteStop (task command) (counts_in v old new) stop × IsSaid v line old new stop)
  -- 6: a first part of the line of a stop is said
  pub says_part : result ≡ OutOfMemory → (stop : Stop)
      × IsRunStop task words (files_in v old) (counts_in v old new) stop
      × AddsPart (v.said old.err) (v.said new.err) (stop_text line stop)
  -- 2, 3 and 4: nothing is printed, and no file changes but those that are written before; 5 and 6: a first
  -- part may be there
  pub kept : IsEarlyStatus result → AreKept task words (files_in v old) (files_in v new) × (new.out ≡ old.out)
  pub part : IsPartStatus result
      → IfSome words (λ command. IsPartDone (files_in v old) (task command) (seen_in v old) (seen_in v new))
  -- and always
  pub own : OnlyItsOwn v task words old new
