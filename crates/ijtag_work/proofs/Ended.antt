-- How a run ends, from what its command did or stopped at.
use Rattle.std.specs.Prelude.{IfSome, IsSome}
use Rattle.std.specs.Bool.{OnTrue}
use Rattle.std.proofs.Common.{◌≡◌, inl, inr, ℕ, Bool, Option, Some, None, List}
use Rattle.ij_io.specs.Bytes.{AddsPart}
use Rattle.ij_io.specs.Files.{Files}
use Rattle.ijtag_work.specs.Ends.{Done, EndsAs, IsBound, Says, Stopped, Views, World, counts_in, files_in}
use Rattle.ijtag_work.specs.Ends.{seen_in}
use Rattle.ijtag_work.specs.Runs.{AreKept, AreSettled, IfTold, IsDone, IsOrMemory, IsPartDone, IsRunStop}
use Rattle.ijtag_work.specs.Runs.{Tells, prints_in, status_if}
use Rattle.ijtag_work.specs.Stops.{IsEarly, IsUsage, NoMemory, OutputFault, ReadFault, Refuses, Stop, Usage}
use Rattle.ijtag_work.specs.Stops.{WriteFault, status_of, stop_text}
use Rattle.ijtag_work.specs.Task.{Task, work}
use Rattle.ijtag_work.specs.declared.status.Status.{Status}
use Rattle.ijtag_work.specs.declared.status.Status.TheVariants.{OutOfMemory}
use Rattle.ijtag_work.proofs.Statuses.{complete_done, complete_stop, refuses_done, refuses_stop}

usage_is_early : (stop : Stop) → IsUsage stop → IsEarly stop
usage_is_early Usage is = tt
usage_is_early (Refuses r) is = absurd is
usage_is_early (ReadFault name) is = absurd is
usage_is_early (WriteFault name) is = absurd is
usage_is_early OutputFault is = absurd is
usage_is_early NoMemory is = absurd is

told_both : {C : Type 0} {P Q R : C → Files → Type 0}
    → ((command : C) (files : Files) → P command files → Q command files → R command files)
    → (words : Option C) (files : Option Files) → IfTold words files P
    → IfTold words files Q → IfTold words files R
told_both then None files p q = tt
told_both then (Some command) None p q = tt
told_both then (Some command) (Some f) p q = then command f p q

module _ {S O E C : Type 0} (v : Views S O E) (task : C → Task) (old new : World S O E) where
  pub ends_done : (words : Option C) (differs : Bool) → IsSome words
      → IfSome words
      (λ command. IsDone (work (files_in v old) (task command)) (seen_in v old) (seen_in v new) differs)
      → OnTrue (prints_in task words) (v.handed new.out ≡ v.printed new.out)
      → EndsAs v task words old new (Done differs)
  ends_done None differs there done handed = absurd (cc)
  ends_done (Some command) differs there done handed = (done, handed)

  pub ends_stopped : (words : Option C) (stop : Stop)
      → IsRunStop task words (files_in v old) (counts_in v old new) stop
      → (IsEarly stop → AreKept task words (files_in v old) (files_in v new))
      → (IsEarly stop → new.out ≡ old.out)
      → IfSome words (λ command. IsPartDone (files_in v old) (task command) (seen_in v old) (seen_in v new))
      → EndsAs v task words old new (Stopped stop)
  ends_stopped None stop is kept silent part =
      (is, kept (usage_is_early stop is), silent (usage_is_early stop is))
  ends_stopped (Some command) stop is kept silent part =
      (is, record { part = part; files = kept; printed = silent })

  module _ (settled : AreSettled task) (result : Status) where
    abbrev Bound : C → Files → Type 0
    Bound command files =
        IsBound (work (Some files) (task command)) (task command) (counts_in v old new) result

    pub bound_done : (words : Option C) (differs : Bool)
        → IfSome words
        (λ command. IsDone (work (files_in v old) (task command)) (seen_in v old) (seen_in v new) differs)
        → result ≡ status_if differs → IfTold words (files_in v old) Bound
    bound_done words differs done ends =
        told_both (λ command files all first. record { complete = all; refuses = first }) words
        (files_in v old)
        (complete_done task settled words (files_in v old) (counts_in v old new) (seen_in v old)
        (seen_in v new) differs result done ends)
        (refuses_done task settled words (files_in v old) (counts_in v old new)
        (seen_in v old) (seen_in v new) differs result done)

    pub bound_stopped : (words : Option C) (stop : Stop)
        → IsRunStop task words (files_in v old) (counts_in v old new) stop
        → IsOrMemory result (status_of stop) → IfTold words (files_in v old) Bound
    bound_stopped words stop is ends =
        told_both (λ command files all first. record { complete = all; refuses = first }) words
        (files_in v old)
        (complete_stop task settled words (files_in v old) (counts_in v old new) stop result is ends)
        (refuses_stop task settled words (files_in v old) (counts_in v old new) stop result is ends)

-- ---- what is said of a stop, from what its report says

module _ {E : Type 0} (said : E → Option (List ℕ)) (faults : E
    → ℕ) (usage : List ℕ) (old new : E) (result : Status) where
  -- the status is its own, and there was memory for the line, or it was want of memory itself
  own_status : (stop : Stop) → result ≡ status_of stop
      → ((result ≡ OutOfMemory → ⊥) → Tells said faults old new (stop_text usage stop))
      → AddsPart (said old) (said new) (stop_text usage stop)
      → Says said faults usage old new (Stopped stop) result
  own_status Usage own told part = inl (own, told (λ none. cc))
  own_status (Refuses r) own told part = inl (own, told (λ none. cc))
  own_status (ReadFault name) own told part = inl (own, told (λ none. cc))
  own_status (WriteFault name) own told part = inl (own, told (λ none. cc))
  own_status OutputFault own told part = inl (own, told (λ none. cc))
  own_status NoMemory own told part = inr (own, part)

  pub says_stopped : (stop : Stop) → IsOrMemory result (status_of stop)
      → ((result ≡ OutOfMemory → ⊥) → Tells said faults old new (stop_text usage stop))
      → AddsPart (said old) (said new) (stop_text usage stop)
      → Says said faults usage old new (Stopped stop) result
  says_stopped stop status told part =
      elim status [ inl own ↦ own_status stop own told part | inr none ↦ inr (none, part) ]
