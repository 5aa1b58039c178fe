-- What a run says, read by its status.
use Rattle.std.specs.Prelude.{IfSome, IsNone}
use Rattle.std.specs.Bool.{OnTrue}
use Rattle.std.proofs.Common.{◌≡◌, inl, inr, ℕ, Bool, false, true, Option, Some, None, List, refl, sym, ◌∙◌}
use Rattle.std.proofs.Common.{subst}
use Rattle.ij_io.specs.Bytes.{AddsPart}
use Rattle.ij_io.specs.Files.{Files}
use Rattle.ijtag_stages.specs.Refusals.{Refusal}
use Rattle.ijtag_work.specs.ByStatus.{ByStatus, IsSaid}
use Rattle.ijtag_work.specs.Ends.{Done, End, EndsAs, IfDone, IsRun, Says, Stopped, Views, World, counts_in}
use Rattle.ijtag_work.specs.Ends.{files_in, seen_in}
use Rattle.ijtag_work.specs.Runs.{AreKept, IfTold, IsDone, IsEarlyStatus, IsOrMemory, IsPartDone}
use Rattle.ijtag_work.specs.Runs.{IsPartStatus, IsReadFault, IsRunStop, IsStop, IsWriteStop, prints_in}
use Rattle.ijtag_work.specs.Runs.{status_if}
use Rattle.ijtag_work.specs.Stops.{IsEarly, IsUsage, NoMemory, OutputFault, ReadFault, Refuses, Stop, Usage}
use Rattle.ijtag_work.specs.Stops.{WriteFault, status_of, stop_text}
use Rattle.ijtag_work.specs.Task.{Task, work}
use Rattle.ijtag_work.specs.declared.status.Status.{Status}
use Rattle.ijtag_work.specs.declared.status.Status.TheVariants.{Usage as UsageStatus, Refused}
use Rattle.ijtag_work.specs.declared.status.Status.TheVariants.{ReadFault as ReadStatus}
use Rattle.ijtag_work.specs.declared.status.Status.TheVariants.{WriteFault as WriteStatus, OutOfMemory}
use Rattle.ijtag_work.proofs.Statuses.{with_verdict}
use Rattle.ijtag_work.proofs.Told.{adds_all}

-- ---- which stops have which status

-- no stop has the status of what is done
not_done : (stop : Stop) (differs : Bool) → status_of stop ≡ status_if differs → ⊥
not_done Usage false e = cc
not_done Usage true e = cc
not_done (Refuses r) false e = cc
not_done (Refuses r) true e = cc
not_done (ReadFault name) false e = cc
not_done (ReadFault name) true e = cc
not_done (WriteFault name) false e = cc
not_done (WriteFault name) true e = cc
not_done OutputFault false e = cc
not_done OutputFault true e = cc
not_done NoMemory false e = cc
not_done NoMemory true e = cc

memory_not_done : (differs : Bool) → OutOfMemory ≡ status_if differs → ⊥
memory_not_done false e = cc
memory_not_done true e = cc

-- early statuses and those after which a part may be there
early_not_done : (differs : Bool) → IsEarlyStatus (status_if differs) → ⊥
early_not_done false early = early
early_not_done true early = early

part_not_done : (differs : Bool) → IsPartStatus (status_if differs) → ⊥
part_not_done false part = part
part_not_done true part = part

early_stop : (stop : Stop) → IsEarlyStatus (status_of stop) → IsEarly stop
early_stop Usage early = tt
early_stop (Refuses r) early = tt
early_stop (ReadFault name) early = tt
early_stop (WriteFault name) early = absurd early
early_stop OutputFault early = absurd early
early_stop NoMemory early = absurd early

-- what is told of each command and files that are told
pub told_map : {C : Type 0} {P Q : C → Files → Type 0}
    → ((command : C) (files : Files) → P command files → Q command files)
    → (words : Option C) (files : Option Files) → IfTold words files P → IfTold words files Q
told_map then None files told = tt
told_map then (Some command) None told = tt
told_map then (Some command) (Some f) told = then command f told

module _ {S O E C : Type 0} (v : Views S O E) (task : C
    → Task) (usage : List ℕ) (old new : World S O E) (result : Status) where
  abbrev Ended : Option C → End → Type 0
  Ended words end = EndsAs v task words old new end

  abbrev Told : End → Type 0
  Told end = Says v.said v.say_faults usage old.err new.err end result

  -- the status of a stop, unless memory ran out
  stop_status : (stop : Stop) → Told (Stopped stop) → IsOrMemory result (status_of stop)
  stop_status stop says = elim says [ inl own ↦ inl own.0 | inr memory ↦ inr memory.0 ]

  -- what was said of a stop where there was memory for it
  line_of : (stop : Stop) → Told (Stopped stop) → (result ≡ OutOfMemory → ⊥) → IsSaid v usage old new stop
  line_of stop says memory = elim says [ inl own ↦ own.1 | inr none ↦ absurd (memory none.0) ]

  no_done : (stop : Stop) → Told (Stopped stop) → (differs : Bool) → result ≡ status_if differs → ⊥
  no_done stop says differs same = elim says [
    | inl own ↦ not_done stop differs (sym own.0 ∙ same)
    | inr memory ↦ memory_not_done differs (sym memory.0 ∙ same)
  ]

  -- ---- where all is done

  done : (words : Option C) (end : End) → Ended words end → Told end → IfDone result (λ differs. IfSome words
      (λ command. IsDone (work (files_in v old) (task command)) (seen_in v old) (seen_in v new) differs))
  done None end ends says = λ differs same. tt
  done (Some command) (Done d) ends says = with_verdict (λ (differs : Bool). IsDone
      (work (files_in v old) (task command)) (seen_in v old) (seen_in v new) differs) d result ends.0 says.0
  done (Some command) (Stopped stop) ends says = λ differs same. absurd (no_done stop says differs same)

  handed_on : (words : Option C) (end : End) → Ended words end → Told end
      → IfDone result (λ differs. OnTrue (prints_in task words) (v.handed new.out ≡ v.printed new.out))
  handed_on None (Done d) ends says = absurd ends
  handed_on None (Stopped stop) ends says = λ differs same. absurd (no_done stop says differs same)
  handed_on (Some command) (Done d) ends says = λ differs same. ends.1
  handed_on (Some command) (Stopped stop) ends says = λ differs same. absurd (no_done stop says differs same)

  err_stays : (end : End) → Told end → IfDone result (λ differs. new.err ≡ old.err)
  err_stays (Done d) says = λ differs same. says.1
  err_stays (Stopped stop) says = λ differs same. absurd (no_done stop says differs same)

  -- ---- a status that only one kind of stop has

  -- a stop of this status, which isn't want of memory, was said
  module _ (status : Status) (is : result ≡ status) (memory : status ≡ OutOfMemory → ⊥) where
    had_memory : result ≡ OutOfMemory → ⊥
    had_memory none = memory (sym is ∙ none)

    of_status : (stop : Stop) → Told (Stopped stop) → status_of stop ≡ status
    of_status stop says = elim says [ inl own ↦ sym own.0 ∙ is | inr none ↦ absurd (had_memory none.0) ]

  usage_apart : UsageStatus ≡ OutOfMemory → ⊥
  usage_apart e = cc

  refused_apart : Refused ≡ OutOfMemory → ⊥
  refused_apart e = cc

  read_apart : ReadStatus ≡ OutOfMemory → ⊥
  read_apart e = cc

  write_apart : WriteStatus ≡ OutOfMemory → ⊥
  write_apart e = cc

  none_of_usage : (command : C) (stop : Stop)
      → Ended (Some command) (Stopped stop) → status_of stop ≡ UsageStatus → ⊥
  none_of_usage command Usage ends e = ends.0
  none_of_usage command (Refuses r) ends e = cc
  none_of_usage command (ReadFault name) ends e = cc
  none_of_usage command (WriteFault name) ends e = cc
  none_of_usage command OutputFault ends e = cc
  none_of_usage command NoMemory ends e = cc

  usage_done : (differs : Bool) → UsageStatus ≡ status_if differs → ⊥
  usage_done false e = cc
  usage_done true e = cc

  usage_if : (words : Option C) (end : End) → Ended words end → Told end → result ≡ UsageStatus → IsNone words
  usage_if None end ends says is = refl
  usage_if (Some command) (Done d) ends says is = absurd (usage_done d (sym is ∙ says.0))
  usage_if (Some command) (Stopped stop) ends says is =
      absurd (none_of_usage command stop ends (of_status UsageStatus is usage_apart stop says))

  usage_stop : (stop : Stop) → IsUsage stop → Told (Stopped stop) → IsOrMemory result UsageStatus
  usage_stop Usage is says = stop_status Usage says
  usage_stop (Refuses r) is says = absurd is
  usage_stop (ReadFault name) is says = absurd is
  usage_stop (WriteFault name) is says = absurd is
  usage_stop OutputFault is says = absurd is
  usage_stop NoMemory is says = absurd is

  no_command : (words : Option C) (end : End) → Ended words end → Told end
      → IsNone words → IsOrMemory result UsageStatus
  no_command None (Done d) ends says none = absurd ends
  no_command None (Stopped stop) ends says none = usage_stop stop ends.0 says
  no_command (Some command) end ends says none = absurd (cc)

  usage_text_of : (stop : Stop) → status_of stop ≡ UsageStatus
      → IsSaid v usage old new stop → IsSaid v usage old new Usage
  usage_text_of Usage e said = said
  usage_text_of (Refuses r) e said = absurd (cc)
  usage_text_of (ReadFault name) e said = absurd (cc)
  usage_text_of (WriteFault name) e said = absurd (cc)
  usage_text_of OutputFault e said = absurd (cc)
  usage_text_of NoMemory e said = absurd (cc)

  says_usage : (end : End) → Told end → result ≡ UsageStatus → IsSaid v usage old new Usage
  says_usage (Done d) says is = absurd (usage_done d (sym is ∙ says.0))
  says_usage (Stopped stop) says is = usage_text_of stop (of_status UsageStatus is usage_apart stop says)
      (line_of stop says (had_memory UsageStatus is usage_apart))

  refused_done : (differs : Bool) → Refused ≡ status_if differs → ⊥
  refused_done false e = cc
  refused_done true e = cc

  refused_by : (command : C) (stop : Stop) → Ended (Some command) (Stopped stop)
      → status_of stop ≡ Refused → IsSaid v usage old new stop
      → (refusal : Refusal) × (work (files_in v old) (task command)).refuses refusal
      × IsSaid v usage old new (Refuses refusal)
  refused_by command (Refuses r) ends e said = (r, ends.0, said)
  refused_by command Usage ends e said = absurd (cc)
  refused_by command (ReadFault name) ends e said = absurd (cc)
  refused_by command (WriteFault name) ends e said = absurd (cc)
  refused_by command OutputFault ends e said = absurd (cc)
  refused_by command NoMemory ends e said = absurd (cc)

  refused : (words : Option C) (end : End) → Ended words end → Told end → result ≡ Refused
      → IfSome words (λ command. (refusal : Refusal) × (work (files_in v old) (task command)).refuses refusal
      × IsSaid v usage old new (Refuses refusal))
  refused None end ends says is = tt
  refused (Some command) (Done d) ends says is = absurd (refused_done d (sym is ∙ says.0))
  refused (Some command) (Stopped stop) ends says is =
      refused_by command stop ends (of_status Refused is refused_apart stop says)
      (line_of stop says (had_memory Refused is refused_apart))

  read_done : (differs : Bool) → ReadStatus ≡ status_if differs → ⊥
  read_done false e = cc
  read_done true e = cc

  read_by : (command : C) (stop : Stop) → Ended (Some command) (Stopped stop)
      → status_of stop ≡ ReadStatus → IsSaid v usage old new stop
      → (name : List ℕ) × IsReadFault (files_in v old) (task command).loads (v.load_faults old.shelf)
      (v.load_faults new.shelf) name × IsSaid v usage old new (ReadFault name)
  read_by command (ReadFault name) ends e said = (name, ends.0, said)
  read_by command Usage ends e said = absurd (cc)
  read_by command (Refuses r) ends e said = absurd (cc)
  read_by command (WriteFault name) ends e said = absurd (cc)
  read_by command OutputFault ends e said = absurd (cc)
  read_by command NoMemory ends e said = absurd (cc)

  read_fault : (words : Option C) (end : End) → Ended words end → Told end → result ≡ ReadStatus
      → IfSome words (λ command. (name : List ℕ) × IsReadFault (files_in v old) (task command).loads
      (v.load_faults old.shelf) (v.load_faults new.shelf) name × IsSaid v usage old new (ReadFault name))
  read_fault None end ends says is = tt
  read_fault (Some command) (Done d) ends says is = absurd (read_done d (sym is ∙ says.0))
  read_fault (Some command) (Stopped stop) ends says is =
      read_by command stop ends (of_status ReadStatus is read_apart stop says)
      (line_of stop says (had_memory ReadStatus is read_apart))

  write_done : (differs : Bool) → WriteStatus ≡ status_if differs → ⊥
  write_done false e = cc
  write_done true e = cc

  write_by : (command : C) (stop : Stop) → Ended (Some command) (Stopped stop)
      → status_of stop ≡ WriteStatus → IsSaid v usage old new stop
      → (s : Stop) × IsStop (files_in v old) (task command) (counts_in v old new) s
      × IsWriteStop (task command) (counts_in v old new) s × IsSaid v usage old new s
  write_by command (WriteFault name) ends e said = (WriteFault name, ends.0, ends.0.1, said)
  write_by command OutputFault ends e said = (OutputFault, ends.0, ends.0.1, said)
  write_by command Usage ends e said = absurd (cc)
  write_by command (Refuses r) ends e said = absurd (cc)
  write_by command (ReadFault name) ends e said = absurd (cc)
  write_by command NoMemory ends e said = absurd (cc)

  write_fault : (words : Option C) (end : End) → Ended words end → Told end → result ≡ WriteStatus
      → IfSome words (λ command. (s : Stop) × IsStop (files_in v old) (task command) (counts_in v old new) s
      × IsWriteStop (task command) (counts_in v old new) s × IsSaid v usage old new s)
  write_fault None end ends says is = tt
  write_fault (Some command) (Done d) ends says is = absurd (write_done d (sym is ∙ says.0))
  write_fault (Some command) (Stopped stop) ends says is =
      write_by command stop ends (of_status WriteStatus is write_apart stop says)
      (line_of stop says (had_memory WriteStatus is write_apart))

  -- ---- want of memory

  is_run_stop : (words : Option C) (stop : Stop) → Ended words (Stopped stop)
      → IsRunStop task words (files_in v old) (counts_in v old new) stop
  is_run_stop None stop ends = ends.0
  is_run_stop (Some command) stop ends = ends.0

  part_said : (stop : Stop) → Told (Stopped stop)
      → AddsPart (v.said old.err) (v.said new.err) (stop_text usage stop)
  part_said stop says = elim says [
    | inl own ↦ elim own.1 [ inl whole ↦ adds_all whole | inr part ↦ part.0 ]
    | inr memory ↦ memory.1
  ]

  says_part : (words : Option C) (end : End) → Ended words end → Told end → result ≡ OutOfMemory
      → (stop : Stop) × IsRunStop task words (files_in v old) (counts_in v old new) stop
      × AddsPart (v.said old.err) (v.said new.err) (stop_text usage stop)
  says_part words (Done d) ends says is = absurd (memory_not_done d (sym is ∙ says.0))
  says_part words (Stopped stop) ends says is = (stop, is_run_stop words stop ends, part_said stop says)

  -- ---- what is there after a stop

  early_by : (stop : Stop) → Told (Stopped stop) → IsEarlyStatus result → IsEarly stop
  early_by stop says early = elim says [
    | inl own ↦ early_stop stop (subst IsEarlyStatus own.0 early)
    | inr memory ↦ absurd (subst IsEarlyStatus memory.0 early)
  ]

  kept : (words : Option C) (end : End) → Ended words end → Told end → IsEarlyStatus result
      → AreKept task words (files_in v old) (files_in v new) × (new.out ≡ old.out)
  kept None (Done d) ends says early = absurd ends
  kept None (Stopped stop) ends says early = (ends.1, ends.2)
  kept (Some command) (Done d) ends says early = absurd (early_not_done d (subst IsEarlyStatus says.0 early))
  kept (Some command) (Stopped stop) ends says early =
      (let is = early_by stop says early in (ends.1.files is, ends.1.printed is))

  part : (words : Option C) (end : End) → Ended words end → Told end → IsPartStatus result
      → IfSome words (λ command. IsPartDone (files_in v old) (task command) (seen_in v old) (seen_in v new))
  part None end ends says is = tt
  part (Some command) (Done d) ends says is = absurd (part_not_done d (subst IsPartStatus says.0 is))
  part (Some command) (Stopped stop) ends says is = ends.1.part

  pub by_status : (words : Option C) → IsRun v task usage words old new result
      → ByStatus v task usage words old new result
  by_status words run = record {
    done = done words run.end run.ends run.says;
    handed_on = handed_on words run.end run.ends run.says;
    err_stays = err_stays run.end run.says;
    complete = told_map (λ command files bound. bound.complete) words (files_in v old) run.bound;
    usage = usage_if words run.end run.ends run.says;
    no_command = no_command words run.end run.ends run.says;
    says_usage = says_usage run.end run.says;
    refused = refused words run.end run.ends run.says;
    refuses = told_map (λ command files bound. bound.refuses) words (files_in v old) run.bound;
    read_fault = read_fault words run.end run.ends run.says;
    write_fault = write_fault words run.end run.ends run.says;
    says_part = says_part words run.end run.ends run.says;
    kept = kept words run.end run.ends run.says;
    part = part words run.end run.ends run.says;
    own = run.own;
  }
