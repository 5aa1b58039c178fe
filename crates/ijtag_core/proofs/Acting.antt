-- What a command does with what was accepted, its whole work does.
use Rattle.std.specs.Prelude.{IsTrue}
use Rattle.std.proofs.Common.{◌≡◌, inl, inr, refl, sym, subst, ℕ, Option, Some, Result, Err, List, []}
use Rattle.ij_io.specs.Causes.{Rose}
use Rattle.ij_io.specs.Files.{Files}
use Rattle.ij_io.specs.declared.fault.StoreFault.{StoreFault}
use Rattle.ij_io.specs.declared.fault.StoreFault.TheVariants.{Failed, OutOfMemory}
use Rattle.ijtag_stages.specs.Refusals.{Part, Refusal}
use Rattle.ijtag_stages.specs.Work.{never}
use Rattle.ijtag_work.specs.Accepted.{SeenAccepted, Texts, accepted, accepted_of}
use Rattle.ijtag_work.specs.Inputs.{loads_of, texts_of}
use Rattle.ijtag_work.specs.Late.{IsLateStop}
use Rattle.ijtag_work.specs.Leaves.{Leaves}
use Rattle.ijtag_work.specs.Loads.{loaded, IsOneOf}
use Rattle.ijtag_work.specs.Runs.{AreFirstWritten, Counts, IsStop}
use Rattle.ijtag_work.specs.Stops.{Stop}
use Rattle.ijtag_work.specs.Seen.{file_stop, output_stop}
use Rattle.ijtag_work.specs.Task.{Row, Task, task_of, work}

pub row_gives : (row : Row) (files : Option Files) (texts : List (List ℕ)) (named : Texts) (it : SeenAccepted)
    → (loaded files (loads_of row.inputs)).gives texts → texts_of row.inputs texts ≡ Some named
    → (accepted named).gives it → (leaves : Leaves) → (row.leaves it).gives leaves
    → (work files (task_of row)).gives leaves
row_gives row files texts named it read is given leaves left =
    (texts, read, (it, subst (λ (t : Option Texts). (accepted_of t).gives it) (sym is) given, left))

-- what it refuses, the whole work refuses
pub row_refuses : (row : Row) (files : Option Files) (texts : List (List ℕ)) (named : Texts)
    (it : SeenAccepted) → (loaded files (loads_of row.inputs)).gives texts
    → texts_of row.inputs texts ≡ Some named
    → (accepted named).gives it → (refusal : Refusal) → (row.leaves it).refuses refusal
    → (work files (task_of row)).refuses refusal
row_refuses row files texts named it read is given refusal refuses =
    inr (
      texts,
      read,
      inr (it, subst (λ (t : Option Texts). (accepted_of t).gives it) (sym is) given, refuses),
    )

-- without files that are written before, nothing has changed
pub none_first : (old new : Option Files) → new ≡ old → AreFirstWritten never [] old new
none_first old new same = record { whole = λ written given. absurd given; others = same; same = λ none. same }

-- a write of a file is refused
pub file_stops : {T : Type 0} {stop : Stop} (part : Part Leaves) (task : Task)
    (c : Counts) (name : List ℕ) (fault : StoreFault) → stop ≡ file_stop name fault
    → (◌≡◌ {A = Result T StoreFault} (Err fault) (Err Failed) → (leaves : Leaves) × part.gives leaves)
    → IsOneOf task.writes name
    → (◌≡◌ {A = Result T StoreFault} (Err fault) (Err Failed) → Rose (c.store name) (c.store_now name))
    → IsLateStop part task c stop
file_stops part task c name Failed is some own rose =
    subst (λ (s : Stop). IsLateStop part task c s) (sym is) (some refl, (own, rose refl))
file_stops part task c name OutOfMemory is some own rose =
    subst (λ (s : Stop). IsLateStop part task c s) (sym is) tt

-- or one of the output
pub output_stops : {T : Type 0} {stop : Stop} (part : Part Leaves) (task : Task) (c : Counts)
    (fault : StoreFault) → stop ≡ output_stop fault
    → (◌≡◌ {A = Result T StoreFault} (Err fault) (Err Failed) → (leaves : Leaves) × part.gives leaves)
    → IsTrue task.prints
    → (◌≡◌ {A = Result T StoreFault} (Err fault) (Err Failed) → Rose c.output c.output_now)
    → IsLateStop part task c stop
output_stops part task c Failed is some own rose =
    subst (λ (s : Stop). IsLateStop part task c s) (sym is) (some refl, (own, rose refl))
output_stops part task c OutOfMemory is some own rose =
    subst (λ (s : Stop). IsLateStop part task c s) (sym is) tt

-- the same of the whole work
pub file_stop_of : {T : Type 0} {stop : Stop} (files : Option Files) (task : Task) (c : Counts)
    (name : List ℕ) (fault : StoreFault) → stop ≡ file_stop name fault
    → (leaves : Leaves) × (work files task).gives leaves → IsOneOf task.writes name
    → (◌≡◌ {A = Result T StoreFault} (Err fault) (Err Failed) → Rose (c.store name) (c.store_now name))
    → IsStop files task c stop
file_stop_of files task c name Failed is some own rose =
    subst (λ (s : Stop). IsStop files task c s) (sym is) (inl some, (own, rose refl))
file_stop_of files task c name OutOfMemory is some own rose =
    subst (λ (s : Stop). IsStop files task c s) (sym is) tt
