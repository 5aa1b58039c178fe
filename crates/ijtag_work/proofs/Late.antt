-- What a part of a command's work does, the whole of it does.
use Rattle.std.proofs.Common.{◌≡◌, inl, inr, ℕ, Option, List, subst}
use Rattle.ij_io.specs.Causes.{Rose}
use Rattle.ij_io.specs.Files.{Files}
use Rattle.ijtag_work.specs.Task.{Task, work}
use Rattle.ijtag_work.specs.Late.{IsLateStop, IsPartOf}
use Rattle.ijtag_work.specs.Leaves.{Leaves}
use Rattle.ijtag_work.specs.Runs.{Seen, IsPartDone, Counts, IsStop}
use Rattle.ijtag_work.specs.Stops.{Stop, Usage, Refuses, ReadFault, WriteFault, OutputFault, NoMemory}
use Rattle.ijtag_stages.specs.Refusals.{Part, Refusal}

module _ (files : Option Files) (task : Task) (part : Part Leaves) (lift : (leaves : Leaves)
    → part.gives leaves → (work files task).gives leaves) (old new : Seen) where
  pub begun_in : IsPartOf part old new → IsPartDone files task old new
  begun_in either = elim either [
    | inl same ↦ inl same
    | inr d ↦ inr (inl (record {
      leaves = d.leaves;
      given = lift d.leaves d.given;
      files = d.files;
      printed = d.printed;
      in_order = d.in_order;
    }))
  ]

-- after loads, which raise no count of a store
module _ (files : Option Files) (task : Task) (part : Part Leaves) (lift : (leaves : Leaves)
    → part.gives leaves → (work files task).gives leaves)
    (refuse : (refusal : Refusal) → part.refuses refusal
    → (work files task).refuses refusal) (load load_now store : List ℕ
    → ℕ) (mid : Counts) (same : (name : List ℕ) → mid.store name ≡ store name) where
  abbrev before : Counts
  before = record {
    load = load;
    load_now = load_now;
    store = store;
    store_now = mid.store_now;
    output = mid.output;
    output_now = mid.output_now;
  }

  pub late_stop : (stop : Stop) → IsLateStop part task mid stop → IsStop files task before stop
  late_stop (WriteFault name) is = (
    inl (is.0.0, lift is.0.0 is.0.1),
    (is.1.0, subst (λ (n : ℕ). Rose n (mid.store_now name)) (same name) is.1.1),
  )
  late_stop OutputFault is = ((is.0.0, lift is.0.0 is.0.1), is.1)
  late_stop NoMemory is = tt
  late_stop Usage is = absurd is
  late_stop (Refuses refusal) is = refuse refusal is
  late_stop (ReadFault name) is = absurd is
