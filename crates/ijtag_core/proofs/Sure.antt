-- A run over files and streams that never fail: what is accepted is done.
use Rattle.std.proofs.Common.{ℕ, Option, Some, None, List, [], ◌∷◌, inl, inr, arith}
use Rattle.std.specs.Prelude.{IfSome}
use Rattle.ij_io.specs.Files.{Files}
use Rattle.ijtag_work.specs.Leaves.{Leaves}
use Rattle.ijtag_work.specs.Loads.{names_of}
use Rattle.ijtag_work.specs.Runs.{Counts, IfTold, IsOrMemory, LoadRose, SomeRose, WriteRose, status_if}
use Rattle.ijtag_work.specs.Task.{Task, work}
use Rattle.ijtag_work.specs.declared.status.Status.{Status}

abbrev pub no_faults : Counts
no_faults = record {
  load = λ name. 0;
  load_now = λ name. 0;
  store = λ name. 0;
  store_now = λ name. 0;
  output = 0;
  output_now = 0;
}

nothing_rose : (names : List (List ℕ)) → SomeRose names (λ name. 0) (λ name. 0) → ⊥
nothing_rose [] some = some
nothing_rose (name ∷ names) some =
    elim some [ inl own ↦ omega (arith, own) | inr later ↦ nothing_rose names later ]

pub complete_sure : {C : Type 0} (task : C → Task) (words : Option C) (f : Files) (result : Status)
    → IfTold words (Some f) (λ command files. (leaves : Leaves)
    → (work (Some files) (task command)).gives leaves → (LoadRose (task command) no_faults → ⊥)
    → (WriteRose (task command) no_faults → ⊥) → IsOrMemory result (status_if leaves.differs))
    → IfSome words (λ command. (leaves : Leaves) → (work (Some f) (task command)).gives leaves
    → IsOrMemory result (status_if leaves.differs))
complete_sure task None f result told = tt
complete_sure task (Some command) f result told =
    λ leaves given. told leaves given (nothing_rose (names_of (task command).loads))
    (λ rose. elim rose [
      | inl stored ↦ nothing_rose (task command).writes stored
      | inr printed ↦ (let risen = printed.1 in omega (arith, risen))
    ])
