-- What is noted of a group, of rounds and of a bit step, whatever plans were found. There are plans, and all
-- have the same places.
use Rattle.std.specs.Prelude.{◌≡◌, ℕ, List, ◌++◌, length}
use Rattle.net_graph.specs.declared.net.Net.{Net}
use Rattle.net_graph.specs.declared.step.ReadBit.{ReadBit}
use Rattle.net_graph.specs.Chain.{position}
use Rattle.net_graph.specs.Resets.{zero_holds}
use Rattle.net_graph.specs.SeenSteps.{SeenGroup, SeenStep}
use Rattle.net_graph.specs.Signals.{Holds}
use Rattle.net_tree.specs.Form.{Items}
use Rattle.headline.specs.Retargeting.{PlannedGroup, PlannedStep, holds_after_rounds, holds_after_step}
use Rattle.retargeter.specs.Plans.{ArePlansOf, AreRoundsOf, IsPlanOf}
use Rattle.run_report.specs.Places.{plans_places, rounds_places, step_places, scans_after_rounds}
use Rattle.run_report.specs.Places.{scans_after_step}
use Rattle.run_report.specs.declared.place.ReadPlace.{ReadPlace}

-- where a read is on a path, by the widths of its registers
abbrev pub place_on : Net → List ℕ → ℕ → ReadBit → ReadPlace
place_on net path scan r = record { scan = scan; bit = position path (zero_holds net) r.bit; read = r }

module _ (net : Net) (form : Items) (holds : Holds) (g : SeenGroup) where
  abbrev pub NotesGroup : ℕ → List ReadPlace → List ReadPlace → Type 0
  NotesGroup scans old new = (plans : List SeenGroup) → ArePlansOf net form holds g plans
      → new ≡ old ++ plans_places net holds scans plans

  -- this many scans
  abbrev pub ScansGroup : ℕ → Type 0
  ScansGroup n = (plans : List SeenGroup) → ArePlansOf net form holds g plans → n ≡ length plans

module _ (net : Net) (form : Items) (holds : Holds) (gs : List SeenGroup) where
  abbrev pub NotesRounds : ℕ → List ReadPlace → List ReadPlace → Type 0
  NotesRounds scans old new = (rounds : List PlannedGroup) → AreRoundsOf net form holds gs rounds
      → new ≡ old ++ rounds_places net holds scans rounds

  abbrev pub ScansRounds : ℕ → ℕ → Type 0
  ScansRounds scans after = (rounds : List PlannedGroup) → AreRoundsOf net form holds gs rounds
      → after ≡ scans_after_rounds scans rounds

  abbrev pub HoldsRounds : Holds → Type 0
  HoldsRounds after = (rounds : List PlannedGroup) → AreRoundsOf net form holds gs rounds
      → after ≡ holds_after_rounds holds rounds

module _ (net : Net) (form : Items) (holds : Holds) (step : SeenStep) where
  abbrev pub NotesStep : ℕ → List ReadPlace → List ReadPlace → Type 0
  NotesStep scans old new = (x : PlannedStep) → IsPlanOf net form holds step x
      → new ≡ old ++ step_places net holds scans x

  abbrev pub ScansStep : ℕ → ℕ → Type 0
  ScansStep scans after = (x : PlannedStep)
      → IsPlanOf net form holds step x → after ≡ scans_after_step scans x

  abbrev pub HoldsStep : Holds → Type 0
  HoldsStep after = (x : PlannedStep) → IsPlanOf net form holds step x → after ≡ holds_after_step net holds x
