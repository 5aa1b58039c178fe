-- How far the bit steps of a procedure were gone through, and that the reads from there on are those of all.
use Rattle.std.specs.Prelude.{◌≡◌, ◌<◌, ◌≤◌, ◌+◌, ◌*◌, ◌^◌, ℕ, List, ◌++◌, length, None, All}
use Rattle.net_graph.specs.declared.net.Net.{Net}
use Rattle.net_graph.specs.Resets.{start_holds}
use Rattle.net_graph.specs.SeenSteps.{SeenStep}
use Rattle.net_graph.specs.Signals.{Holds}
use Rattle.net_tree.specs.Form.{Items}
use Rattle.net_tree.specs.Routes.{HasRoom}
use Rattle.path_planner.specs.Scannable.{IsScannable}
use Rattle.pdl_targets.specs.Laws.{rounds_in}
use Rattle.headline.specs.Retargeting.{PlannedStep}
use Rattle.headline.specs.Rounds.{StepIsPlannable}
use Rattle.retargeter.specs.Plans.{AreStepsOf}
use Rattle.run_report.specs.Places.{places, read_at, steps_places}
use Rattle.run_report.specs.declared.cursor.Cursor.{Cursor}
use Rattle.run_report.specs.declared.place.ReadPlace.{ReadPlace}

-- what is left of a procedure can be gone through
pub record CanGoOn (net : Net) (form : Items) (c : Cursor) : Type 0 where
  pub no_fault : c.steps.fault ≡ None
  pub plannable : All (StepIsPlannable net form) c.steps.steps
  pub few : c.scans + 17 * rounds_in c.steps.steps + length c.steps.steps < 2 ^ 32
  pub scannable : IsScannable net c.holds
  pub room : HasRoom net c.route

-- of all planned steps these are left: from scan `first` on the reads are those that are noted and those of
-- the rest, and after `scans` scans those of the rest alone
pub record Stands (net : Net) (form : Items) (left : List SeenStep) (holds : Holds) (first scans : ℕ)
    (noted : List ReadPlace) (all : List PlannedStep) : Type 0 where
  pub rest : List PlannedStep
  pub is_left : AreStepsOf net form holds left rest
  pub found : (scan bit : ℕ) → first ≤ scan
      → read_at (places net all) scan bit ≡ read_at (noted ++ steps_places net holds scans rest) scan bit
  pub later : (scan bit : ℕ) → scans < scan
      → read_at (places net all) scan bit ≡ read_at (steps_places net holds scans rest) scan bit

-- whatever the plans are
abbrev pub StandsIn : Net → Items → List SeenStep → Cursor → Type 0
StandsIn net form steps c =
    (all : List PlannedStep) → AreStepsOf net form (start_holds net) steps all
    → Stands net form c.steps.steps c.holds c.first c.scans c.places.items all

-- where one is in a procedure, the other does
abbrev pub StandsOn : Net → Items → Cursor → Cursor → Type 0
StandsOn net form old new = (steps : List SeenStep)
    → StandsIn net form steps old → StandsIn net form steps new

pub record IsCursor (net : Net) (form : Items) (steps : List SeenStep) (c : Cursor) : Type 0 where
  pub can : CanGoOn net form c
  pub stands : StandsIn net form steps c
