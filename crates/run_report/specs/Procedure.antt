-- A procedure on a network, by its bit steps, and the reads that are at each scan and position.
use Rattle.std.specs.Prelude.{◌≡◌, ℕ, List, None, All}
use Rattle.bench_report.specs.Report.{Names}
use Rattle.merge_order.specs.BitSteps.{BitStepsOf}
use Rattle.net_graph.specs.declared.net.Net.{Net}
use Rattle.net_graph.specs.Resets.{start_holds}
use Rattle.net_graph.specs.SeenSteps.{SeenStep}
use Rattle.net_tree.specs.Form.{Items}
use Rattle.headline.specs.Retargeting.{PlannedStep, IsRetargetable}
use Rattle.headline.specs.Rounds.{StepIsPlannable}
use Rattle.retargeter.specs.Plans.{AreStepsOf}
use Rattle.retargeter.specs.Scripts.{AreFew}
use Rattle.run_report.specs.Places.{places, read_at}

pub record Procedure : Type 0 where
  pub net : Net
  pub form : Items
  pub steps : List SeenStep

-- these are the reads of its SVF: of plans for its bit steps, each at its place
pub record AreReadNames (p : Procedure) (names : Names) : Type 0 where
  pub plans : List PlannedStep
  pub planned : AreStepsOf p.net p.form (start_holds p.net) p.steps plans
  pub named : (scan bit : ℕ) → names scan bit ≡ read_at (places p.net plans) scan bit

-- bit steps that can be retargeted on the network, and end in no fault
pub record CanRetarget (net : Net) (form : Items) (of : BitStepsOf) : Type 0 where
  pub network : IsRetargetable net form
  pub no_fault : of.fault ≡ None
  pub plannable : All (StepIsPlannable net form) of.steps
  pub few : AreFew of.steps
