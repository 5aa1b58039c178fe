-- The plans of a group, of the rounds of an iApply, and of a bit step.
use Rattle.std.specs.Prelude.{◌≡◌, List, [], ◌∷◌, map}
use Rattle.net_graph.specs.declared.net.Net.{Net}
use Rattle.net_graph.specs.SeenSteps.{SeenGroup, SeenStep}
use Rattle.net_graph.specs.Signals.{Holds}
use Rattle.net_tree.specs.Form.{Items}
use Rattle.headline.specs.Retargeting.{PlannedGroup, PlannedStep, seen_of, IsPlannedGroup, GroupsArePlanned}
use Rattle.headline.specs.Retargeting.{StepsArePlanned}

-- these are plans of a group's scans, where the update stages hold this before them
abbrev pub ArePlansOf : Net → Items → Holds → SeenGroup → List SeenGroup → Type 0
ArePlansOf net form holds g plans = IsPlannedGroup net form holds (record { group = g; plans = plans })

-- these are the rounds of these groups with their plans
pub record AreRoundsOf (net : Net) (form : Items) (holds : Holds) (gs : List SeenGroup)
    (rounds : List PlannedGroup) : Type 0 where
  pub groups : map (λ p. p.group) rounds ≡ gs
  pub planned : GroupsArePlanned net form holds rounds

-- this is the bit step with the plans of its rounds
pub record IsPlanOf (net : Net) (form : Items) (holds : Holds)
    (step : SeenStep) (x : PlannedStep) : Type 0 where
  pub of_step : seen_of x ≡ step
  pub planned : StepsArePlanned net form holds (x ∷ [])

-- these are bit steps with the plans of their rounds
pub record AreStepsOf (net : Net) (form : Items) (holds : Holds)
    (steps : List SeenStep) (xs : List PlannedStep) : Type 0 where
  pub of_steps : map seen_of xs ≡ steps
  pub planned : StepsArePlanned net form holds xs
