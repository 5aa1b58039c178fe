-- The first of some planned steps, and those after it.
use Rattle.std.proofs.Common.{List, ◌∷◌, get_or, drop, ap}
use Rattle.net_graph.specs.declared.net.Net.{Net}
use Rattle.net_graph.specs.SeenSteps.{SeenStep}
use Rattle.net_graph.specs.Signals.{Holds}
use Rattle.net_tree.specs.Form.{Items}
use Rattle.headline.specs.Retargeting.{PlannedStep, seen_of, holds_after_step}
use Rattle.retargeter.specs.Plans.{AreStepsOf, IsPlanOf}
use Rattle.retargeter.proofs.Scripts.{first_planned, others_planned}

module _ (net : Net) (form : Items) where
  module _ (holds : Holds) (step : SeenStep) (steps : List SeenStep) (x : PlannedStep) (xs : List PlannedStep)
      (a : AreStepsOf net form holds (step ∷ steps) (x ∷ xs)) where
    pub first_of : IsPlanOf net form holds step x
    first_of =
        record {
          of_step = ap (λ zs. get_or zs 0 (seen_of x)) a.of_steps;
          planned = first_planned net form x xs holds a.planned;
        }

    pub others_of : AreStepsOf net form (holds_after_step net holds x) steps xs
    others_of =
        record { of_steps = ap (drop 1) a.of_steps; planned = others_planned net form x xs holds a.planned }
