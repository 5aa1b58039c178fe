use Rattle.std.proofs.Common.{sym, subst}
use Rattle.net_graph.specs.SeenSteps.{seen_step}
use Rattle.headline.specs.Rounds.{StepIsPlannable}
use Rattle.retargeter.specs.Writing.{HasPlan}
use Rattle.retargeter.proofs.Found.{step_planned}
use Rattle.retargeter.proofs.retargeter.Retargeter.put_step.Goals as goal

pub returns-clause-plan : goal.returns-clause-plan
returns-clause-plan g c =
    let ready = c.self.invariant.0 in
    let step = subst (λ s. StepIsPlannable s.net s.form (seen_step c.args.step.now))
    (sym c.self.view_is) c.requires.step in
    subst (λ s. HasPlan s (seen_step c.args.step.now)) c.self.view_is
    (step_planned c.self.inside.net.now c.self.inside.tree.now ready.network
    (seen_step c.args.step.now) c.self.inside.holds ready.scannable step)
