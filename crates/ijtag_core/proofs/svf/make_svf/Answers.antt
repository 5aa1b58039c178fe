use Rattle.std.proofs.Common.{sym, subst}
use Rattle.std.specs.Prelude.{All}
use Rattle.merge_order.specs.BitSteps.{BitStepsOf}
use Rattle.headline.specs.Rounds.{StepIsPlannable}
use Rattle.pdl_parser.specs.Views.{seen_procs}
use Rattle.ijtag_work.proofs.Made.{plannable}
use Rattle.ijtag_core.proofs.svf.make_svf.Goals as goal

pub put_svf-told-requires-clause-plannable : goal.put_svf-told-requires-clause-plannable
put_svf-told-requires-clause-plannable c =
    let network = c.args.it.now.network in
    let nested = c.requires.usable.nested in
    let procedure = c.procedure.result.now in
    subst (λ (b : BitStepsOf). All (StepIsPlannable network.net network.form) b.steps)
    (sym c.in_ok-steps.ensures)
    (plannable c.bit_steps_are_of_the_network.ensures.steps c.bit_steps_are_of_the_network.ensures.paths
    c.procedures_are_plannable.ensures.steps
    (seen_procs procedure.procs) network.net network.form procedure.name.items
    nested.well_formed nested.describes)
