use Rattle.ijtag_work.proofs.Totals.{works_total}
use Rattle.ijtag_work.proofs.decided.works_are_total.Goals as goal

pub returns : goal.returns
returns c =
    let few = c.bit_steps_are_few.ensures in
    works_total c.stages_are_total.ensures c.planned_steps_law.ensures.right
    c.bit_steps_are_of_the_network.ensures.steps c.bit_steps_are_of_the_network.ensures.paths
    c.procedures_are_plannable.ensures.steps
    few.steps few.rounds few.cycles
