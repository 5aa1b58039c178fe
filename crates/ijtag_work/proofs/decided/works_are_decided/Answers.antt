use Rattle.ijtag_work.specs.Order.{task}
use Rattle.ijtag_work.proofs.Deciding.{all_settled, work_decided}
use Rattle.ijtag_work.proofs.decided.works_are_decided.Goals as goal

pub returns-clause-decided : goal.returns-clause-decided
returns-clause-decided c =
    work_decided c.stages_are_decided.ensures c.planned_steps_law.ensures.texts c.places_are_one.ensures.one

pub returns-clause-settled : goal.returns-clause-settled
returns-clause-settled c =
    all_settled task (work_decided c.stages_are_decided.ensures
    c.planned_steps_law.ensures.texts c.places_are_one.ensures.one)
