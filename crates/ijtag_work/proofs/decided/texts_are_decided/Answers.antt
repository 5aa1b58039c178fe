use Rattle.ijtag_work.proofs.Deciding.{accepted_of_decided, loads_decided}
use Rattle.ijtag_work.proofs.decided.texts_are_decided.Goals as goal

pub returns-clause-loads : goal.returns-clause-loads
returns-clause-loads c = loads_decided

pub returns-clause-texts : goal.returns-clause-texts
returns-clause-texts c =
    accepted_of_decided c.stages_are_decided.ensures
    c.planned_steps_law.ensures.texts c.places_are_one.ensures.one
