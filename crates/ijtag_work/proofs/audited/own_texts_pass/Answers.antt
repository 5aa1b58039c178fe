use Rattle.ijtag_work.proofs.Audits.{own_texts, written_yes}
use Rattle.ijtag_work.proofs.audited.own_texts_pass.Goals as goal

pub returns-clause-files : goal.returns-clause-files
returns-clause-files c =
    own_texts c.planned_steps_law.ensures.scripts
    c.audits_law.ensures.passes c.planned_steps_pass.ensures.listed

pub returns-clause-texts : goal.returns-clause-texts
returns-clause-texts c =
    written_yes c.planned_steps_law.ensures.scripts
    c.audits_law.ensures.passes c.planned_steps_pass.ensures.listed
