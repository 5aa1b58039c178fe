use Rattle.svf_audit.proofs.Audited.{audited_plays_do_all}
use Rattle.svf_audit.proofs.Own.{planned_scripts_pass, planned_texts_pass}
use Rattle.svf_audit.proofs.audits_law.Goals as goal

pub returns-clause-plays : goal.returns-clause-plays
returns-clause-plays c = audited_plays_do_all

pub returns-clause-passes : goal.returns-clause-passes
returns-clause-passes c = planned_scripts_pass

pub returns-clause-texts : goal.returns-clause-texts
returns-clause-texts c = planned_texts_pass
