use Rattle.svf_audit.proofs.Retargeted.{plans_list, plans_pass, plan_texts_pass}
use Rattle.svf_audit.proofs.planned_steps_pass.Goals as goal

pub returns-clause-listed : goal.returns-clause-listed
returns-clause-listed c = plans_list

pub returns-clause-passes : goal.returns-clause-passes
returns-clause-passes c = plans_pass

pub returns-clause-texts : goal.returns-clause-texts
returns-clause-texts c = plan_texts_pass
