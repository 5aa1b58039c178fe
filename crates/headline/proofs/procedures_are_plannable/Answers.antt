use Rattle.headline.proofs.GroupRounds.{groups_need_one_row_each, procedures_are_plannable}
use Rattle.headline.proofs.procedures_are_plannable.Goals as goal

pub returns-clause-groups : goal.returns-clause-groups
returns-clause-groups c = groups_need_one_row_each

pub returns-clause-steps : goal.returns-clause-steps
returns-clause-steps c = procedures_are_plannable
