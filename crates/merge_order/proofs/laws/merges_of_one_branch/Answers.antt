use Rattle.merge_order.proofs.Alone.{one_branch_stays, no_branch_does_nothing}
use Rattle.merge_order.proofs.laws.merges_of_one_branch.Goals as goal

pub returns-clause-one : goal.returns-clause-one
returns-clause-one c = one_branch_stays

pub returns-clause-none : goal.returns-clause-none
returns-clause-none c = no_branch_does_nothing
