use Rattle.merge_order.proofs.Taken.{merges_have_turns}
use Rattle.merge_order.proofs.MergeTurning.{merges_do_each_branch}
use Rattle.merge_order.proofs.MergeAlone.{writes_of_one_stay, reads_of_one_stay}
use Rattle.merge_order.proofs.branches_keep_their_order.Goals as goal

pub returns-clause-turns : goal.returns-clause-turns
returns-clause-turns c = merges_have_turns

pub returns-clause-each : goal.returns-clause-each
returns-clause-each c = merges_do_each_branch

pub returns-clause-writes : goal.returns-clause-writes
returns-clause-writes c = writes_of_one_stay

pub returns-clause-reads : goal.returns-clause-reads
returns-clause-reads c = reads_of_one_stay
