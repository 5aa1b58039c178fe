use Rattle.merge_order.proofs.Whole.{merges_have_each_write, merges_have_each_read}
use Rattle.merge_order.proofs.laws.merges_do_their_branches.Goals as goal

pub returns-clause-writes : goal.returns-clause-writes
returns-clause-writes c = merges_have_each_write

pub returns-clause-reads : goal.returns-clause-reads
returns-clause-reads c = merges_have_each_read
