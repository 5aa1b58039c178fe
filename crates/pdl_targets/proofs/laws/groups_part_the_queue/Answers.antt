use Rattle.pdl_targets.proofs.Parted.{are_of_rounds, have_each_write, have_each_read}
use Rattle.pdl_targets.proofs.laws.groups_part_the_queue.Goals as goal

pub returns-clause-rounds : goal.returns-clause-rounds
returns-clause-rounds c = are_of_rounds

pub returns-clause-writes : goal.returns-clause-writes
returns-clause-writes c = have_each_write

pub returns-clause-reads : goal.returns-clause-reads
returns-clause-reads c = have_each_read
