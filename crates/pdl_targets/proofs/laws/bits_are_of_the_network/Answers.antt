use Rattle.pdl_targets.proofs.Bits.{writes_are_of_the_network, reads_are_of_the_network}
use Rattle.pdl_targets.proofs.laws.bits_are_of_the_network.Goals as goal

pub returns-clause-writes : goal.returns-clause-writes
returns-clause-writes c = writes_are_of_the_network

pub returns-clause-reads : goal.returns-clause-reads
returns-clause-reads c = reads_are_of_the_network
