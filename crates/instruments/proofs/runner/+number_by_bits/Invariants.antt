use Rattle.std.proofs.Common.{length}
use Rattle.instruments.proofs.runner.+number_by_bits.Given as goal

abbrev pub decreases-number_by_bits : goal.decreases-number_by_bits
decreases-number_by_bits l = length l.bits.now
