use Rattle.std.proofs.Common.{length}
use Rattle.instruments.proofs.all.+captured_by_bits.Given as goal

abbrev pub decreases-captured_by_bits : goal.decreases-captured_by_bits
decreases-captured_by_bits l = length l.sigs.now
