use Rattle.std.proofs.Common.{length}
use Rattle.ijtag_core.proofs.made_files.+check_lengths.Given as goal

abbrev pub decreases-check_lengths : goal.decreases-check_lengths
decreases-check_lengths l = length l.files.now
