use Rattle.std.proofs.Common.{length}
use Rattle.ij_tests.proofs.tap_walks.played.Given as goal

abbrev pub decreases-loop-pins : goal.decreases-loop-pins
decreases-loop-pins l = length l.player.pins
