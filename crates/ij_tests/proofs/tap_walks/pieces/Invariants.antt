use Rattle.std.proofs.Common.{length}
use Rattle.ij_tests.proofs.tap_walks.pieces.Given as goal

abbrev pub decreases-loop-piece : goal.decreases-loop-piece
decreases-loop-piece l = length l.many.pins
