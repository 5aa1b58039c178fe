use Rattle.std.proofs.Common.{◌≡◌, ◌-◌, drop, length}
use Rattle.icl_parser.proofs.parsing.rest_of.Given as goal

abbrev pub invariant-loop-rest : goal.invariant-loop-rest
invariant-loop-rest l = drop (length l.rest - l.left) l.rest ≡ drop (length l.fn.tokens - l.left) l.fn.tokens

abbrev pub decreases-loop-rest : goal.decreases-loop-rest
decreases-loop-rest l = length l.rest
