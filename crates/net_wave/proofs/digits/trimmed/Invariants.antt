use Rattle.std.proofs.Common.{◌≡◌, length}
use Rattle.net_wave.specs.Moments.{trimmed}
use Rattle.net_wave.proofs.digits.trimmed.Given as goal

abbrev pub invariant-loop-rest : goal.invariant-loop-rest
invariant-loop-rest l = trimmed l.rest ≡ trimmed l.digits

abbrev pub decreases-loop-rest : goal.decreases-loop-rest
decreases-loop-rest l = length l.rest
