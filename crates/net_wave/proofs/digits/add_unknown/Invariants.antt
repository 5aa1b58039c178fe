use Rattle.std.proofs.Common.{◌≡◌, ◌++◌}
use Rattle.net_wave.specs.Values.{unknown}
use Rattle.net_wave.proofs.digits.add_unknown.Given as goal

abbrev pub invariant-loop-k : goal.invariant-loop-k
invariant-loop-k l = l.into.items ≡ l.fn.into.items ++ unknown l._k
