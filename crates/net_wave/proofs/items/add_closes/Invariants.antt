use Rattle.std.proofs.Common.{◌≡◌, ◌++◌}
use Rattle.net_wave.specs.Vars.{up_to, close_item}
use Rattle.net_wave.proofs.items.add_closes.Given as goal

abbrev pub invariant-loop-k : goal.invariant-loop-k
invariant-loop-k l = l.items.items ≡ l.fn.items.items ++ up_to (close_item) l._k
