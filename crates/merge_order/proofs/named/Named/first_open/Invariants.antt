use Rattle.std.proofs.Common.{◌≡◌, ◌<◌, ◌*◌, ℕ, true}
use Rattle.net_graph.specs.SeenSteps.{seen_group}
use Rattle.merge_order.specs.Named.{refuses}
use Rattle.merge_order.proofs.named.Named.first_open.Given as goal

abbrev pub invariant-loop-w : goal.invariant-loop-w
invariant-loop-w l = (k : ℕ) → k < 64 * l.w → refuses l.self (seen_group l.group) l.around k ≡ true
