use Rattle.std.proofs.Common.{◌≡◌, ◌++◌, map}
use Rattle.net_graph.specs.SeenSteps.{Apply}
use Rattle.merge_order.specs.SeenJoins.{seen_joins}
use Rattle.merge_order.specs.SeenTurns.{seen_steps}
use Rattle.merge_order.proofs.turns.put_joins.Given as goal

abbrev pub invariant-loop-join : goal.invariant-loop-join
invariant-loop-join l = seen_steps l.steps.items
    ≡ seen_steps l.fn.steps.items ++ map Apply (seen_joins l.yielded)
