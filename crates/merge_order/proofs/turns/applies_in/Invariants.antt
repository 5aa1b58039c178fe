use Rattle.std.proofs.Common.{◌≡◌, ◌++◌, drop}
use Rattle.merge_order.specs.Merge as merge
use Rattle.merge_order.specs.SeenJoins.{seen_applies}
use Rattle.merge_order.specs.SeenTurns.{seen_heads}
use Rattle.merge_order.proofs.turns.applies_in.Given as goal

abbrev pub invariant-loop-step : goal.invariant-loop-step
invariant-loop-step l = seen_applies l.applies.items
    ++ merge.applies_in (seen_heads (drop l.step-index l.heads)) ≡ merge.applies_in (seen_heads l.heads)
