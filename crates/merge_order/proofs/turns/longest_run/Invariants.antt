use Rattle.std.proofs.Common.{◌≡◌, max, drop}
use Rattle.merge_order.specs.Merge as merge
use Rattle.merge_order.specs.SeenTurns.{seen_heads}
use Rattle.merge_order.proofs.turns.longest_run.Given as goal

abbrev pub invariant-loop-step : goal.invariant-loop-step
invariant-loop-step l = max l.longest (merge.longest_run (seen_heads (drop l.step-index l.heads)))
    ≡ merge.longest_run (seen_heads l.heads)
