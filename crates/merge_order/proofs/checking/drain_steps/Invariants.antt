use Rattle.std.proofs.Common.{◌≡◌, length}
use Rattle.merge_order.proofs.checking.drain_steps.Given as goal

abbrev pub invariant-loop-step : goal.invariant-loop-step
invariant-loop-step l = record {
  same : l.fn.steps.fault ≡ l.steps.fault;
}

abbrev pub decreases-loop-step : goal.decreases-loop-step
decreases-loop-step l = length l.steps.steps
