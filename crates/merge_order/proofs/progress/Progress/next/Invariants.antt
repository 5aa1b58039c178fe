use Rattle.std.proofs.Common.{◌≡◌, length}
use Rattle.merge_order.specs.SeenProgress.{IsUnderWay, left_of, steps_of}
use Rattle.merge_order.proofs.progress.Progress.next.Given as goal

abbrev pub invariant-loop-step : goal.invariant-loop-step
invariant-loop-step l = record {
  under_way : IsUnderWay l.self;
  same : left_of l.fn.self ≡ left_of l.self;
}

abbrev pub decreases-loop-step : goal.decreases-loop-step
decreases-loop-step l = length (steps_of l.self).steps
