-- What is done and printed so far.
use Rattle.std.proofs.Common.{◌≤◌, ◌<◌, ◌+◌, ◌*◌, ◌^◌, length}
use Rattle.std.specs.Prelude.{All}
use Rattle.net_graph.specs.Steps.{IsStep}
use Rattle.pdl_targets.specs.Laws.{rounds_in}
use Rattle.direct_report.proofs.Wholes.{Go, IsOf}
use Rattle.direct_report.proofs.whole.put_steps.Given as goal

abbrev pub invariant-loop-step : goal.invariant-loop-step
invariant-loop-step g l =
    record {
      go : Go l.fn.play l.fn.steps.steps (g.K.Sink.taken l.fn.k) l.play l.steps.steps (g.K.Sink.taken l.k);
      of : IsOf l.fn.play l.play;
      steps : All (IsStep l.play.net) l.steps.steps;
      few : l.play.reads + 4096 * rounds_in l.steps.steps < 2 ^ 64;
      later : g.K.Sink.faults l.fn.k ≤ g.K.Sink.faults l.k;
    }

abbrev pub decreases-loop-step : goal.decreases-loop-step
decreases-loop-step g l = length l.steps.steps
