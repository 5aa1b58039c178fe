-- What is written so far, whatever the plans of the steps are.
use Rattle.std.proofs.Common.{◌≤◌, ◌<◌, ◌+◌, ◌^◌, length}
use Rattle.std.specs.Prelude.{All}
use Rattle.pdl_targets.specs.Laws.{rounds_in}
use Rattle.headline.specs.Rounds.{StepIsPlannable}
use Rattle.retargeter.proofs.Scripts.{Go}
use Rattle.retargeter.proofs.procedure.put_steps.Given as goal

abbrev pub invariant-loop-step : goal.invariant-loop-step
invariant-loop-step g l =
    record {
      go : Go l.fn.session l.fn.steps.steps
          (g.K.Sink.taken l.fn.k) l.session l.steps.steps (g.K.Sink.taken l.k);
      plannable : All (StepIsPlannable l.session.net l.session.form) l.steps.steps;
      rounds : rounds_in l.steps.steps ≤ 4096;
      few : l.session.applies + length l.steps.steps < 2 ^ 32;
      later : g.K.Sink.faults l.fn.k ≤ g.K.Sink.faults l.k;
    }

abbrev pub decreases-loop-step : goal.decreases-loop-step
decreases-loop-step g l = length l.steps.steps
