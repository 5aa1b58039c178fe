use Rattle.std.proofs.Common.{◌≡◌, ◌+◌, length}
use Rattle.pdl_targets.specs.Laws.{rounds_in}
use Rattle.ijtag_core.proofs.made_rounds.count_rounds.Given as goal

abbrev pub invariant-loop-step : goal.invariant-loop-step
invariant-loop-step l = l.rounds + rounds_in l.steps.steps ≡ rounds_in l.fn.steps.steps

abbrev pub decreases-loop-step : goal.decreases-loop-step
decreases-loop-step l = length l.steps.steps
