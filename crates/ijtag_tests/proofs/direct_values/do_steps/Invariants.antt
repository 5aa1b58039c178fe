-- What is left is of the network, with as many instruments as before.
use Rattle.std.proofs.Common.{◌≡◌, length}
use Rattle.std.specs.Prelude.{All}
use Rattle.net_graph.specs.Steps.{IsStep}
use Rattle.ijtag_tests.proofs.direct_values.do_steps.Given as goal

abbrev pub invariant-loop-step : goal.invariant-loop-step
invariant-loop-step l =
    record {
      steps : All (IsStep l.direct.net) l.steps.steps;
      insts : length l.direct.state.insts ≡ length l.fn.direct.state.insts;
    }

abbrev pub decreases-loop-step : goal.decreases-loop-step
decreases-loop-step l = length l.steps.steps
