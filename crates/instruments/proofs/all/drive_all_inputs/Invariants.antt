use Rattle.std.proofs.Common.{◌≡◌, ◌<◌, ◌≤◌, ℕ, length}
use Rattle.instruments.specs.Arrays.{StandFor}
use Rattle.instruments.specs.OnNetwork.{inputs_at}
use Rattle.net_graph.specs.Signals.{Holds}
use Rattle.instruments.specs.Runners.{shown_at, AreRunning}
use Rattle.instruments.proofs.Running.{Left, changed}
use Rattle.instruments.proofs.all.drive_all_inputs.Given as goal

abbrev pub invariant-loop-i : goal.invariant-loop-i
invariant-loop-i l = record {
  count : length l.runners ≡ length l.models.items;
  seen : (k : ℕ) → k < l.i → StandFor (shown_at l.runners k) (inputs_at l.net l.holds k);
  rest : (k : ℕ) → l.i ≤ k → shown_at l.runners k ≡ shown_at l.fn.runners k;
  state : (before : Holds) → AreRunning l.net l.models.items before l.fn.runners
      → Left (changed l.net l.models.items before l.holds) l.i l.runners
      ≡ Left (changed l.net l.models.items before l.holds) 0 l.fn.runners;
}
