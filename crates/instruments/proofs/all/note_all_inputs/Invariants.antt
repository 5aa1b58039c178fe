use Rattle.std.proofs.Common.{◌≡◌, ◌<◌, ℕ, length}
use Rattle.instruments.specs.Arrays.{StandFor}
use Rattle.instruments.specs.OnNetwork.{inputs_at}
use Rattle.instruments.specs.Runners.{shown_at, insts_of}
use Rattle.instruments.proofs.all.note_all_inputs.Given as goal

abbrev pub invariant-loop-i : goal.invariant-loop-i
invariant-loop-i l = record {
  count : length l.runners ≡ length l.fn.runners;
  state : insts_of l.runners ≡ insts_of l.fn.runners;
  seen : (k : ℕ) → k < l.i → StandFor (shown_at l.runners k) (inputs_at l.net l.holds k);
}
