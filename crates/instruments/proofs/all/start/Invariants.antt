use Rattle.std.proofs.Common.{◌≡◌, ◌<◌, ℕ, length, take}
use Rattle.instruments.specs.Arrays.{StandFor}
use Rattle.instruments.specs.Machine.{count_log}
use Rattle.instruments.specs.OnNetwork.{inputs_at, fresh}
use Rattle.instruments.specs.Runners.{shown_at, insts_of, machines_of}
use Rattle.instruments.proofs.all.start.Given as goal

abbrev pub invariant-loop-i : goal.invariant-loop-i
invariant-loop-i l = record {
  count : length l.runners.items ≡ l.i;
  state : insts_of l.runners.items ≡ fresh count_log (machines_of (take l.i l.models.items));
  seen : (k : ℕ) → k < l.i → StandFor (shown_at l.runners.items k) (inputs_at l.net l.holds k);
}
