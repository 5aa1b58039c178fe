use Rattle.std.proofs.Common.{◌≡◌, ◌<◌, ℕ, length}
use Rattle.instruments.specs.Arrays.{StandFor}
use Rattle.instruments.specs.Machine.{Reset}
use Rattle.instruments.specs.OnNetwork.{inputs_at}
use Rattle.instruments.specs.Runners.{shown_at}
use Rattle.instruments.proofs.Running.{Left, had}
use Rattle.instruments.proofs.all.reset_all.Given as goal

abbrev pub invariant-loop-i : goal.invariant-loop-i
invariant-loop-i l = record {
  count : length l.runners ≡ length l.models.items;
  seen : (k : ℕ) → k < l.i → StandFor (shown_at l.runners k) (inputs_at l.net l.holds k);
  state : Left (had l.net l.models.items Reset l.holds) l.i l.runners
      ≡ Left (had l.net l.models.items Reset l.holds) 0 l.fn.runners;
}
