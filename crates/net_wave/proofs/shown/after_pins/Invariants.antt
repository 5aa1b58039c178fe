use Rattle.std.proofs.Common.{◌≡◌, ◌<◌, ◌≤◌, ℕ, false, get_or}
use Rattle.net_wave.specs.declared.var.Var.TheVariants.{Tms}
use Rattle.net_wave.specs.Header.{is_pin}
use Rattle.net_wave.proofs.shown.after_pins.Given as goal

abbrev pub invariant-loop-i : goal.invariant-loop-i
invariant-loop-i l =
    record {
      few : l.place ≤ l.i;
      rest : (k : ℕ) → l.place ≤ k → k < l.i → is_pin (get_or l.vars k Tms) ≡ false;
    }
