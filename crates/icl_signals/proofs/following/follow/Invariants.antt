use Rattle.std.proofs.Common.{◌≡◌, ◌<◌, ◌≤◌, ◌-◌, ℕ}
use Rattle.icl_signals.specs.Wirings.{cells_of}
use Rattle.icl_signals.specs.Alike.{wire_after}
use Rattle.icl_signals.specs.Traces.{follow}
use Rattle.icl_signals.proofs.following.follow.Given as goal

abbrev pub invariant-loop-look : goal.invariant-loop-look
invariant-loop-look l = record {
  some : 1 ≤ l.count;
  few : l.count ≤ l.fn.count;
  rest : (k : ℕ) → k < l.count
      → follow (cells_of l.wiring) l.wiring.entry (l.wiring.looks - l._look) l.inverted (wire_after k l.wire)
      ≡ follow (cells_of l.wiring) l.wiring.entry l.wiring.looks l.fn.inverted (wire_after k l.fn.wire);
}
