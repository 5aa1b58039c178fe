use Rattle.std.proofs.Common.{◌<◌, ◌≤◌, ℕ}
use Rattle.icl_signals.specs.Wirings.{cells_of}
use Rattle.icl_signals.specs.Alike.{wire_after}
use Rattle.icl_signals.proofs.Ways.{IsOnWay, IsMet}
use Rattle.icl_signals.proofs.finding.find.Given as goal

abbrev pub invariant-loop-moves : goal.invariant-loop-moves
invariant-loop-moves l = record {
  some : 1 ≤ l.count;
  way : (k : ℕ) → k < l.count → IsOnWay (cells_of l.wiring) l.wiring.entry (wire_after k l.fn.start) l.moves
      l.inverted (wire_after k l.wire);
  mark : (k : ℕ) → k < l.count → IsMet (cells_of l.wiring) l.wiring.entry (wire_after k l.fn.start) l.moves
      (wire_after k l.marked);
}
