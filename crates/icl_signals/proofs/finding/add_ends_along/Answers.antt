use Rattle.std.proofs.Common.{false, sym, ap, ◌∙◌, arith}
use Rattle.icl_signals.specs.Wirings.{cells_of}
use Rattle.icl_signals.specs.Alike.{wire_after, end_after}
use Rattle.icl_signals.specs.Found.{found_after}
use Rattle.icl_signals.proofs.Beside.{moves, turned_after}
use Rattle.icl_signals.proofs.Ways.{next_found}
use Rattle.icl_signals.proofs.finding.add_ends_along.Goals as goal

pub loop-bit-preserved : goal.loop-bit-preserved
loop-bit-preserved c =
    let w = c.args.wiring.now in
    let l = c.loop-bit in
    let less = c.saturating_sub.ensures in
    let a = c.alike-count.ensures in
    let few = a.few in
    let is = sym c.in-At.is ∙ c.one_move.ensures in
    record {
      ends = c.with_note-ends.ensures;
      run = record {
        some = a.some;
        each = λ k lt. next_found (cells_of w) w.entry (wire_after k l.wire) (found_after k l.run.found)
            c.in-At.inverted (wire_after k c.in-At.other) _ (l.invariant.run.each k (omega (arith, lt, few)))
            (moves (cells_of w) w.entry false l.wire c.alike-count.result _ a.alike is k lt)
            (omega (arith, less))
            (ap (end_after k) c.turned_end.ensures ∙ sym (turned_after k c.in-At.inverted l.run.found.end));
      };
    }
