use Rattle.std.proofs.Common.{◌≡◌, ◌<◌, ◌≤◌, ◌+◌, ℕ, Bool, List, Option, Some, None, min, refl, sym, ap}
use Rattle.std.proofs.Common.{subst}
use Rattle.std.proofs.Common.{◌∙◌, arith}
use Rattle.std.specs.Prelude.{IfSome}
use Rattle.icl_references.specs.Roles.{CellOf}
use Rattle.icl_signals.specs.declared.wires.Wire.{Wire}
use Rattle.icl_signals.specs.declared.found.FoundRun.{FoundRun}
use Rattle.icl_signals.specs.Wirings.{cells_of}
use Rattle.icl_signals.specs.Alike.{wire_after, end_after}
use Rattle.icl_signals.specs.Found.{AreFoundFrom, found_after, turned_end}
use Rattle.icl_signals.proofs.Beside.{moves, told, turned_after}
use Rattle.icl_signals.proofs.Ways.{IsOnWay, IsMet, begins, met_first, met_before, met_now, moved, ended}
use Rattle.icl_signals.proofs.Ways.{goes_on, comes_back}
use Rattle.icl_signals.proofs.finding.find.Goals.{then-moves-until, else-moves-until}
use Rattle.icl_signals.proofs.finding.find.Goals as goal

pub loop-moves-init : goal.loop-moves-init
loop-moves-init c =
    let w = c.args.wiring.now in
    record {
      some = c.requires.count;
      way = λ k lt. begins (cells_of w) w.entry (wire_after k c.args.start);
      mark = λ k lt. met_first (cells_of w) w.entry (wire_after k c.args.start);
    }

go_on_if : (cells : List CellOf) (entry start : Wire) (m : ℕ) (i : Bool) (w : Wire) (count : ℕ) (r : FoundRun)
    (o : Option FoundRun) → 1 ≤ count
    → ((k : ℕ) → k < count → IsOnWay cells entry (wire_after k start) m i (wire_after k w))
    → AreFoundFrom cells entry w r → IfSome o (λ s. s.found.looks ≡ m + r.found.looks)
    → IfSome o (λ s. s.found.end ≡ turned_end i r.found.end) → IfSome o (λ s. s.count ≡ min count r.count)
    → IfSome o (λ s. AreFoundFrom cells entry start s)
go_on_if cells entry start m i w count r None some way h looks e n = tt
go_on_if cells entry start m i w count r (Some s) some way h looks e n =
    let one = h.some in
    record {
      some = omega (arith, n, some, one);
      each = λ k lt. goes_on cells entry (wire_after k start) m i (wire_after k w) (found_after k r.found)
          (found_after k s.found) (way k (omega (arith, lt, n))) (h.each k (omega (arith, lt, n))) looks
          (ap (end_after k) e ∙ sym (turned_after k i r.found.end));
    }

pub returns-in-Some : goal.returns-in-Some
returns-in-Some c =
    let w = c.args.wiring.now in
    let l = c.loop-moves in
    go_on_if (cells_of w) w.entry c.args.start l.moves l.inverted l.wire l.count c.in-Some.«run'»
    c.ends_after_moves.result l.invariant.some l.invariant.way c.in-Some.ensures
    c.ends_after_moves.ensures.looks c.ends_after_moves.ensures.end c.ends_after_moves.ensures.count

pub returns-in-Ended : goal.returns-in-Ended
returns-in-Ended c =
    let w = c.args.wiring.now in
    let l = c.loop-moves in
    let a = c.alike-count.ensures in
    let few = a.few in
    let is = sym c.in-Ended.is ∙ c.one_move.ensures in
    record {
      some = a.some;
      each = λ k lt. ended (cells_of w) w.entry (wire_after k c.args.start) l.moves l.inverted (wire_after k
          l.wire)
          _ (l.invariant.way k (omega (arith, lt, few)))
          (moves (cells_of w) w.entry l.inverted l.wire c.alike-count.result _ a.alike is k lt) refl
          (told (cells_of w) w.entry l.inverted l.wire c.alike-count.result _ a.alike is k lt);
    }

pub returns-then-same_wire : goal.returns-then-same_wire
returns-then-same_wire c =
    let w = c.args.wiring.now in
    let l = c.loop-moves in
    let a = c.alike-count.ensures in
    let few = a.few in
    let same = c.same_wire.ensures c.if-same_wire.true in
    let is = sym c.in-At.is ∙ c.one_move.ensures in
    record {
      some = a.some;
      each = λ k lt. record {
        ends = λ n le. comes_back (cells_of w) w.entry (wire_after k c.args.start) l.moves c.in-At.turned
            (wire_after k c.in-At.other)
            (subst (λ v. IsMet (cells_of w) w.entry (wire_after k c.args.start) l.moves (wire_after k v))
            (sym same) (l.invariant.mark k (omega (arith, lt, few))))
            (moved (cells_of w) w.entry (wire_after k c.args.start) l.moves l.inverted (wire_after k l.wire)
            c.in-At.turned (wire_after k c.in-At.other) (l.invariant.way k (omega (arith, lt, few)))
            (moves (cells_of w) w.entry l.inverted l.wire c.alike-count.result _ a.alike is k lt)) n;
        told = tt;
      };
    }

pub loop-moves-preserved : goal.loop-moves-preserved
loop-moves-preserved c =
    let w = c.args.wiring.now in
    let l = c.loop-moves in
    let a = c.alike-count.ensures in
    let few = a.few in
    let is = sym c.in-At.is ∙ c.one_move.ensures in
    let way : (k : ℕ) → k < c.alike-count.result → IsOnWay (cells_of w) w.entry (wire_after k c.args.start)
    (l.moves + 1) c.in-At.turned (wire_after k c.in-At.other) = λ k lt.
    moved (cells_of w) w.entry (wire_after k c.args.start) l.moves l.inverted (wire_after k l.wire)
    c.in-At.turned (wire_after k c.in-At.other) (l.invariant.way k (omega (arith, lt, few)))
    (moves (cells_of w) w.entry l.inverted l.wire c.alike-count.result _ a.alike is k lt) in
    elim c.if-moves-until.branch [
      | then-moves-until b ↦ record {
        some = a.some;
        way = rw (b.wire-is, b.inverted-is) way;
        mark = rw b.marked-is (λ k lt. met_now (cells_of w) w.entry (wire_after k c.args.start) (l.moves + 1)
            c.in-At.turned (wire_after k c.in-At.other) (way k lt));
      }
      | else-moves-until b ↦ record {
        some = a.some;
        way = rw (b.wire-is, b.inverted-is) way;
        mark = rw b.marked-is (λ k lt. met_before (cells_of w) w.entry (wire_after k c.args.start) l.moves
            (wire_after k l.marked) (l.invariant.mark k (omega (arith, lt, few))));
      }
    ]
