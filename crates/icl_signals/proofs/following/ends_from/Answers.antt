use Rattle.std.proofs.Common.{sym, ap, subst, ◌∙◌, arith}
use Rattle.icl_signals.specs.Wirings.{cells_of}
use Rattle.icl_signals.specs.TrueEnds.{IsTrueEnd}
use Rattle.icl_signals.specs.Alike.{wire_after, end_after}
use Rattle.icl_signals.specs.Found.{found_after}
use Rattle.icl_signals.proofs.Beside.{turned_after}
use Rattle.icl_signals.proofs.Ways.{from_found, told_turned}
use Rattle.icl_signals.proofs.following.ends_from.Goals as goal

pub returns-then-run-wiring-clause-value : goal.returns-then-run-wiring-clause-value
returns-then-run-wiring-clause-value c k lt =
    let w = c.args.wiring.now in
    let r = c.in-Some.«run'» in
    from_found (cells_of w) w.entry (wire_after k c.args.wire) (found_after k r.found)
    (c.in-Some.ensures.each k (omega (arith, lt, c.min.ensures))) w.looks c.args.inverted c.if-run-wiring.true
    ∙ turned_after k c.args.inverted r.found.end ∙ ap (end_after k) (sym c.turned_end.ensures)

pub returns-then-run-wiring-clause-told : goal.returns-then-run-wiring-clause-told
returns-then-run-wiring-clause-told c k lt =
    let w = c.args.wiring.now in
    let r = c.in-Some.«run'» in
    let h = c.in-Some.ensures.each k (omega (arith, lt, c.min.ensures)) in
    subst (IsTrueEnd (cells_of w) w.entry)
    (turned_after k c.args.inverted r.found.end ∙ ap (end_after k) (sym c.turned_end.ensures))
    (told_turned (cells_of w) w.entry c.args.inverted (end_after k r.found.end) h.told)
