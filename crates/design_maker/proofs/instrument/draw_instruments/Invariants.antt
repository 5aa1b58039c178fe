use Rattle.std.proofs.Common.{◌≡◌, ◌-◌, ◌++◌, length}
use Rattle.design_maker.specs.Instruments.{drawn_instruments}
use Rattle.design_maker.proofs.instrument.draw_instruments.Given as goal

abbrev pub invariant-loop-i : goal.invariant-loop-i
invariant-loop-i l = record {
  drawn : l.instruments.items ++ (drawn_instruments (l.size - l.i) l.g).0
      ≡ (drawn_instruments l.size l.fn.g).0;
  following : (drawn_instruments (l.size - l.i) l.g).1 ≡ (drawn_instruments l.size l.fn.g).1;
  count : length l.instruments.items ≡ l.i;
}
