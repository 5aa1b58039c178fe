use Rattle.std.proofs.Common.{◌-◌, ◌+◌, ◌++◌, length, arith, ap, ◌∙◌, length-append, [], ◌∷◌}
use Rattle.design_maker.specs.Instruments.{drawn_instruments}
use Rattle.design_maker.proofs.Loops.{drawn_next, after_next, drawn_done}
use Rattle.design_maker.proofs.instrument.draw_instruments.Goals as goal

pub loop-i-preserved : goal.loop-i-preserved
loop-i-preserved c =
    let n = c.args.size - c.loop-i.i in
    let m = c.args.size - (c.loop-i.i + 1) in
    let whole = drawn_instruments c.args.size c.args.g.now in
    record {
      drawn = ap (λ l. l ++ (drawn_instruments m c.draw_instrument.new.g).0) c.in_ok-push.ensures.ok
          ∙ drawn_next n m c.loop-i.g c.draw_instrument.new.g c.draw_instrument.result
          c.loop-i.instruments.items whole.0 (omega arith) c.draw_instrument.ensures c.loop-i.invariant.drawn;
      following = after_next n m c.loop-i.g c.draw_instrument.new.g whole.1 c.draw_instrument.result
          (omega arith) c.draw_instrument.ensures c.loop-i.invariant.following;
      count = omega (
        arith,
        ap length c.in_ok-push.ensures.ok,
        length-append c.loop-i.instruments.items (c.draw_instrument.result ∷ []),
        c.loop-i.invariant.count,
      );
    }

pub returns-clause-drawn : goal.returns-clause-drawn
returns-clause-drawn c =
    let whole = drawn_instruments c.args.size c.args.g.now in
    drawn_done (c.args.size - c.loop-i.i) c.loop-i.g whole.1 c.loop-i.instruments.items whole.0
    (omega arith) c.loop-i.invariant.drawn c.loop-i.invariant.following
