use Rattle.std.proofs.Common.{◌≡◌, suc, ◌*◌, ◌-◌, ◌+◌, ◌++◌, length, arith, ap, ◌∙◌}
use Rattle.design_maker.specs.Procedure.{turns_text}
use Rattle.design_maker.proofs.Loops.{turn_next, same_count}
use Rattle.design_maker.proofs.procedure.put_turns.Goals as goal

pub loop-i-preserved : goal.loop-i-preserved
loop-i-preserved c =
    let all = 2 * length c.args.instruments.now.items in
    let n = all - c.loop-i.i in
    let m = all - (c.loop-i.i + 1) in
    let xs = c.loop-i.instruments.items in
    let ys = c.do_turn-word.new.instruments.items in
    let t = c.draw_turn-turn.result in
    let word = c.do_turn-word.result in
    let some : n ≡ suc m = omega (arith, c.loop-i-test.true, c.len-i-end.ensures) in
    record {
      text = ap (λ l. l ++ turns_text m ys c.draw_turn-turn.new.g) c.in_ok-put_turn.ensures
          ∙ turn_next n m xs ys c.loop-i.g c.draw_turn-turn.new.g t word c.loop-i.pdl (c.args.pdl.now
          ++ turns_text all c.args.instruments.now.items c.args.g.now) some c.draw_turn-turn.ensures.drawn
          c.do_turn-word.ensures.state c.do_turn-word.ensures.word c.loop-i.invariant.text;
      count = same_count t xs ys c.do_turn-word.ensures.state ∙ c.loop-i.invariant.count;
    }
