use Rattle.std.proofs.Common.{◌≡◌, ◌-◌, ◌+◌, ℕ, suc, List, ◌++◌, arith, subst, ap}
use Rattle.ij_io.proofs.Adding.{adds_as, adds_part_as, at_refusal}
use Rattle.ij_io.proofs.Fronts.{AddsFront, front_next, front_part}
use Rattle.net_list.specs.Lines.{register_line}
use Rattle.net_list.specs.Listing.{lines_from}
use Rattle.net_list.proofs.Pieces.{lines_next, lines_done}
use Rattle.net_list.proofs.register.put_registers.Goals as goal

pub returns-in_err-put_register-clause-part : goal.returns-in_err-put_register-clause-part
returns-in_err-put_register-clause-part g c =
    let i = c.loop-reg.reg in
    let n = c.register_count-count.result - i in
    let m = c.register_count-count.result - (i + 1) in
    let more : n ≡ suc m = omega arith in
    let next : i + 1 ≡ suc i = omega arith in
    let here : lines_from (register_line c.args.format c.args.net.now c.args.tree.now) i n
    ≡ (register_line c.args.format c.args.net.now c.args.tree.now) i
    ++ lines_from (register_line c.args.format c.args.net.now c.args.tree.now) (i + 1) m =
    lines_next (register_line c.args.format c.args.net.now c.args.tree.now) i (i + 1) n m more next in
    let front = subst (λ (rest : List ℕ). AddsFront (g.K.Sink.taken c.args.k.now)
    (g.K.Sink.taken c.loop-reg.k) rest (lines_from (register_line c.args.format c.args.net.now
    c.args.tree.now) 0 c.register_count-count.result)) here c.loop-reg.invariant.front in
    at_refusal c.from_residual-in_err-put_register.result
    (adds_part_as (ap (lines_from (register_line c.args.format c.args.net.now c.args.tree.now) 0)
    c.register_count-count.ensures) (front_part
    ((register_line c.args.format c.args.net.now c.args.tree.now) i) (lines_from (register_line
    c.args.format c.args.net.now c.args.tree.now) (i + 1) m) front c.in_err-put_register.ensures.part))

pub loop-reg-preserved : goal.loop-reg-preserved
loop-reg-preserved g c =
    let i = c.loop-reg.reg in
    let n = c.register_count-count.result - i in
    let m = c.register_count-count.result - (i + 1) in
    let more : n ≡ suc m = omega arith in
    let next : i + 1 ≡ suc i = omega arith in
    let here : lines_from (register_line c.args.format c.args.net.now c.args.tree.now) i n
    ≡ (register_line c.args.format c.args.net.now c.args.tree.now) i
    ++ lines_from (register_line c.args.format c.args.net.now c.args.tree.now) (i + 1) m =
    lines_next (register_line c.args.format c.args.net.now c.args.tree.now) i (i + 1) n m more next in
    let front = subst (λ (rest : List ℕ). AddsFront (g.K.Sink.taken c.args.k.now)
    (g.K.Sink.taken c.loop-reg.k) rest (lines_from (register_line c.args.format c.args.net.now
    c.args.tree.now) 0 c.register_count-count.result)) here c.loop-reg.invariant.front in
    record {
      front = front_next ((register_line c.args.format c.args.net.now c.args.tree.now) i)
          (lines_from (register_line c.args.format c.args.net.now c.args.tree.now) (i + 1) m)
          front c.in_ok-put_register.ensures.whole;
      later = omega (arith, c.put_register.ensures.cause.later);
    }

pub returns-clause-whole : goal.returns-clause-whole
returns-clause-whole g c =
    let none : c.register_count-count.result - c.loop-reg.reg ≡ 0 = omega (arith, c.loop-reg-test.false) in
    adds_as (ap (lines_from (register_line c.args.format c.args.net.now c.args.tree.now) 0)
    c.register_count-count.ensures)
    (lines_done (register_line c.args.format c.args.net.now c.args.tree.now) c.loop-reg.reg
    (c.register_count-count.result - c.loop-reg.reg) none c.loop-reg.invariant.front)
