use Rattle.std.proofs.Common.{◌≡◌, ◌-◌, ◌+◌, ℕ, suc, List, ◌++◌, arith, subst, ap}
use Rattle.ij_io.proofs.Adding.{adds_as, adds_part_as, at_refusal}
use Rattle.ij_io.proofs.Fronts.{AddsFront, front_next, front_part}
use Rattle.net_list.specs.Lines.{instrument_line}
use Rattle.net_list.specs.Listing.{lines_from}
use Rattle.net_list.proofs.Pieces.{lines_next, lines_done}
use Rattle.net_list.proofs.instrument.put_instruments.Goals as goal

pub returns-in_err-put_instrument-clause-part : goal.returns-in_err-put_instrument-clause-part
returns-in_err-put_instrument-clause-part g c =
    let i = c.loop-inst.inst in
    let n = c.inst_count-count.result - i in
    let m = c.inst_count-count.result - (i + 1) in
    let more : n ≡ suc m = omega arith in
    let next : i + 1 ≡ suc i = omega arith in
    let here : lines_from (instrument_line c.args.format c.args.net.now) i n
    ≡ (instrument_line c.args.format c.args.net.now) i
    ++ lines_from (instrument_line c.args.format c.args.net.now) (i + 1) m =
    lines_next (instrument_line c.args.format c.args.net.now) i (i + 1) n m more next in
    let front =
    subst (λ (rest : List ℕ). AddsFront (g.K.Sink.taken c.args.k.now) (g.K.Sink.taken c.loop-inst.k) rest
    (lines_from (instrument_line c.args.format c.args.net.now) 0 c.inst_count-count.result))
    here c.loop-inst.invariant.front in
    at_refusal c.from_residual.result
    (adds_part_as (ap (lines_from (instrument_line c.args.format c.args.net.now) 0)
    c.inst_count-count.ensures) (front_part ((instrument_line c.args.format c.args.net.now) i) (lines_from
    (instrument_line c.args.format c.args.net.now) (i + 1) m) front c.in_err-put_instrument.ensures.part))

pub loop-inst-preserved : goal.loop-inst-preserved
loop-inst-preserved g c =
    let i = c.loop-inst.inst in
    let n = c.inst_count-count.result - i in
    let m = c.inst_count-count.result - (i + 1) in
    let more : n ≡ suc m = omega arith in
    let next : i + 1 ≡ suc i = omega arith in
    let here : lines_from (instrument_line c.args.format c.args.net.now) i n
    ≡ (instrument_line c.args.format c.args.net.now) i
    ++ lines_from (instrument_line c.args.format c.args.net.now) (i + 1) m =
    lines_next (instrument_line c.args.format c.args.net.now) i (i + 1) n m more next in
    let front =
    subst (λ (rest : List ℕ). AddsFront (g.K.Sink.taken c.args.k.now) (g.K.Sink.taken c.loop-inst.k) rest
    (lines_from (instrument_line c.args.format c.args.net.now) 0 c.inst_count-count.result))
    here c.loop-inst.invariant.front in
    record {
      front = front_next ((instrument_line c.args.format c.args.net.now) i)
          (lines_from (instrument_line c.args.format c.args.net.now) (i + 1) m)
          front c.in_ok-put_instrument.ensures.whole;
      later = omega (arith, c.put_instrument.ensures.cause.later);
    }

pub returns-clause-whole : goal.returns-clause-whole
returns-clause-whole g c =
    let none : c.inst_count-count.result - c.loop-inst.inst ≡ 0 = omega (arith, c.loop-inst-test.false) in
    adds_as (ap (lines_from (instrument_line c.args.format c.args.net.now) 0) c.inst_count-count.ensures)
    (lines_done (instrument_line c.args.format c.args.net.now) c.loop-inst.inst
    (c.inst_count-count.result - c.loop-inst.inst) none c.loop-inst.invariant.front)
