use Rattle.std.proofs.Common.{◌≡◌, ◌+◌, ◌<◌, ℕ, suc, List, length, map, drop, arith, subst}
use Rattle.ij_io.proofs.Adding.{at_refusal}
use Rattle.ij_io.proofs.Fronts.{AddsFront, front_next, front_part}
use Rattle.instruments.specs.Runners.{insts_of, running_of}
use Rattle.instruments.specs.Seen.{seen_model}
use Rattle.report.specs.Instruments.{instrument_text, instruments_from, instruments_text}
use Rattle.report.proofs.Steps.{instruments_next}
use Rattle.report.proofs.state.put_instruments.Goals as goal

pub returns-in_err-put_instrument-clause-part : goal.returns-in_err-put_instrument-clause-part
returns-in_err-put_instrument-clause-part g c =
    let net = c.args.net.now in
    let ms = c.args.models.now.items in
    let rs = c.args.runners.now in
    let i = c.loop-i.i in
    let m = c.get.result.now in
    let r = c.index-runners-i.result in
    let few : i < length ms = omega (arith, c.loop-i-test.true, c.len-i-end.ensures) in
    let also : i < length rs = omega (arith, few, c.requires.runners) in
    let next : i + 1 ≡ suc i = omega arith in
    let here = instruments_next net ms rs i (i + 1) m r few also c.get.ensures c.index-runners-i.is next in
    at_refusal c.from_residual.result
    (front_part (instrument_text net (seen_model m) i (running_of r))
    (instruments_from net (i + 1) (drop (i + 1) (map seen_model ms)) (drop (i + 1) (insts_of rs)))
    (subst (λ (rest : List ℕ). AddsFront (g.K.Sink.taken c.args.k.now) (g.K.Sink.taken c.loop-i.k) rest
    (instruments_text net (map seen_model ms) (insts_of rs))) here c.loop-i.invariant.front)
    c.in_err-put_instrument.ensures.part)

pub loop-i-preserved : goal.loop-i-preserved
loop-i-preserved g c =
    let net = c.args.net.now in
    let ms = c.args.models.now.items in
    let rs = c.args.runners.now in
    let i = c.loop-i.i in
    let m = c.get.result.now in
    let r = c.index-runners-i.result in
    let few : i < length ms = omega (arith, c.loop-i-test.true, c.len-i-end.ensures) in
    let also : i < length rs = omega (arith, few, c.requires.runners) in
    let next : i + 1 ≡ suc i = omega arith in
    let here = instruments_next net ms rs i (i + 1) m r few also c.get.ensures c.index-runners-i.is next in
    record {
      front = front_next (instrument_text net (seen_model m) i (running_of r))
          (instruments_from net (i + 1) (drop (i + 1) (map seen_model ms)) (drop (i + 1) (insts_of rs)))
          (subst (λ (rest : List ℕ). AddsFront (g.K.Sink.taken c.args.k.now) (g.K.Sink.taken c.loop-i.k) rest
          (instruments_text net (map seen_model ms) (insts_of rs))) here c.loop-i.invariant.front)
          c.in_ok-put_instrument.ensures.whole;
      later = omega (arith, c.put_instrument.ensures.cause.later);
    }
