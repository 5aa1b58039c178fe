use Rattle.std.proofs.Common.{◌≡◌, ◌-◌, ◌+◌, ℕ, suc, List, arith, subst}
use Rattle.ij_io.proofs.Adding.{at_refusal}
use Rattle.ij_io.proofs.Fronts.{AddsFront, front_next, front_part}
use Rattle.report.specs.Instruments.{entry_if, entries_from}
use Rattle.report.proofs.Steps.{entries_next}
use Rattle.report.proofs.instrument.put_entries.Goals as goal

pub returns-in_err-put_entry_if-clause-part : goal.returns-in_err-put_entry_if-clause-part
returns-in_err-put_entry_if-clause-part g c =
    let d = c.args.memory.now in
    let i = c.loop-i.i in
    let m = d.depth - (i + 1) in
    let number = c.mem.result in
    let more : d.depth - i ≡ suc m = omega arith in
    let next : i + 1 ≡ suc i = omega arith in
    let all = entries_from d.name.items d.width c.args.machine.now.memory 0 d.depth in
    let here = entries_next d.name.items d.width c.args.machine.now.memory i (i + 1)
    (d.depth - i) m number more next c.mem.ensures in
    at_refusal c.from_residual.result
    (front_part (entry_if d.name.items d.width i number)
    (entries_from d.name.items d.width c.args.machine.now.memory (i + 1) m)
    (subst (λ (rest : List ℕ). AddsFront (g.K.Sink.taken c.args.k.now) (g.K.Sink.taken c.loop-i.k) rest all)
    here c.loop-i.invariant.front) c.in_err-put_entry_if.ensures.part)

pub loop-i-preserved : goal.loop-i-preserved
loop-i-preserved g c =
    let d = c.args.memory.now in
    let i = c.loop-i.i in
    let m = d.depth - (i + 1) in
    let number = c.mem.result in
    let more : d.depth - i ≡ suc m = omega arith in
    let next : i + 1 ≡ suc i = omega arith in
    let all = entries_from d.name.items d.width c.args.machine.now.memory 0 d.depth in
    let here = entries_next d.name.items d.width c.args.machine.now.memory i (i + 1)
    (d.depth - i) m number more next c.mem.ensures in
    record {
      front = front_next (entry_if d.name.items d.width i number)
          (entries_from d.name.items d.width c.args.machine.now.memory (i + 1) m)
          (subst (λ (rest : List ℕ). AddsFront (g.K.Sink.taken c.args.k.now) (g.K.Sink.taken c.loop-i.k) rest
          all) here c.loop-i.invariant.front) c.in_ok-put_entry_if.ensures.whole;
      later = omega (arith, c.put_entry_if.ensures.cause.later);
    }
