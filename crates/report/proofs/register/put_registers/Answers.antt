use Rattle.std.proofs.Common.{◌≡◌, ◌-◌, ◌+◌, ℕ, suc, List, ◌++◌, arith, subst}
use Rattle.ij_io.proofs.Adding.{at_refusal}
use Rattle.ij_io.proofs.Fronts.{AddsFront, front_next, front_part}
use Rattle.report.specs.Registers.{register_text, registers_from, registers_text}
use Rattle.report.proofs.Steps.{registers_next}
use Rattle.report.proofs.register.put_registers.Goals as goal

pub returns-in_err-put_register-clause-part : goal.returns-in_err-put_register-clause-part
returns-in_err-put_register-clause-part g c =
    let net = c.args.net.now in
    let holds = c.args.holds.now in
    let r = c.loop-reg.reg in
    let n = c.register_count-count.result - r in
    let m = c.register_count-count.result - (r + 1) in
    let more : n ≡ suc m = omega arith in
    let next : r + 1 ≡ suc r = omega arith in
    let here : registers_from net holds r n ≡ register_text net holds r
    ++ registers_from net holds (r + 1) m = registers_next net holds r (r + 1) n m more next in
    at_refusal c.from_residual.result
    (front_part (register_text net holds r) (registers_from net holds (r + 1) m)
    (subst (λ (rest : List ℕ). AddsFront (g.K.Sink.taken c.args.k.now) (g.K.Sink.taken c.loop-reg.k) rest
    (registers_text net holds)) here c.loop-reg.invariant.front) c.in_err-put_register.ensures.part)

pub loop-reg-preserved : goal.loop-reg-preserved
loop-reg-preserved g c =
    let net = c.args.net.now in
    let holds = c.args.holds.now in
    let r = c.loop-reg.reg in
    let n = c.register_count-count.result - r in
    let m = c.register_count-count.result - (r + 1) in
    let more : n ≡ suc m = omega arith in
    let next : r + 1 ≡ suc r = omega arith in
    let here : registers_from net holds r n ≡ register_text net holds r
    ++ registers_from net holds (r + 1) m = registers_next net holds r (r + 1) n m more next in
    record {
      front = front_next (register_text net holds r) (registers_from net holds (r + 1) m)
          (subst (λ (rest : List ℕ). AddsFront (g.K.Sink.taken c.args.k.now)
          (g.K.Sink.taken c.loop-reg.k) rest (registers_text net holds)) here c.loop-reg.invariant.front)
          c.in_ok-put_register.ensures.whole;
      later = omega (arith, c.put_register.ensures.cause.later);
    }
