use Rattle.std.proofs.Common.{◌≡◌, ◌-◌, ◌+◌, ℕ, List, suc, length, arith, subst}
use Rattle.ij_io.proofs.Adding.{at_refusal}
use Rattle.ij_io.proofs.Fronts.{AddsFront, front_next, front_part}
use Rattle.direct_report.specs.Report.{bits_of_registers, in_order, lines, reads_on}
use Rattle.direct_report.specs.Seen.{found_all}
use Rattle.direct_report.proofs.Lining.{next_register}
use Rattle.direct_report.proofs.reads.put_reads.Goals as goal

pub returns-in_err-put_register_reads-clause-part : goal.returns-in_err-put_register_reads-clause-part
returns-in_err-put_register_reads-clause-part g c =
    let net = c.args.net.now in
    let found = found_all c.args.values.now c.args.reads.now in
    let reg = c.loop-reg.reg in
    let n = length net.regs.items in
    let left : n - reg ≡ suc (n - (reg + 1)) =
    omega (arith, c.loop-reg-test.true, c.register_count-count.ensures) in
    let next : reg + 1 ≡ suc reg = omega arith in
    let rest = lines (reads_on found (bits_of_registers net (reg + 1) (n - (reg + 1)))) in
    let here = next_register net found reg (reg + 1) _ _ c.width_of.result left next c.width_of.ensures in
    at_refusal _ (front_part _ rest (subst (λ (l : List ℕ). AddsFront (g.K.Sink.taken c.args.k.now)
    (g.K.Sink.taken c.loop-reg.k) l (lines (in_order net found))) here c.loop-reg.invariant.front)
    c.in_err-put_register_reads.ensures.part)

pub loop-reg-preserved : goal.loop-reg-preserved
loop-reg-preserved g c =
    let net = c.args.net.now in
    let found = found_all c.args.values.now c.args.reads.now in
    let reg = c.loop-reg.reg in
    let n = length net.regs.items in
    let left : n - reg ≡ suc (n - (reg + 1)) =
    omega (arith, c.loop-reg-test.true, c.register_count-count.ensures) in
    let next : reg + 1 ≡ suc reg = omega arith in
    let rest = lines (reads_on found (bits_of_registers net (reg + 1) (n - (reg + 1)))) in
    let here = next_register net found reg (reg + 1) _ _ c.width_of.result left next c.width_of.ensures in
    record {
      front = front_next _ rest (subst (λ (l : List ℕ). AddsFront (g.K.Sink.taken c.args.k.now)
          (g.K.Sink.taken c.loop-reg.k) l (lines (in_order net found))) here c.loop-reg.invariant.front)
          c.in_ok-put_register_reads.ensures.whole;
      later = omega (arith, c.put_register_reads.ensures.cause.later, c.loop-reg.invariant.later);
    }
