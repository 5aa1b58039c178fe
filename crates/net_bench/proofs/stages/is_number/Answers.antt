use Rattle.std.proofs.Common.{ap, sym, ◌∙◌, arith, Bool, ◌-◌, ◌+◌, ◌<◌, ◌/◌, ◌%◌, ◌==◌, drop, length}
use Rattle.std.specs.Prelude.{◌&&◌}
use Rattle.ij_bits.specs.BitLists.{bits_of, bits_eq, same_bit}
use Rattle.ij_bits.proofs.SameBits.{differ, agree}
use Rattle.net_bench.proofs.StageSteps.{eq_step}
use Rattle.net_bench.proofs.stages.is_number.Goals as goal

pub returns-then-get-rest : goal.returns-then-get-rest
returns-then-get-rest c =
    let within : c.loop-i.i < length c.args.stage.now.items = omega arith in
    let rest : Bool = bits_eq (drop (c.loop-i.i + 1) c.args.stage.now.items)
    (bits_of (length c.args.stage.now.items - (c.loop-i.i + 1)) (c.loop-i.rest / 2)) in
    sym (ap (λ b. b && rest) (differ _ _ c.if-get-rest.true))
    ∙ ap (λ b. same_bit b ((c.loop-i.rest % 2) == 1) && rest) c.get.ensures
    ∙ sym (eq_step c.args.stage.now.items c.loop-i.i c.loop-i.rest within)
    ∙ c.loop-i.invariant

pub loop-i-preserved : goal.loop-i-preserved
loop-i-preserved c =
    let within : c.loop-i.i < length c.args.stage.now.items = omega arith in
    let rest : Bool = bits_eq (drop (c.loop-i.i + 1) c.args.stage.now.items)
    (bits_of (length c.args.stage.now.items - (c.loop-i.i + 1)) (c.loop-i.rest / 2)) in
    sym (ap (λ b. b && rest) (agree _ _ c.if-get-rest.false))
    ∙ ap (λ b. same_bit b ((c.loop-i.rest % 2) == 1) && rest) c.get.ensures
    ∙ sym (eq_step c.args.stage.now.items c.loop-i.i c.loop-i.rest within)
    ∙ c.loop-i.invariant
