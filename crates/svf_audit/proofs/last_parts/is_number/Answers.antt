use Rattle.std.proofs.Common.{ap, sym, ◌∙◌, arith, Bool, ◌-◌, ◌+◌, ◌<◌, ◌/◌, ◌%◌, ◌==◌, drop}
use Rattle.std.specs.Prelude.{◌&&◌}
use Rattle.ij_bits.specs.BitLists.{bits_of, bits_eq, same_bit}
use Rattle.ij_bits.proofs.SameBits.{differ, agree}
use Rattle.svf_audit.specs.LastParts.{seen_tdi}
use Rattle.svf_audit.proofs.Looking.{eq_at, eq_end}
use Rattle.svf_audit.proofs.last_parts.is_number.Goals as goal

pub returns-then-tdi_at-rest : goal.returns-then-tdi_at-rest
returns-then-tdi_at-rest c =
    let k = c.args.kept.now in
    let within : c.loop-k.k < k.len = omega arith in
    let rest : Bool = bits_eq (drop (c.loop-k.k + 1) (seen_tdi k))
    (bits_of (k.len - (c.loop-k.k + 1)) (c.loop-k.rest / 2)) in
    sym (ap (λ b. b && rest) (differ _ _ c.if-tdi_at-rest.true))
    ∙ ap (λ b. same_bit b ((c.loop-k.rest % 2) == 1) && rest) c.tdi_at.ensures
    ∙ sym (eq_at (seen_tdi k) k.len c.loop-k.k c.loop-k.rest c.requires.tdi within)
    ∙ c.loop-k.invariant

pub loop-k-preserved : goal.loop-k-preserved
loop-k-preserved c =
    let k = c.args.kept.now in
    let within : c.loop-k.k < k.len = omega arith in
    let rest : Bool = bits_eq (drop (c.loop-k.k + 1) (seen_tdi k))
    (bits_of (k.len - (c.loop-k.k + 1)) (c.loop-k.rest / 2)) in
    sym (ap (λ b. b && rest) (agree _ _ c.if-tdi_at-rest.false))
    ∙ ap (λ b. same_bit b ((c.loop-k.rest % 2) == 1) && rest) c.tdi_at.ensures
    ∙ sym (eq_at (seen_tdi k) k.len c.loop-k.k c.loop-k.rest c.requires.tdi within)
    ∙ c.loop-k.invariant

pub returns : goal.returns
returns c =
    let k = c.args.kept.now in
    sym (eq_end (seen_tdi k) k.len c.loop-k.k c.loop-k.rest c.requires.tdi (omega arith)) ∙ c.loop-k.invariant
