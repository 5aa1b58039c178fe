use Rattle.std.proofs.Common.{◌+◌, ◌<◌, Bool, length, drop, sym, ap, ◌∙◌, arith}
use Rattle.std.specs.Prelude.{◌&&◌}
use Rattle.ij_text.specs.Numbers.{tern_bits}
use Rattle.icl_references.specs.Muxes.{meet}
use Rattle.icl_references.proofs.Digits.{last_digits, next_digits}
use Rattle.ij_text.proofs.Numbers.{tern_length}
use Rattle.icl_references.proofs.overlaps.meet.Goals as goal

pub returns-then-not-meet_at : goal.returns-then-not-meet_at
returns-then-not-meet_at c =
    let k = c.loop-k.k in
    let as' = tern_bits c.args.a.now in
    let bs = tern_bits c.args.b.now in
    let m = tern_length c.args.a.now in
    let n = tern_length c.args.b.now in
    let in_a : k < length as' =
    omega (arith, m, c.len.ensures.value, c.min-k-end.ensures, c.loop-k-test.true) in
    let in_b : k < length bs =
    omega (arith, n, c.len-2.ensures.value, c.min-k-end.ensures, c.loop-k-test.true) in
    ap (λ (b : Bool). b && meet (drop (k + 1) as') (drop (k + 1) bs)) c.if-not-meet_at.ensures
    ∙ sym (next_digits as' bs k c.bit_at.result c.bit_at-in-loop-k.result in_a in_b c.bit_at.ensures
    c.bit_at-in-loop-k.ensures) ∙ c.loop-k.invariant

pub loop-k-preserved : goal.loop-k-preserved
loop-k-preserved c =
    let k = c.loop-k.k in
    let as' = tern_bits c.args.a.now in
    let bs = tern_bits c.args.b.now in
    let m = tern_length c.args.a.now in
    let n = tern_length c.args.b.now in
    let in_a : k < length as' =
    omega (arith, m, c.len.ensures.value, c.min-k-end.ensures, c.loop-k-test.true) in
    let in_b : k < length bs =
    omega (arith, n, c.len-2.ensures.value, c.min-k-end.ensures, c.loop-k-test.true) in
    ap (λ (b : Bool). b && meet (drop (k + 1) as') (drop (k + 1) bs)) c.if-not-meet_at.ensures
    ∙ sym (next_digits as' bs k c.bit_at.result c.bit_at-in-loop-k.result in_a in_b c.bit_at.ensures
    c.bit_at-in-loop-k.ensures) ∙ c.loop-k.invariant

pub returns : goal.returns
returns c =
    let m = tern_length c.args.a.now in
    let n = tern_length c.args.b.now in
    sym (last_digits (tern_bits c.args.a.now) (tern_bits c.args.b.now) c.loop-k.k (omega
    (arith, m, n, c.len.ensures.value, c.len-2.ensures.value, c.min-k-end.ensures, c.loop-k-test.false)))
    ∙ c.loop-k.invariant
