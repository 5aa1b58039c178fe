use Rattle.std.proofs.Common.{Some, false, arith}
use Rattle.ij_text.specs.Numbers.{tern_bits}
use Rattle.ij_text.proofs.Numbers.{open_length}
use Rattle.icl_declarations.proofs.Joins.{bit_more, all_bits, room}
use Rattle.icl_declarations.proofs.widths.append.Goals as goal

pub push-requires : goal.push-requires
push-requires c =
    let t = c.args.t.now in
    let long = open_length t.value.items t.care.items t.same_length in
    let few = room c.args.bits.now (tern_bits t) c.loop-k.bits c.loop-k.k c.loop-k.invariant
    (omega (arith, long, c.len-k-end.ensures.value, c.loop-k-test.true)) in
    omega (arith, few, long, c.len-k-end.ensures.value, c.loop-k-test.true, c.requires)

pub loop-k-preserved : goal.loop-k-preserved
loop-k-preserved c =
    let t = c.args.t.now in
    let long = open_length t.value.items t.care.items t.same_length in
    bit_more c.args.bits.now (tern_bits t) c.loop-k.bits c.loop-k.k c.loop-k.invariant c.bit_at.result
    (Some false) c.push.new.self (omega (arith, long, c.len-k-end.ensures.value, c.loop-k-test.true))
    c.bit_at.ensures c.in_ok-push.ensures.ok

pub returns : goal.returns
returns c =
    let t = c.args.t.now in
    let long = open_length t.value.items t.care.items t.same_length in
    all_bits c.args.bits.now (tern_bits t) c.loop-k.bits c.loop-k.k c.loop-k.invariant
    (omega (arith, long, c.len-k-end.ensures.value, c.loop-k-test.false))
