use Rattle.std.proofs.Common.{arith}
use Rattle.ij_text.specs.Numbers.{tern_bits}
use Rattle.ij_text.proofs.Numbers.{open_length}
use Rattle.icl_declarations.proofs.Joins.{one_longer, too_long, long_enough}
use Rattle.icl_declarations.proofs.widths.is_longer.Goals as goal

pub returns-then-len-left : goal.returns-then-len-left
returns-then-len-left c =
    let t = c.part-item.result in
    let long = open_length t.value.items t.care.items t.same_length in
    too_long tern_bits c.args.parts.now c.loop-part.part-index c.args.width c.loop-part.left t
    c.loop-part-test.true c.part-item.is c.loop-part.invariant
    (omega (arith, long, c.len-len.ensures.value, c.if-len-left.true))

pub loop-part-preserved : goal.loop-part-preserved
loop-part-preserved c =
    let t = c.part-item.result in
    let long = open_length t.value.items t.care.items t.same_length in
    let one =
    one_longer tern_bits c.args.parts.now c.loop-part.part-index t c.loop-part-test.true c.part-item.is in
    omega (arith, long, one, c.len-len.ensures.value, c.if-len-left.false, c.loop-part.invariant)

pub returns : goal.returns
returns c = long_enough tern_bits c.args.parts.now c.loop-part.part-index c.args.width c.loop-part.left
    c.loop-part-test.false c.loop-part.invariant
