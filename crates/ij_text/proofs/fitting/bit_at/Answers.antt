use Rattle.std.proofs.Common.{get_or, false, sym, ◌∙◌, arith}
use Rattle.ij_text.proofs.Widths.{open_get, open_past, read_bit}
use Rattle.ij_text.proofs.fitting.bit_at.Goals as goal

pub returns-then-i-len : goal.returns-then-i-len
returns-then-i-len c =
    let t = c.args.t.now in
    read_bit c.get.result (get_or t.value.items c.args.i false)
    (get_or t.care.items c.args.i false) c.get.ensures.counts c.get.ensures.free
    ∙ sym (open_get t.value.items t.care.items c.args.i t.same_length
    (omega (arith, c.if-i-len.true, c.len.ensures.value)))

pub returns-else-i-len : goal.returns-else-i-len
returns-else-i-len c =
    let t = c.args.t.now in
    open_past t.value.items t.care.items c.args.i t.same_length
    (omega (arith, c.if-i-len.false, c.len.ensures.value))
