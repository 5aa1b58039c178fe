use Rattle.std.proofs.Common.{sym, ap, ◌∙◌, arith}
use Rattle.ij_text.specs.Numbers.{tern_bits}
use Rattle.ij_text.proofs.Numbers.{open_length}
use Rattle.icl_declarations.proofs.ClosedNumbers.{total, are_closed, met_open, met_big, at_start, all_read}
use Rattle.icl_declarations.proofs.integers.closed_number.Goals as goal

pub loop-k-init : goal.loop-k-init
loop-k-init c =
    let t = c.args.t.now in
    let long = open_length t.value.items t.care.items t.same_length ∙ sym c.len-len.ensures.value in
    let start = at_start (tern_bits t) c.len-len.result long in
    record { long = long; small = omega arith; closed = ap are_closed start; value = sym (ap total start) }

pub returns-in-None : goal.returns-in-None
returns-in-None c = met_open c.args.at
    (tern_bits c.args.t.now) c.loop-k.k c.len-len.result c.bit_at.result c.bit_at.ensures c.in-None.is

pub returns-then-n-ge2147483648 : goal.returns-then-n-ge2147483648
returns-then-n-ge2147483648 c =
    met_big c.args.at (tern_bits c.args.t.now) c.loop-k.k c.len-len.result c.loop-k.n c.loop-k.invariant.long
    c.loop-k-test.true c.loop-k.invariant.value c.if-n-ge2147483648.true

pub returns : goal.returns
returns c = all_read c.args.at (tern_bits c.args.t.now) c.loop-k.k c.len-len.result c.loop-k.n
    c.loop-k-test.false c.loop-k.invariant.small c.loop-k.invariant.closed c.loop-k.invariant.value
