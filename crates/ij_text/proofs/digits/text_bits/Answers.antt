use Rattle.std.proofs.Common.{◌-◌, length, arith, ap}
use Rattle.ij_text.proofs.Numbers.{fewer}
use Rattle.ij_text.proofs.digits.text_bits.Goals as goal

pub push_digit_bits-requires : goal.push_digit_bits-requires
push_digit_bits-requires c =
    let few = fewer c.args.radix c.args.text.now (length c.args.text.now - c.loop-i.i) in
    let is = ap length c.loop-i.invariant in
    omega (arith, few, is, c.requires)
