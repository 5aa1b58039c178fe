use Rattle.std.proofs.Common.{◌-◌, length, arith, ap}
use Rattle.icl_declarations.proofs.DigitLists.{binary_part}
use Rattle.icl_declarations.proofs.digits.binary_bits.Goals as goal

pub put_binary-requires : goal.put_binary-requires
put_binary-requires c =
    let part = binary_part c.args.digits.now (length c.args.digits.now - c.loop-i.i) in
    let is = ap length c.loop-i.invariant in
    omega (arith, part, is, c.requires)
