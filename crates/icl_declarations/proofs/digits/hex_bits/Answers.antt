use Rattle.std.proofs.Common.{◌-◌, length, arith, ap}
use Rattle.icl_declarations.proofs.DigitLists.{hex_part}
use Rattle.icl_declarations.proofs.digits.hex_bits.Goals as goal

pub put_hex-requires : goal.put_hex-requires
put_hex-requires c =
    let part = hex_part c.args.digits.now (length c.args.digits.now - c.loop-i.i) in
    let is = ap length c.loop-i.invariant in
    omega (arith, part, is, c.requires)
