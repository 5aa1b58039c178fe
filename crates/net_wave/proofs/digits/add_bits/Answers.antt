use Rattle.std.proofs.Common.{◌++◌, ◌-◌, refl}
use Rattle.ij_bits.specs.BitLists.{bit}
use Rattle.net_wave.specs.Values.{bits_digits}
use Rattle.net_wave.proofs.DigitSteps.{digits_next}
use Rattle.net_wave.proofs.digits.add_bits.Goals as goal

pub loop-j-preserved : goal.loop-j-preserved
loop-j-preserved c =
    digits_next (bit c.args.bits.now.items) (c.args.into.now.items ++ bits_digits c.args.bits.now.items)
    c.loop-j.into.items c.add_digit.new.into.items c.len-width.result c.loop-j.j
    (c.len-width.result - 1 - c.loop-j.j) c.get.result c.loop-j-test.true refl c.get.ensures
    c.in_ok-add_digit.ensures c.loop-j.invariant
