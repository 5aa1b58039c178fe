use Rattle.std.proofs.Common.{◌++◌, ◌-◌, refl}
use Rattle.net_wave.specs.Values.{is_odd_at, number_digits}
use Rattle.net_wave.proofs.DigitSteps.{digits_next}
use Rattle.net_wave.proofs.digits.add_number.Goals as goal

pub loop-j-preserved : goal.loop-j-preserved
loop-j-preserved c =
    digits_next (is_odd_at c.args.number) (c.args.into.now.items ++ number_digits c.args.width c.args.number)
    c.loop-j.into.items c.add_digit.new.into.items c.args.width c.loop-j.j
    (c.args.width - 1 - c.loop-j.j) c.is_odd_at.result c.loop-j-test.true refl c.is_odd_at.ensures
    c.in_ok-add_digit.ensures c.loop-j.invariant
