use Rattle.std.proofs.Common.{◌≡◌, ◌++◌, ◌-◌}
use Rattle.net_wave.specs.Values.{digits, is_odd_at, number_digits}
use Rattle.net_wave.proofs.digits.add_number.Given as goal

abbrev pub invariant-loop-j : goal.invariant-loop-j
invariant-loop-j l = l.into.items ++ digits (is_odd_at l.number) (l.width - l.j)
    ≡ l.fn.into.items ++ number_digits l.width l.number
