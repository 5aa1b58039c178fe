use Rattle.std.proofs.Common.{◌≡◌, ◌++◌, ◌-◌}
use Rattle.ij_bits.specs.BitLists.{bit}
use Rattle.net_wave.specs.Values.{bits_digits, digits}
use Rattle.net_wave.proofs.digits.add_bits.Given as goal

abbrev pub invariant-loop-j : goal.invariant-loop-j
invariant-loop-j l = l.into.items ++ digits (bit l.bits.items) (l.width - l.j)
    ≡ l.fn.into.items ++ bits_digits l.bits.items
