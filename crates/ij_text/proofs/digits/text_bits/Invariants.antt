use Rattle.std.proofs.Common.{◌≡◌, ◌-◌, drop, length}
use Rattle.ij_text.specs.Numbers.{text_bits}
use Rattle.ij_text.proofs.digits.text_bits.Given as goal

abbrev pub invariant-loop-i : goal.invariant-loop-i
invariant-loop-i l = l.bits ≡ text_bits l.radix (drop (length l.text - l.i) l.text)
