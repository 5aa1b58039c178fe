use Rattle.std.proofs.Common.{◌≡◌, ◌-◌, drop, length}
use Rattle.icl_declarations.specs.Sized.{digits_bits, hex_digit}
use Rattle.icl_declarations.proofs.digits.hex_bits.Given as goal

abbrev pub invariant-loop-i : goal.invariant-loop-i
invariant-loop-i l = l.bits ≡ digits_bits hex_digit (drop (length l.digits - l.i) l.digits)
