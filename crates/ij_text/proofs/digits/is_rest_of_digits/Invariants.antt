use Rattle.std.proofs.Common.{◌≡◌, drop, true}
use Rattle.ij_text.specs.Numbers.{is_rest_of_digits}
use Rattle.ij_text.proofs.digits.is_rest_of_digits.Given as goal

abbrev pub invariant-loop-b : goal.invariant-loop-b
invariant-loop-b l = is_rest_of_digits l.radix l.after_digit (drop l.b-index l.bytes) ≡ is_rest_of_digits
    l.radix true l.bytes
