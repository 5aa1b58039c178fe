use Rattle.std.proofs.Common.{◌≡◌, take}
use Rattle.icl_declarations.specs.Sized.{normalized_digits}
use Rattle.icl_declarations.proofs.digits.normalized_digits.Given as goal

abbrev pub invariant-loop-b : goal.invariant-loop-b
invariant-loop-b l = l.digits.items ≡ normalized_digits (take l.b-index l.text)
