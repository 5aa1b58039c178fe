use Rattle.std.proofs.Common.{◌≡◌, drop}
use Rattle.ij_text.specs.Numbers.{decimal_from}
use Rattle.ij_text.proofs.digits.decimal.Given as goal

abbrev pub invariant-loop-b : goal.invariant-loop-b
invariant-loop-b l = decimal_from l.n (drop l.b-index l.text) ≡ decimal_from 0 l.text
