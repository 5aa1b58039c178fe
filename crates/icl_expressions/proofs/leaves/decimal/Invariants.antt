use Rattle.std.proofs.Common.{◌≡◌, ◌≤◌, drop}
use Rattle.ij_text.specs.Numbers.{decimal_from}
use Rattle.icl_expressions.proofs.leaves.decimal.Given as goal

abbrev pub invariant-loop-b : goal.invariant-loop-b
invariant-loop-b l = record {
  small : l.n ≤ 4294967295;
  goes_on : decimal_from l.n (drop l.b-index l.text) ≡ decimal_from 0 l.text;
}
