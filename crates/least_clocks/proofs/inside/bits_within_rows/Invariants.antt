use Rattle.std.proofs.Common.{◌≡◌, ◌≤◌, ◌*◌, ◌^◌}
use Rattle.least_clocks.specs.Inside.{is_one_of, bits_inside}
use Rattle.least_clocks.proofs.inside.bits_within_rows.Given as goal

abbrev pub invariant-loop-reg : goal.invariant-loop-reg
invariant-loop-reg l = record {
  bits : l.bits ≡ bits_inside l.net l.tree (is_one_of l.rows) l.reg;
  few : l.bits ≤ l.reg * 2 ^ 32;
}
