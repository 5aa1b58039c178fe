use Rattle.std.proofs.Common.{◌≡◌, ◌<◌, ◌-◌, length, drop, true}
use Rattle.ij_text.specs.Numbers.{tern_bits}
use Rattle.icl_declarations.proofs.ClosedNumbers.{total, are_closed}
use Rattle.icl_declarations.proofs.integers.closed_number.Given as goal

abbrev pub invariant-loop-k : goal.invariant-loop-k
invariant-loop-k l = record {
  long : length (tern_bits l.t) ≡ l.len;
  small : l.n < 4294967296;
  closed : are_closed (drop (l.len - l.k) (tern_bits l.t)) ≡ true;
  value : l.n ≡ total (drop (l.len - l.k) (tern_bits l.t));
}
