use Rattle.std.proofs.Common.{◌≡◌, ◌<◌, ◌≤◌, ◌-◌, ◌*◌, ◌/◌, ◌%◌, ◌^◌, ℕ, get_or}
use Rattle.ij_bits.specs.Hex.{hex_code}
use Rattle.ij_bits.proofs.digits.put_digits.Given as goal

abbrev pub invariant-loop-i : goal.invariant-loop-i
invariant-loop-i l = record {
  at : (j : ℕ) → j < l.i → get_or l.to (l.end - 1 - j) 0 ≡ hex_code (l.value / 2 ^ (4 * j) % 16);
  following : (k : ℕ) → l.end ≤ k → get_or l.to k 0 ≡ get_or l.fn.to k 0;
}
