use Rattle.std.proofs.Common.{◌≡◌, ◌<◌, ◌≤◌, ◌-◌, ◌+◌, ◌*◌, ℕ, get_or}
use Rattle.ij_bits.specs.Hex.{hex_digit}
use Rattle.ij_bits.proofs.bits.Bits.hex_digits.Given as goal

abbrev pub invariant-loop-i : goal.invariant-loop-i
invariant-loop-i l = (k : ℕ) → k < l.n → l.n ≤ k + 16 * l.i
    → get_or l.to k 0 ≡ hex_digit l.self.items (l.d + (l.n - 1 - k))
