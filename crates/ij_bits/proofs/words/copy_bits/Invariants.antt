use Rattle.std.proofs.Common.{◌≡◌, ◌<◌, ◌+◌, ◌*◌, ℕ}
use Rattle.ij_bits.specs.Words.{word_bit}
use Rattle.ij_bits.proofs.words.copy_bits.Given as goal

abbrev pub invariant-loop-i : goal.invariant-loop-i
invariant-loop-i l = record {
  copied : (k : ℕ) → k < 64 * l.i → k < l.n → word_bit l.words (l.at + k) ≡ word_bit l.other (l.from + k);
  below : (k : ℕ) → k < l.at → word_bit l.words k ≡ word_bit l.fn.words k;
}
