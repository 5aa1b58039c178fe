use Rattle.std.proofs.Common.{◌≡◌, ◌<◌, ◌≤◌, ◌*◌, ℕ, cond}
use Rattle.ij_bits.specs.Words.{word_bit}
use Rattle.ij_bits.proofs.words.put_marked.Given as goal

abbrev pub invariant-loop-i : goal.invariant-loop-i
invariant-loop-i l = record {
  front : (k : ℕ) → k < 64 * l.i → k < l.n
      → word_bit l.words k ≡ cond (word_bit l.marks k) (word_bit l.other k) (word_bit l.fn.words k);
  above : (k : ℕ) → 64 * l.i ≤ k → word_bit l.words k ≡ word_bit l.fn.words k;
  following : (k : ℕ) → l.n ≤ k → word_bit l.words k ≡ word_bit l.fn.words k;
}
