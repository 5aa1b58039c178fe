use Rattle.std.proofs.Common.{◌≡◌, ◌<◌, ◌*◌, ℕ, vec_len, vec_capacity}
use Rattle.ij_bits.specs.Words.{word_bit}
use Rattle.ij_bits.proofs.words.grow.Given as goal

abbrev pub invariant-loop-word : goal.invariant-loop-word
invariant-loop-word l = record {
  len : vec_len l.words ≡ l._word;
  room : vec_capacity l.words ≡ vec_capacity l.fn.words;
  kept : (k : ℕ) → k < 64 * vec_len l.fn.words → word_bit l.words.items k ≡ word_bit l.fn.words.items k;
}
