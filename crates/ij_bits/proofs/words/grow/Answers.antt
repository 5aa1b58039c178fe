use Rattle.std.proofs.Common.{◌∙◌, ap, arith, List, ℕ}
use Rattle.ij_bits.specs.Words.{word_bit}
use Rattle.ij_bits.proofs.WordBits.{word_bit-append}
use Rattle.ij_bits.proofs.words.grow.Goals as goal

pub loop-word-preserved : goal.loop-word-preserved
loop-word-preserved c = record {
  len = omega (arith, c.push_reserved.ensures.len);
  room = c.push_reserved.ensures.capacity ∙ c.loop-word.invariant.room;
  kept = λ k inner. ap (λ (ws : List ℕ). word_bit ws k) c.push_reserved.ensures.items
      ∙ word_bit-append c.loop-word.words.items 0 k (omega (arith, c.loop-word.words.ok.0))
      ∙ c.loop-word.invariant.kept k inner;
}
