use Rattle.std.proofs.Common.{◌∙◌, arith}
use Rattle.ij_bits.proofs.Joining.{copied_step}
use Rattle.ij_bits.proofs.words.copy_bits.Goals as goal

pub loop-i-preserved : goal.loop-i-preserved
loop-i-preserved c = record {
  copied = λ k inner whole. copied_step c.put_word.new.words c.loop-i.words c.args.other.now c.args.at
      c.args.from c.loop-i.i c.args.n c.word_at.result k
      c.put_word.ensures.at c.put_word.ensures.below c.word_at.ensures c.loop-i.invariant.copied
      (omega arith) c.requires.there inner whole;
  below = λ k front. c.put_word.ensures.below k (omega arith) ∙ c.loop-i.invariant.below k front;
}
