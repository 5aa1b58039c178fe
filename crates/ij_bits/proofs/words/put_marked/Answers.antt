use Rattle.std.proofs.Common.{◌≢◌, ◌<◌, ◌/◌, ◌∙◌, length, arith}
use Rattle.ij_bits.proofs.Marking.{put_front, put_after, word_bit-away}
use Rattle.ij_bits.proofs.words.put_marked.Goals as goal

pub loop-i-preserved : goal.loop-i-preserved
loop-i-preserved c =
    let words = c.loop-i.words in
    let i = c.loop-i.i in
    let mask = c.number_at-mask.result in
    let word = c.merged.result in
    let there : i < length words = omega arith in
    record {
      front = λ k below within. put_front words c.args.words.now c.args.other.now c.args.marks.now i c.args.n
          c.min.result mask word k there (omega arith)
          c.number_at-mask.ensures.bits c.merged.ensures
          c.loop-i.invariant.front c.loop-i.invariant.above below within;
      above = λ k past. let away : k / 64 ≢ i = omega arith in
          word_bit-away words i word k away ∙ c.loop-i.invariant.above k (omega arith);
      following = λ k past. put_after words c.args.words.now c.args.other.now i c.args.n c.min.result mask
          word k there (omega arith) c.number_at-mask.ensures.small
          c.merged.ensures c.loop-i.invariant.following past;
    }
