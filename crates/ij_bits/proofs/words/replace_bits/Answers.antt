use Rattle.std.proofs.Common.{◌-◌, ◌∙◌, ap, arith}
use Rattle.std.specs.Prelude.{◌==◌}
use Rattle.std.specs.Int.{bit_at}
use Rattle.ij_bits.proofs.Joining.{covered_bit, put_kept}
use Rattle.ij_bits.proofs.words.replace_bits.Goals as goal
use Rattle.ij_bits.proofs.words.replace_bits.Goals.{then-n-lt64+then-end-words, else-n-lt64}
use Rattle.ij_bits.proofs.words.replace_bits.Goals.{else-n-lt64-via-then-n-lt64+else-end-words}
use Rattle.ij_bits.proofs.words.replace_bits.Goals.{else-n-lt64-via-else-n-lt64}

pub returns-clause-following : goal.returns-clause-following
returns-clause-following c k after within =
    put_kept c.args.words.now c.put_word.new.words c.args.at c.if-n-lt64.full k
    c.put_word.ensures.at c.put_word.ensures.following
    (λ near. elim c.if-n-lt64.branch [
      | then-n-lt64+then-end-words w ↦
          ap (λ x. bit_at x (k - c.args.at) == 1) w.full-is
          ∙ covered_bit c.args.words.now c.args.at c.args.n c.args.word w.word_at.result w.covered-full.result
          k w.covered-full.ensures.high w.word_at.ensures after near within
      | else-n-lt64 w ↦
          elim w.else-n-lt64.branch [
            | else-n-lt64-via-then-n-lt64+else-end-words v ↦ absurd (omega (arith, v.if-end-words.false))
            | else-n-lt64-via-else-n-lt64 v ↦ absurd (omega (arith, v.if-n-lt64.false))
          ]
    ]) (omega arith) within
