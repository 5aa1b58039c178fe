use Rattle.ij_io.proofs.Adding.{at_refusal, words_part}
use Rattle.ij_io.specs.Words.{word_text, words_text}
use Rattle.ij_io.proofs.words.put_words.Goals as goal

pub returns-in_err-put_word-clause-part : goal.returns-in_err-put_word-clause-part
unfolding words_text
returns-in_err-put_word-clause-part g c =
    at_refusal c.from_residual.result (words_part word_text c.args.words.now c.loop-word.word-index
    c.loop-word-test.true c.word-item.is c.loop-word.invariant.so_far c.in_err-put_word.ensures.part)
