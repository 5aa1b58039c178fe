use Rattle.ij_io.proofs.Adding.{at_refusal, words_part}
use Rattle.instruments.specs.Seen.{seen_word}
use Rattle.bench_file.specs.Written.{word_text}
use Rattle.table_writer.proofs.definition.put_all_words.Goals as goal

pub returns-in_err-put_word-clause-part : goal.returns-in_err-put_word-clause-part
returns-in_err-put_word-clause-part g c =
    at_refusal c.from_residual.result
    (words_part (λ d. word_text (seen_word d)) c.args.words.now c.loop-d.d-index c.loop-d-test.true
    c.d-item.is c.loop-d.invariant.so_far c.in_err-put_word.ensures.part)
