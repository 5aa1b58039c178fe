use Rattle.ij_io.proofs.Adding.{adds_both, adds_front, adds_then_part, at_refusal, adds_part_as, adds_as}
use Rattle.instruments.specs.Seen.{seen_word}
use Rattle.table_writer.proofs.Pieced.{word_pieces}
use Rattle.table_writer.proofs.definition.put_word.Goals as goal

pub returns-in_err-put_word_front-clause-part : goal.returns-in_err-put_word_front-clause-part
returns-in_err-put_word_front-clause-part g c = at_refusal c.from_residual.result
    (adds_part_as (word_pieces (seen_word c.args.d.now)) (adds_front _ c.in_err-put_word_front.ensures.part))

pub returns-in_err-put_maybe_reset-clause-part : goal.returns-in_err-put_maybe_reset-clause-part
returns-in_err-put_maybe_reset-clause-part g c =
    at_refusal c.from_residual-in_err-put_maybe_reset.result (adds_part_as (word_pieces (seen_word
    c.args.d.now))
    (adds_then_part c.in_ok-put_word_front.ensures.whole (adds_front _
    c.in_err-put_maybe_reset.ensures.part)))

pub returns-in_err-write-clause-part : goal.returns-in_err-write-clause-part
returns-in_err-write-clause-part g c = at_refusal c.from_residual-in_err-write.result
    (adds_part_as (word_pieces (seen_word c.args.d.now)) (adds_then_part c.in_ok-put_word_front.ensures.whole
    (adds_then_part c.in_ok-put_maybe_reset.ensures.whole c.in_err-write.ensures.part)))

pub returns-clause-whole : goal.returns-clause-whole
returns-clause-whole g c =
    adds_as (word_pieces (seen_word c.args.d.now)) (adds_both c.in_ok-put_word_front.ensures.whole
    (adds_both c.in_ok-put_maybe_reset.ensures.whole c.in_ok-write.ensures.whole))
