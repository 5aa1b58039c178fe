use Rattle.ij_io.proofs.Adding.{adds_front, adds_then_part, at_refusal, adds_part_as}
use Rattle.ij_io.specs.Words.{words_text}
use Rattle.retargeter.proofs.Texts.{quiet_is}
use Rattle.retargeter.proofs.scan.put_scan.Goals as goal

pub returns-in_err-put_words-clause-part : goal.returns-in_err-put_words-clause-part
unfolding words_text
returns-in_err-put_words-clause-part g c =
    at_refusal _ (adds_part_as (quiet_is c.len.result c.args.tdi.now.items c.len.ensures)
    (adds_front _ c.in_err-put_words.ensures.part))

pub returns-in_err-put_bits_part-clause-part : goal.returns-in_err-put_bits_part-clause-part
unfolding words_text
returns-in_err-put_bits_part-clause-part g c =
    at_refusal _ (adds_part_as (quiet_is c.len.result c.args.tdi.now.items c.len.ensures)
    (adds_then_part c.in_ok-put_words.ensures.whole (adds_front _ c.in_err-put_bits_part.ensures.part)))

pub returns-in_err-write-clause-part : goal.returns-in_err-write-clause-part
unfolding words_text
returns-in_err-write-clause-part g c =
    at_refusal _ (adds_part_as (quiet_is c.len.result c.args.tdi.now.items c.len.ensures)
    (adds_then_part c.in_ok-put_words.ensures.whole
    (adds_then_part c.in_ok-put_bits_part.ensures.whole c.in_err-write.ensures.part)))
