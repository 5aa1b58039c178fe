use Rattle.ij_io.proofs.Adding.{adds_both, adds_front, adds_then_part, at_refusal, adds_as, adds_part_as}
use Rattle.ij_io.specs.Words.{words_text}
use Rattle.svf_writer.proofs.Texts.{scan_is}
use Rattle.svf_writer.proofs.write.put_scan.Goals as goal

pub returns-in_err-put_words-clause-part : goal.returns-in_err-put_words-clause-part
unfolding words_text
returns-in_err-put_words-clause-part g c =
    at_refusal c.from_residual.result (adds_part_as (scan_is c.args.word.now c.args.scan.now)
    (adds_front _ c.in_err-put_words.ensures.part))

pub returns-in_err-put_part-clause-part : goal.returns-in_err-put_part-clause-part
unfolding words_text
returns-in_err-put_part-clause-part g c =
    at_refusal c.from_residual-in_err-put_part.result
    (adds_part_as (scan_is c.args.word.now c.args.scan.now)
    (adds_then_part c.in_ok-put_words.ensures.whole (adds_front _ c.in_err-put_part.ensures.part)))

pub returns-in_err-put_part-2-clause-part : goal.returns-in_err-put_part-2-clause-part
unfolding words_text
returns-in_err-put_part-2-clause-part g c =
    at_refusal c.from_residual-in_err-put_part-2.result
    (adds_part_as (scan_is c.args.word.now c.args.scan.now) (adds_then_part c.in_ok-put_words.ensures.whole
    (adds_then_part c.in_ok-put_part.ensures.whole (adds_front _ c.in_err-put_part-2.ensures.part))))

pub returns-in_err-put_part-3-clause-part : goal.returns-in_err-put_part-3-clause-part
unfolding words_text
returns-in_err-put_part-3-clause-part g c =
    at_refusal c.from_residual-in_err-put_part-3.result
    (adds_part_as (scan_is c.args.word.now c.args.scan.now) (adds_then_part c.in_ok-put_words.ensures.whole
    (adds_then_part c.in_ok-put_part.ensures.whole
    (adds_then_part c.in_ok-put_part-2.ensures.whole (adds_front _ c.in_err-put_part-3.ensures.part)))))

pub returns-in_err-write-clause-part : goal.returns-in_err-write-clause-part
unfolding words_text
returns-in_err-write-clause-part g c =
    at_refusal c.from_residual-in_err-write.result
    (adds_part_as (scan_is c.args.word.now c.args.scan.now) (adds_then_part c.in_ok-put_words.ensures.whole
    (adds_then_part c.in_ok-put_part.ensures.whole (adds_then_part c.in_ok-put_part-2.ensures.whole
    (adds_then_part c.in_ok-put_part-3.ensures.whole c.in_err-write.ensures.part)))))

pub returns-clause-whole : goal.returns-clause-whole
unfolding words_text
returns-clause-whole g c =
    adds_as (scan_is c.args.word.now c.args.scan.now) (adds_both c.in_ok-put_words.ensures.whole
    (adds_both c.in_ok-put_part.ensures.whole (adds_both c.in_ok-put_part-2.ensures.whole
    (adds_both c.in_ok-put_part-3.ensures.whole c.in_ok-write.ensures.whole))))
