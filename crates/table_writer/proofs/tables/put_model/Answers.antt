use Rattle.ij_io.proofs.Adding.{adds_both, adds_front, adds_then_part, at_refusal}
use Rattle.bench_file.specs.Written.{model_text}
use Rattle.table_writer.proofs.tables.put_model.Goals as goal

pub returns-in_err-put_ins-clause-part : goal.returns-in_err-put_ins-clause-part
unfolding model_text
returns-in_err-put_ins-clause-part g c =
    at_refusal c.from_residual.result (adds_front _ c.in_err-put_ins.ensures.part)

pub returns-in_err-put_words_of-clause-part : goal.returns-in_err-put_words_of-clause-part
unfolding model_text
returns-in_err-put_words_of-clause-part g c = at_refusal c.from_residual-in_err-put_words_of.result
    (adds_then_part c.in_ok-put_ins.ensures.whole (adds_front _ c.in_err-put_words_of.ensures.part))

pub returns-in_err-put_memory-clause-part : goal.returns-in_err-put_memory-clause-part
unfolding model_text
returns-in_err-put_memory-clause-part g c =
    at_refusal c.from_residual-in_err-put_memory.result (adds_then_part c.in_ok-put_ins.ensures.whole
    (adds_then_part c.in_ok-put_words_of.ensures.whole (adds_front _ c.in_err-put_memory.ensures.part)))

pub returns-in_err-put_outs_of-clause-part : goal.returns-in_err-put_outs_of-clause-part
unfolding model_text
returns-in_err-put_outs_of-clause-part g c = at_refusal c.from_residual-in_err-put_outs_of.result
    (adds_then_part c.in_ok-put_ins.ensures.whole (adds_then_part c.in_ok-put_words_of.ensures.whole
    (adds_then_part c.in_ok-put_memory.ensures.whole (adds_front _ c.in_err-put_outs_of.ensures.part))))

pub returns-in_err-put_change-clause-part : goal.returns-in_err-put_change-clause-part
unfolding model_text
returns-in_err-put_change-clause-part g c =
    at_refusal c.from_residual-in_err-put_change.result (adds_then_part c.in_ok-put_ins.ensures.whole
    (adds_then_part c.in_ok-put_words_of.ensures.whole (adds_then_part c.in_ok-put_memory.ensures.whole
    (adds_then_part c.in_ok-put_outs_of.ensures.whole (adds_front _ c.in_err-put_change.ensures.part)))))

pub returns-in_err-put_run-clause-part : goal.returns-in_err-put_run-clause-part
unfolding model_text
returns-in_err-put_run-clause-part g c = at_refusal c.from_residual-in_err-put_run.result
    (adds_then_part c.in_ok-put_ins.ensures.whole (adds_then_part c.in_ok-put_words_of.ensures.whole
    (adds_then_part c.in_ok-put_memory.ensures.whole (adds_then_part c.in_ok-put_outs_of.ensures.whole
    (adds_then_part c.in_ok-put_change.ensures.whole c.in_err-put_run.ensures.part)))))

pub returns-clause-whole : goal.returns-clause-whole
unfolding model_text
returns-clause-whole g c =
    adds_both c.in_ok-put_ins.ensures.whole (adds_both c.in_ok-put_words_of.ensures.whole
    (adds_both c.in_ok-put_memory.ensures.whole (adds_both c.in_ok-put_outs_of.ensures.whole
    (adds_both c.in_ok-put_change.ensures.whole c.in_ok-put_run.ensures.whole))))
