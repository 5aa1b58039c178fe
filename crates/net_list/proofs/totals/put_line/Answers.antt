use Rattle.ij_io.proofs.Adding.{adds_both, adds_front, adds_then_part, at_refusal}
use Rattle.net_list.proofs.totals.put_line.Goals as goal

pub returns-in_err-put_count-clause-part : goal.returns-in_err-put_count-clause-part
returns-in_err-put_count-clause-part g c =
    at_refusal c.from_residual.result (adds_front _ c.in_err-put_count.ensures.part)

pub returns-in_err-put_count-2-clause-part : goal.returns-in_err-put_count-2-clause-part
returns-in_err-put_count-2-clause-part g c = at_refusal c.from_residual-in_err-put_count-2.result
    (adds_then_part c.in_ok-put_count.ensures.whole (adds_front _ c.in_err-put_count-2.ensures.part))

pub returns-in_err-put_count-3-clause-part : goal.returns-in_err-put_count-3-clause-part
returns-in_err-put_count-3-clause-part g c =
    at_refusal c.from_residual-in_err-put_count-3.result (adds_then_part c.in_ok-put_count.ensures.whole
    (adds_then_part c.in_ok-put_count-2.ensures.whole (adds_front _ c.in_err-put_count-3.ensures.part)))

pub returns-in_err-put_count-4-clause-part : goal.returns-in_err-put_count-4-clause-part
returns-in_err-put_count-4-clause-part g c = at_refusal c.from_residual-in_err-put_count-4.result
    (adds_then_part c.in_ok-put_count.ensures.whole (adds_then_part c.in_ok-put_count-2.ensures.whole
    (adds_then_part c.in_ok-put_count-3.ensures.whole (adds_front _ c.in_err-put_count-4.ensures.part))))

pub returns-in_err-put_count-5-clause-part : goal.returns-in_err-put_count-5-clause-part
returns-in_err-put_count-5-clause-part g c =
    at_refusal c.from_residual-in_err-put_count-5.result (adds_then_part c.in_ok-put_count.ensures.whole
    (adds_then_part c.in_ok-put_count-2.ensures.whole (adds_then_part c.in_ok-put_count-3.ensures.whole
    (adds_then_part c.in_ok-put_count-4.ensures.whole (adds_front _ c.in_err-put_count-5.ensures.part)))))

pub returns-in_err-put_text_or_json-clause-part : goal.returns-in_err-put_text_or_json-clause-part
returns-in_err-put_text_or_json-clause-part g c = at_refusal c.from_residual-in_err-put_text_or_json.result
    (adds_then_part c.in_ok-put_count.ensures.whole (adds_then_part c.in_ok-put_count-2.ensures.whole
    (adds_then_part c.in_ok-put_count-3.ensures.whole (adds_then_part c.in_ok-put_count-4.ensures.whole
    (adds_then_part c.in_ok-put_count-5.ensures.whole c.in_err-put_text_or_json.ensures.part)))))

pub returns-clause-whole : goal.returns-clause-whole
returns-clause-whole g c =
    adds_both c.in_ok-put_count.ensures.whole (adds_both c.in_ok-put_count-2.ensures.whole
    (adds_both c.in_ok-put_count-3.ensures.whole (adds_both c.in_ok-put_count-4.ensures.whole
    (adds_both c.in_ok-put_count-5.ensures.whole c.in_ok-put_text_or_json.ensures.whole))))
