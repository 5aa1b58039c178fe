use Rattle.ij_io.proofs.Adding.{adds_both, adds_front, adds_then_part, at_refusal}
use Rattle.net_list.proofs.format.put_count.Goals as goal

pub returns-in_err-put_text_or_json-clause-part : goal.returns-in_err-put_text_or_json-clause-part
returns-in_err-put_text_or_json-clause-part g c =
    at_refusal c.from_residual.result (adds_front _ c.in_err-put_text_or_json.ensures.part)

pub returns-in_err-put_decimal-clause-part : goal.returns-in_err-put_decimal-clause-part
returns-in_err-put_decimal-clause-part g c = at_refusal c.from_residual-in_err-put_decimal.result
    (adds_then_part c.in_ok-put_text_or_json.ensures.whole c.in_err-put_decimal.ensures.part)

pub returns-clause-whole : goal.returns-clause-whole
returns-clause-whole g c = adds_both c.in_ok-put_text_or_json.ensures.whole c.in_ok-put_decimal.ensures.whole
