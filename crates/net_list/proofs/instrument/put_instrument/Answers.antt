use Rattle.ij_io.proofs.Adding.{adds_both, adds_front, adds_then_part, at_refusal}
use Rattle.net_list.proofs.instrument.put_instrument.Goals as goal

pub returns-in_err-put_text_or_json-clause-part : goal.returns-in_err-put_text_or_json-clause-part
returns-in_err-put_text_or_json-clause-part g c =
    at_refusal c.from_residual.result (adds_front _ c.in_err-put_text_or_json.ensures.part)

pub returns-in_err-put_path-clause-part : goal.returns-in_err-put_path-clause-part
returns-in_err-put_path-clause-part g c = at_refusal c.from_residual-in_err-put_path.result
    (adds_then_part c.in_ok-put_text_or_json.ensures.whole (adds_front _ c.in_err-put_path.ensures.part))

pub returns-in_err-put_text_or_json-2-clause-part : goal.returns-in_err-put_text_or_json-2-clause-part
returns-in_err-put_text_or_json-2-clause-part g c =
    at_refusal c.from_residual-in_err-put_text_or_json-2.result (adds_then_part
    c.in_ok-put_text_or_json.ensures.whole
    (adds_then_part c.in_ok-put_path.ensures.whole (adds_front _ c.in_err-put_text_or_json-2.ensures.part)))

pub returns-in_err-put_ports-clause-part : goal.returns-in_err-put_ports-clause-part
returns-in_err-put_ports-clause-part g c = at_refusal c.from_residual-in_err-put_ports.result
    (adds_then_part c.in_ok-put_text_or_json.ensures.whole (adds_then_part c.in_ok-put_path.ensures.whole
    (adds_then_part c.in_ok-put_text_or_json-2.ensures.whole (adds_front _ c.in_err-put_ports.ensures.part))))

pub returns-in_err-put_text_or_json-3-clause-part : goal.returns-in_err-put_text_or_json-3-clause-part
returns-in_err-put_text_or_json-3-clause-part g c =
    at_refusal c.from_residual-in_err-put_text_or_json-3.result (adds_then_part
    c.in_ok-put_text_or_json.ensures.whole
    (adds_then_part c.in_ok-put_path.ensures.whole (adds_then_part c.in_ok-put_text_or_json-2.ensures.whole
    (adds_then_part c.in_ok-put_ports.ensures.whole c.in_err-put_text_or_json-3.ensures.part))))

pub returns-clause-whole : goal.returns-clause-whole
returns-clause-whole g c = adds_both c.in_ok-put_text_or_json.ensures.whole
    (adds_both c.in_ok-put_path.ensures.whole (adds_both c.in_ok-put_text_or_json-2.ensures.whole
    (adds_both c.in_ok-put_ports.ensures.whole c.in_ok-put_text_or_json-3.ensures.whole)))
