use Rattle.ij_io.proofs.Adding.{adds_both, adds_front, adds_then_part, at_refusal}
use Rattle.net_list.proofs.register.put_register_line.Goals as goal

pub returns-in_err-put_text_or_json-clause-part : goal.returns-in_err-put_text_or_json-clause-part
returns-in_err-put_text_or_json-clause-part g c =
    at_refusal c.from_residual.result (adds_front _ c.in_err-put_text_or_json.ensures.part)

pub returns-in_err-put_register_path-clause-part : goal.returns-in_err-put_register_path-clause-part
returns-in_err-put_register_path-clause-part g c = at_refusal c.from_residual-in_err-put_register_path.result
    (adds_then_part c.in_ok-put_text_or_json.ensures.whole (adds_front _
    c.in_err-put_register_path.ensures.part))

pub returns-in_err-put_width-clause-part : goal.returns-in_err-put_width-clause-part
returns-in_err-put_width-clause-part g c =
    at_refusal c.from_residual-in_err-put_width.result (adds_then_part c.in_ok-put_text_or_json.ensures.whole
    (adds_then_part c.in_ok-put_register_path.ensures.whole (adds_front _ c.in_err-put_width.ensures.part)))

pub returns-in_err-put_text_or_json-2-clause-part : goal.returns-in_err-put_text_or_json-2-clause-part
returns-in_err-put_text_or_json-2-clause-part g c = at_refusal
    c.from_residual-in_err-put_text_or_json-2.result
    (adds_then_part c.in_ok-put_text_or_json.ensures.whole (adds_then_part
    c.in_ok-put_register_path.ensures.whole
    (adds_then_part c.in_ok-put_width.ensures.whole (adds_front _ c.in_err-put_text_or_json-2.ensures.part))))

pub returns-in_err-put_reset-clause-part : goal.returns-in_err-put_reset-clause-part
returns-in_err-put_reset-clause-part g c =
    at_refusal c.from_residual-in_err-put_reset.result (adds_then_part c.in_ok-put_text_or_json.ensures.whole
    (adds_then_part c.in_ok-put_register_path.ensures.whole (adds_then_part c.in_ok-put_width.ensures.whole
    (adds_then_part c.in_ok-put_text_or_json-2.ensures.whole (adds_front _
    c.in_err-put_reset.ensures.part)))))

pub returns-in_err-put_count-clause-part : goal.returns-in_err-put_count-clause-part
returns-in_err-put_count-clause-part g c = at_refusal c.from_residual-in_err-put_count.result
    (adds_then_part c.in_ok-put_text_or_json.ensures.whole (adds_then_part
    c.in_ok-put_register_path.ensures.whole
    (adds_then_part c.in_ok-put_width.ensures.whole (adds_then_part c.in_ok-put_text_or_json-2.ensures.whole
    (adds_then_part c.in_ok-put_reset.ensures.whole (adds_front _ c.in_err-put_count.ensures.part))))))

pub returns-in_err-put_count-2-clause-part : goal.returns-in_err-put_count-2-clause-part
returns-in_err-put_count-2-clause-part g c =
    at_refusal c.from_residual-in_err-put_count-2.result (adds_then_part
    c.in_ok-put_text_or_json.ensures.whole
    (adds_then_part c.in_ok-put_register_path.ensures.whole (adds_then_part c.in_ok-put_width.ensures.whole
    (adds_then_part c.in_ok-put_text_or_json-2.ensures.whole (adds_then_part c.in_ok-put_reset.ensures.whole
    (adds_then_part c.in_ok-put_count.ensures.whole (adds_front _ c.in_err-put_count-2.ensures.part)))))))

pub returns-in_err-put_place-clause-part : goal.returns-in_err-put_place-clause-part
returns-in_err-put_place-clause-part g c = at_refusal c.from_residual-in_err-put_place.result
    (adds_then_part c.in_ok-put_text_or_json.ensures.whole (adds_then_part
    c.in_ok-put_register_path.ensures.whole
    (adds_then_part c.in_ok-put_width.ensures.whole (adds_then_part c.in_ok-put_text_or_json-2.ensures.whole
    (adds_then_part c.in_ok-put_reset.ensures.whole (adds_then_part c.in_ok-put_count.ensures.whole
    (adds_then_part c.in_ok-put_count-2.ensures.whole (adds_front _ c.in_err-put_place.ensures.part))))))))

pub returns-in_err-put_selected-clause-part : goal.returns-in_err-put_selected-clause-part
returns-in_err-put_selected-clause-part g c =
    at_refusal c.from_residual-in_err-put_selected.result (adds_then_part
    c.in_ok-put_text_or_json.ensures.whole
    (adds_then_part c.in_ok-put_register_path.ensures.whole (adds_then_part c.in_ok-put_width.ensures.whole
    (adds_then_part c.in_ok-put_text_or_json-2.ensures.whole (adds_then_part c.in_ok-put_reset.ensures.whole
    (adds_then_part c.in_ok-put_count.ensures.whole (adds_then_part c.in_ok-put_count-2.ensures.whole
    (adds_then_part c.in_ok-put_place.ensures.whole (adds_front _ c.in_err-put_selected.ensures.part)))))))))

pub returns-in_err-put_text_or_json-3-clause-part : goal.returns-in_err-put_text_or_json-3-clause-part
returns-in_err-put_text_or_json-3-clause-part g c = at_refusal
    c.from_residual-in_err-put_text_or_json-3.result
    (adds_then_part c.in_ok-put_text_or_json.ensures.whole (adds_then_part
    c.in_ok-put_register_path.ensures.whole
    (adds_then_part c.in_ok-put_width.ensures.whole (adds_then_part c.in_ok-put_text_or_json-2.ensures.whole
    (adds_then_part c.in_ok-put_reset.ensures.whole (adds_then_part c.in_ok-put_count.ensures.whole
    (adds_then_part c.in_ok-put_count-2.ensures.whole (adds_then_part c.in_ok-put_place.ensures.whole
    (adds_then_part c.in_ok-put_selected.ensures.whole c.in_err-put_text_or_json-3.ensures.part)))))))))

pub returns-clause-whole : goal.returns-clause-whole
returns-clause-whole g c =
    adds_both c.in_ok-put_text_or_json.ensures.whole (adds_both c.in_ok-put_register_path.ensures.whole
    (adds_both c.in_ok-put_width.ensures.whole (adds_both c.in_ok-put_text_or_json-2.ensures.whole
    (adds_both c.in_ok-put_reset.ensures.whole (adds_both c.in_ok-put_count.ensures.whole
    (adds_both c.in_ok-put_count-2.ensures.whole (adds_both c.in_ok-put_place.ensures.whole
    (adds_both c.in_ok-put_selected.ensures.whole c.in_ok-put_text_or_json-3.ensures.whole))))))))
