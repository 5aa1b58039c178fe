use Rattle.ij_io.proofs.Adding.{adds_both, adds_front, adds_then_part, at_refusal}
use Rattle.net_list.proofs.mux.put_mux_line.Goals as goal

pub returns-in_err-put_text_or_json-clause-part : goal.returns-in_err-put_text_or_json-clause-part
returns-in_err-put_text_or_json-clause-part g c =
    at_refusal c.from_residual.result (adds_front _ c.in_err-put_text_or_json.ensures.part)

pub returns-in_err-put_mux_path-clause-part : goal.returns-in_err-put_mux_path-clause-part
returns-in_err-put_mux_path-clause-part g c = at_refusal c.from_residual-in_err-put_mux_path.result
    (adds_then_part c.in_ok-put_text_or_json.ensures.whole (adds_front _ c.in_err-put_mux_path.ensures.part))

pub returns-in_err-put_row_count-clause-part : goal.returns-in_err-put_row_count-clause-part
returns-in_err-put_row_count-clause-part g c =
    at_refusal c.from_residual-in_err-put_row_count.result (adds_then_part
    c.in_ok-put_text_or_json.ensures.whole
    (adds_then_part c.in_ok-put_mux_path.ensures.whole (adds_front _ c.in_err-put_row_count.ensures.part)))

pub returns-in_err-put_text_or_json-2-clause-part : goal.returns-in_err-put_text_or_json-2-clause-part
returns-in_err-put_text_or_json-2-clause-part g c = at_refusal
    c.from_residual-in_err-put_text_or_json-2.result
    (adds_then_part c.in_ok-put_text_or_json.ensures.whole (adds_then_part c.in_ok-put_mux_path.ensures.whole
    (adds_then_part c.in_ok-put_row_count.ensures.whole (adds_front _
    c.in_err-put_text_or_json-2.ensures.part))))

pub returns-in_err-put_selects-clause-part : goal.returns-in_err-put_selects-clause-part
returns-in_err-put_selects-clause-part g c =
    at_refusal c.from_residual-in_err-put_selects.result (adds_then_part
    c.in_ok-put_text_or_json.ensures.whole
    (adds_then_part c.in_ok-put_mux_path.ensures.whole (adds_then_part c.in_ok-put_row_count.ensures.whole
    (adds_then_part c.in_ok-put_text_or_json-2.ensures.whole (adds_front _
    c.in_err-put_selects.ensures.part)))))

pub returns-in_err-put_count-clause-part : goal.returns-in_err-put_count-clause-part
returns-in_err-put_count-clause-part g c = at_refusal c.from_residual-in_err-put_count.result
    (adds_then_part c.in_ok-put_text_or_json.ensures.whole (adds_then_part c.in_ok-put_mux_path.ensures.whole
    (adds_then_part c.in_ok-put_row_count.ensures.whole (adds_then_part
    c.in_ok-put_text_or_json-2.ensures.whole
    (adds_then_part c.in_ok-put_selects.ensures.whole (adds_front _ c.in_err-put_count.ensures.part))))))

pub returns-in_err-put_text_or_json-3-clause-part : goal.returns-in_err-put_text_or_json-3-clause-part
returns-in_err-put_text_or_json-3-clause-part g c =
    at_refusal c.from_residual-in_err-put_text_or_json-3.result (adds_then_part
    c.in_ok-put_text_or_json.ensures.whole
    (adds_then_part c.in_ok-put_mux_path.ensures.whole (adds_then_part c.in_ok-put_row_count.ensures.whole
    (adds_then_part c.in_ok-put_text_or_json-2.ensures.whole (adds_then_part c.in_ok-put_selects.ensures.whole
    (adds_then_part c.in_ok-put_count.ensures.whole (adds_front _
    c.in_err-put_text_or_json-3.ensures.part)))))))

pub returns-in_err-put_rows-clause-part : goal.returns-in_err-put_rows-clause-part
returns-in_err-put_rows-clause-part g c = at_refusal c.from_residual-in_err-put_rows.result
    (adds_then_part c.in_ok-put_text_or_json.ensures.whole (adds_then_part c.in_ok-put_mux_path.ensures.whole
    (adds_then_part c.in_ok-put_row_count.ensures.whole (adds_then_part
    c.in_ok-put_text_or_json-2.ensures.whole
    (adds_then_part c.in_ok-put_selects.ensures.whole (adds_then_part c.in_ok-put_count.ensures.whole
    (adds_then_part c.in_ok-put_text_or_json-3.ensures.whole (adds_front _
    c.in_err-put_rows.ensures.part))))))))

pub returns-in_err-put_text_or_json-4-clause-part : goal.returns-in_err-put_text_or_json-4-clause-part
returns-in_err-put_text_or_json-4-clause-part g c =
    at_refusal c.from_residual-in_err-put_text_or_json-4.result (adds_then_part
    c.in_ok-put_text_or_json.ensures.whole
    (adds_then_part c.in_ok-put_mux_path.ensures.whole (adds_then_part c.in_ok-put_row_count.ensures.whole
    (adds_then_part c.in_ok-put_text_or_json-2.ensures.whole (adds_then_part c.in_ok-put_selects.ensures.whole
    (adds_then_part c.in_ok-put_count.ensures.whole (adds_then_part c.in_ok-put_text_or_json-3.ensures.whole
    (adds_then_part c.in_ok-put_rows.ensures.whole c.in_err-put_text_or_json-4.ensures.part))))))))

pub returns-clause-whole : goal.returns-clause-whole
returns-clause-whole g c = adds_both c.in_ok-put_text_or_json.ensures.whole
    (adds_both c.in_ok-put_mux_path.ensures.whole (adds_both c.in_ok-put_row_count.ensures.whole
    (adds_both c.in_ok-put_text_or_json-2.ensures.whole (adds_both c.in_ok-put_selects.ensures.whole
    (adds_both c.in_ok-put_count.ensures.whole (adds_both c.in_ok-put_text_or_json-3.ensures.whole
    (adds_both c.in_ok-put_rows.ensures.whole c.in_ok-put_text_or_json-4.ensures.whole)))))))
