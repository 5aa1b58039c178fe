use Rattle.ij_io.proofs.Adding.{adds_both, adds_front, adds_then_part, at_refusal, adds_as, adds_part_as}
use Rattle.std.specs.Prelude.{List, [], ◌++◌, codes}
use Rattle.std.proofs.Common.{ap}
use Rattle.ij_bits.specs.declared.tern.Tern.{Tern}
use Rattle.net_graph.specs.PathNames.{mux_path}
use Rattle.net_list.specs.Forms.{text_or_json, values_text}
use Rattle.net_list.proofs.mux.put_row.Goals as goal

pub returns-in_err-write-clause-part : goal.returns-in_err-write-clause-part
returns-in_err-write-clause-part g c = at_refusal c.from_residual.result
    (adds_part_as (ap (λ (ts : List Tern). c.args.before.now ++ (text_or_json c.args.format (codes "row ")
    (codes "\"") ++ (text_or_json c.args.format (mux_path c.args.net.now c.args.mux ++ codes "=") []
    ++ (values_text ts ++ text_or_json c.args.format (codes "\n") (codes "\""))))) c.as_slice-values.ensures)
    (adds_front _ c.in_err-write.ensures.part))

pub returns-in_err-put_text_or_json-clause-part : goal.returns-in_err-put_text_or_json-clause-part
returns-in_err-put_text_or_json-clause-part g c = at_refusal c.from_residual-in_err-put_text_or_json.result
    (adds_part_as (ap (λ (ts : List Tern). c.args.before.now ++ (text_or_json c.args.format (codes "row ")
    (codes "\"") ++ (text_or_json c.args.format (mux_path c.args.net.now c.args.mux ++ codes "=") []
    ++ (values_text ts ++ text_or_json c.args.format (codes "\n") (codes "\""))))) c.as_slice-values.ensures)
    (adds_then_part c.in_ok-write.ensures.whole (adds_front _ c.in_err-put_text_or_json.ensures.part)))

pub returns-in_err-put_row_name-clause-part : goal.returns-in_err-put_row_name-clause-part
returns-in_err-put_row_name-clause-part g c = at_refusal c.from_residual-in_err-put_row_name.result
    (adds_part_as (ap (λ (ts : List Tern). c.args.before.now ++ (text_or_json c.args.format (codes "row ")
    (codes "\"") ++ (text_or_json c.args.format (mux_path c.args.net.now c.args.mux ++ codes "=") []
    ++ (values_text ts ++ text_or_json c.args.format (codes "\n") (codes "\""))))) c.as_slice-values.ensures)
    (adds_then_part c.in_ok-write.ensures.whole
    (adds_then_part c.in_ok-put_text_or_json.ensures.whole (adds_front _
    c.in_err-put_row_name.ensures.part))))

pub returns-in_err-put_values-clause-part : goal.returns-in_err-put_values-clause-part
returns-in_err-put_values-clause-part g c = at_refusal c.from_residual-in_err-put_values.result
    (adds_part_as (ap (λ (ts : List Tern). c.args.before.now ++ (text_or_json c.args.format (codes "row ")
    (codes "\"") ++ (text_or_json c.args.format (mux_path c.args.net.now c.args.mux ++ codes "=") []
    ++ (values_text ts ++ text_or_json c.args.format (codes "\n") (codes "\""))))) c.as_slice-values.ensures)
    (adds_then_part c.in_ok-write.ensures.whole (adds_then_part c.in_ok-put_text_or_json.ensures.whole
    (adds_then_part c.in_ok-put_row_name.ensures.whole (adds_front _ c.in_err-put_values.ensures.part)))))

pub returns-in_err-put_text_or_json-2-clause-part : goal.returns-in_err-put_text_or_json-2-clause-part
returns-in_err-put_text_or_json-2-clause-part g c = at_refusal
    c.from_residual-in_err-put_text_or_json-2.result
    (adds_part_as (ap (λ (ts : List Tern). c.args.before.now ++ (text_or_json c.args.format (codes "row ")
    (codes "\"") ++ (text_or_json c.args.format (mux_path c.args.net.now c.args.mux ++ codes "=") []
    ++ (values_text ts ++ text_or_json c.args.format (codes "\n") (codes "\""))))) c.as_slice-values.ensures)
    (adds_then_part c.in_ok-write.ensures.whole
    (adds_then_part c.in_ok-put_text_or_json.ensures.whole (adds_then_part c.in_ok-put_row_name.ensures.whole
    (adds_then_part c.in_ok-put_values.ensures.whole c.in_err-put_text_or_json-2.ensures.part)))))

pub returns-clause-whole : goal.returns-clause-whole
returns-clause-whole g c = adds_as (ap (λ (ts : List Tern). c.args.before.now ++ (text_or_json c.args.format
    (codes "row ") (codes "\"") ++ (text_or_json c.args.format (mux_path c.args.net.now c.args.mux ++ codes "=") []
    ++ (values_text ts ++ text_or_json c.args.format (codes "\n") (codes "\""))))) c.as_slice-values.ensures)
    (adds_both c.in_ok-write.ensures.whole
    (adds_both c.in_ok-put_text_or_json.ensures.whole (adds_both c.in_ok-put_row_name.ensures.whole
    (adds_both c.in_ok-put_values.ensures.whole c.in_ok-put_text_or_json-2.ensures.whole))))
