use Rattle.ij_io.proofs.Adding.{adds_both, adds_front, adds_then_part, at_refusal, adds_as, adds_part_as}
use Rattle.std.specs.Prelude.{ℕ, List, [], ◌++◌, codes}
use Rattle.std.proofs.Common.{ap, ◌∙◌}
use Rattle.net_list.specs.Forms.{text_or_json, items}
use Rattle.net_list.specs.Lines.{branch_text}
use Rattle.net_list.proofs.place.put_place.Goals as goal

pub returns-in_err-put_text_or_json-clause-part : goal.returns-in_err-put_text_or_json-clause-part
returns-in_err-put_text_or_json-clause-part g c = at_refusal c.from_residual.result
    (adds_part_as (ap (λ (b : List ℕ). text_or_json c.args.format [] (codes ",\"in\":[")
    ++ (items (branch_text c.args.format c.args.net.now) b c.text_or_json-first.result.now c.args.place.now
    ++ text_or_json c.args.format [] (codes "]"))) c.text_or_json-between.ensures ∙ ap (λ (a : List ℕ). text_or_json
    c.args.format [] (codes ",\"in\":[") ++ (items (branch_text c.args.format c.args.net.now)
    (text_or_json c.args.format (codes " ") (codes ",")) a c.args.place.now ++ text_or_json c.args.format [] (codes "]")))
    c.text_or_json-first.ensures) (adds_front _ c.in_err-put_text_or_json.ensures.part))

pub returns-in_err-put_rows-clause-part : goal.returns-in_err-put_rows-clause-part
returns-in_err-put_rows-clause-part g c = at_refusal c.from_residual-in_err-put_rows.result (adds_part_as
    (ap (λ (b : List ℕ). text_or_json c.args.format [] (codes ",\"in\":[") ++ (items (branch_text c.args.format
    c.args.net.now) b c.text_or_json-first.result.now c.args.place.now ++ text_or_json c.args.format [] (codes "]")))
    c.text_or_json-between.ensures ∙ ap (λ (a : List ℕ). text_or_json c.args.format [] (codes ",\"in\":[")
    ++ (items (branch_text c.args.format c.args.net.now) (text_or_json c.args.format (codes " ") (codes ",")) a
    c.args.place.now ++ text_or_json c.args.format [] (codes "]"))) c.text_or_json-first.ensures)
    (adds_then_part c.in_ok-put_text_or_json.ensures.whole (adds_front _ c.in_err-put_rows.ensures.part)))

pub returns-in_err-put_text_or_json-2-clause-part : goal.returns-in_err-put_text_or_json-2-clause-part
returns-in_err-put_text_or_json-2-clause-part g c = at_refusal
    c.from_residual-in_err-put_text_or_json-2.result
    (adds_part_as (ap (λ (b : List ℕ). text_or_json c.args.format [] (codes ",\"in\":[")
    ++ (items (branch_text c.args.format c.args.net.now) b c.text_or_json-first.result.now c.args.place.now
    ++ text_or_json c.args.format [] (codes "]"))) c.text_or_json-between.ensures ∙ ap (λ (a : List ℕ). text_or_json
    c.args.format [] (codes ",\"in\":[") ++ (items (branch_text c.args.format c.args.net.now)
    (text_or_json c.args.format (codes " ") (codes ",")) a c.args.place.now ++ text_or_json c.args.format [] (codes "]")))
    c.text_or_json-first.ensures) (adds_then_part c.in_ok-put_text_or_json.ensures.whole
    (adds_then_part c.in_ok-put_rows.ensures.whole c.in_err-put_text_or_json-2.ensures.part)))

pub returns-clause-whole : goal.returns-clause-whole
returns-clause-whole g c = adds_as (ap (λ (b : List ℕ). text_or_json c.args.format [] (codes ",\"in\":[")
    ++ (items (branch_text c.args.format c.args.net.now) b c.text_or_json-first.result.now c.args.place.now
    ++ text_or_json c.args.format [] (codes "]"))) c.text_or_json-between.ensures ∙ ap (λ (a : List ℕ). text_or_json
    c.args.format [] (codes ",\"in\":[") ++ (items (branch_text c.args.format c.args.net.now)
    (text_or_json c.args.format (codes " ") (codes ",")) a c.args.place.now ++ text_or_json c.args.format [] (codes "]")))
    c.text_or_json-first.ensures) (adds_both c.in_ok-put_text_or_json.ensures.whole
    (adds_both c.in_ok-put_rows.ensures.whole c.in_ok-put_text_or_json-2.ensures.whole))
