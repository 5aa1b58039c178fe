use Rattle.std.proofs.Common.{Bool, ℕ, List, Option, ◌++◌, length, ap, ◌∙◌}
use Rattle.std.specs.List.{flat_map}
use Rattle.ij_io.proofs.Adding.{adds_as, adds_both, adds_front, adds_part_as, adds_then_part, at_refusal}
use Rattle.net_graph.specs.declared.net.BitId.{BitId}
use Rattle.net_graph.specs.declared.net.Point.TheVariants.{Mux}
use Rattle.net_graph.specs.Path.{row_of, rows_of}
use Rattle.net_list.specs.Listing.{lines_from}
use Rattle.net_picture.specs.Dot.{row_line, select_edge}
use Rattle.net_picture.specs.Met.{is_on_path}
use Rattle.net_picture.proofs.dot.put_mux_edges.Goals as goal

pub returns-in_err-put_row_edges-clause-part : goal.returns-in_err-put_row_edges-clause-part
returns-in_err-put_row_edges-clause-part g c =
    let net = c.args.net.now in
    let m = c.args.mux in
    let met = c.args.met.now in
    let text : Bool → Option ℕ → List BitId → List ℕ = λ active selected bits. lines_from
    (row_line net active selected m) 0 (length (rows_of net m)) ++ flat_map (select_edge m) bits in
    let bits = c.select_bits-bits.result.now in
    let selected = c.row_of-selected.result in
    let same = ap (λ (b : Bool). text b selected bits) c.is_on_path-active.ensures
    ∙ ap (λ (o : Option ℕ). text (is_on_path met (Mux m)) o bits) c.row_of-selected.ensures
    ∙ ap (text (is_on_path met (Mux m)) (row_of net c.args.holds.now m)) c.select_bits-bits.ensures in
    at_refusal c.from_residual.result (adds_part_as same (adds_front _ c.in_err-put_row_edges.ensures.part))

pub returns-in_err-put_select_edges-clause-part : goal.returns-in_err-put_select_edges-clause-part
returns-in_err-put_select_edges-clause-part g c =
    let net = c.args.net.now in
    let m = c.args.mux in
    let met = c.args.met.now in
    let text : Bool → Option ℕ → List BitId → List ℕ = λ active selected bits. lines_from
    (row_line net active selected m) 0 (length (rows_of net m)) ++ flat_map (select_edge m) bits in
    let bits = c.select_bits-bits.result.now in
    let selected = c.row_of-selected.result in
    let same = ap (λ (b : Bool). text b selected bits) c.is_on_path-active.ensures
    ∙ ap (λ (o : Option ℕ). text (is_on_path met (Mux m)) o bits) c.row_of-selected.ensures
    ∙ ap (text (is_on_path met (Mux m)) (row_of net c.args.holds.now m)) c.select_bits-bits.ensures in
    at_refusal c.from_residual-in_err-put_select_edges.result (adds_part_as same
    (adds_then_part c.in_ok-put_row_edges.ensures.whole c.in_err-put_select_edges.ensures.part))

pub returns-clause-whole : goal.returns-clause-whole
returns-clause-whole g c =
    let net = c.args.net.now in
    let m = c.args.mux in
    let met = c.args.met.now in
    let text : Bool → Option ℕ → List BitId → List ℕ = λ active selected bits. lines_from
    (row_line net active selected m) 0 (length (rows_of net m)) ++ flat_map (select_edge m) bits in
    let bits = c.select_bits-bits.result.now in
    let selected = c.row_of-selected.result in
    let same = ap (λ (b : Bool). text b selected bits) c.is_on_path-active.ensures
    ∙ ap (λ (o : Option ℕ). text (is_on_path met (Mux m)) o bits) c.row_of-selected.ensures
    ∙ ap (text (is_on_path met (Mux m)) (row_of net c.args.holds.now m)) c.select_bits-bits.ensures in
    adds_as same (adds_both c.in_ok-put_row_edges.ensures.whole c.in_ok-put_select_edges.ensures.whole)
