use Rattle.std.proofs.Common.{codes, map, ap}
use Rattle.icl_lexer.specs.Values.{AMux}
use Rattle.icl_lexer.specs.Views.{seen_row, seen_sig}
use Rattle.design_maker.specs.Parts.{item}
use Rattle.design_maker.proofs.Adding.{added_as, alone, both, pushed}
use Rattle.std.proofs.lemmas.Result.{on_ok_weaker}
use Rattle.design_maker.proofs.modules.add_segment_mux.Goals as goal

pub returns : goal.returns
returns c =
    let select = alone seen_sig c.in_ok-select.ensures c.in_ok-signal.ensures in
    let none = ap (map seen_row) c.new-rows.ensures in
    let first =
    pushed seen_row c.new-rows.result.items none c.in_ok-push.ensures.ok c.in_ok-mux_row.ensures in
    let rows =
    pushed seen_row c.push.new.self.items first c.in_ok-push-2.ensures.ok c.in_ok-mux_row-2.ensures in
    on_ok_weaker c.add.result (λ added. added_as _ _ added
    (both (λ ss rs. item (codes "m") (AMux ss rs)) select rows)) c.add.ensures
