use Rattle.std.proofs.Common.{[], ◌∷◌, Some, codes, ap, ◌∙◌}
use Rattle.icl_lexer.specs.declared.tree.PortKind.TheVariants.{ScanOutPort}
use Rattle.design_maker.specs.Parts.{ranged, sourced}
use Rattle.design_maker.proofs.Adding.{added_as, then_more}
use Rattle.std.proofs.lemmas.Result.{on_ok_weaker}
use Rattle.design_maker.proofs.modules.add_wrap_ports.Goals as goal

pub returns : goal.returns
returns c =
    let source = c.in_ok-source.ensures ∙ ap (λ r. ranged (codes "R" ∷ []) (Some r)) c.in_ok-lowest_bit_range.ensures in
    let output = added_as _ _ c.in_ok-sourced.ensures (ap (sourced ScanOutPort (codes "SO")) source) in
    on_ok_weaker c.interface.result
    (λ last. then_more _ _ _ _ _ c.in_ok-port.ensures (then_more _ _ _ _ _ c.in_ok-port-2.ensures
    (then_more _ _ _ _ _ c.in_ok-port-3.ensures (then_more _ _ _ _ _ output last))))
    c.interface.ensures
