use Rattle.std.proofs.Common.{codes, ap}
use Rattle.icl_lexer.specs.declared.tree.PortKind.TheVariants.{ScanOutPort, ToSelectPort}
use Rattle.design_maker.specs.Parts.{sourced}
use Rattle.design_maker.proofs.Adding.{added_as, then_more}
use Rattle.std.proofs.lemmas.Result.{on_ok_weaker}
use Rattle.design_maker.proofs.modules.add_host_side.Goals as goal

pub returns : goal.returns
returns c =
    let select = added_as _ _ c.in_ok-sourced.ensures
    (ap (sourced ToSelectPort (codes "toSEL")) c.in_ok-signal.ensures) in
    let output = added_as _ _ c.in_ok-sourced-2.ensures
    (ap (sourced ScanOutPort (codes "toSI")) c.in_ok-signal-2.ensures) in
    on_ok_weaker c.interface.result
    (λ last. then_more _ _ _ _ _ c.in_ok-port.ensures (then_more _ _ _ _ _ c.in_ok-port-2.ensures (then_more _
    _ _ _ _ c.in_ok-port-3.ensures (then_more _ _ _ _ _ c.in_ok-port-4.ensures (then_more _ _ _ _ _ select
    (then_more _ _ _ _ _ c.in_ok-port-5.ensures
    (then_more _ _ _ _ _ c.in_ok-port-6.ensures (then_more _ _ _ _ _ output last))))))))
    c.interface.ensures
