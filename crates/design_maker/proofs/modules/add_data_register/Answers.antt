use Rattle.std.proofs.Common.{Some, codes, map, ap}
use Rattle.icl_lexer.specs.Values.{AScanInSource, ACaptureSource, ALoadValue, AResetValue, ARegister}
use Rattle.icl_lexer.specs.Views.{seen_prop, seen_sig}
use Rattle.design_maker.specs.Parts.{item}
use Rattle.design_maker.proofs.Adding.{added_as, alone, both, pushed}
use Rattle.std.proofs.lemmas.Result.{on_ok_weaker}
use Rattle.design_maker.proofs.modules.add_data_register.Goals as goal

pub returns : goal.returns
returns c =
    let capture = alone seen_sig c.in_ok-one.ensures c.in_ok-signal-2.ensures in
    let none = ap (map seen_prop) c.new-props.ensures in
    let source = pushed seen_prop c.new-props.result.items none c.in_ok-push.ensures.ok
    (ap AScanInSource c.in_ok-signal.ensures) in
    let captured =
    pushed seen_prop c.push.new.self.items source c.in_ok-push-2.ensures.ok (ap ACaptureSource capture) in
    let loaded = pushed seen_prop c.push-2.new.self.items captured c.in_ok-push-3.ensures.ok
    (ap ALoadValue c.in_ok-sized_number.ensures) in
    let props = pushed seen_prop c.push-3.new.self.items loaded c.in_ok-push-4.ensures.ok
    (ap AResetValue c.in_ok-sized_number-2.ensures) in
    on_ok_weaker c.add.result (λ added. added_as _ _ added (both
    (λ r ps. item (codes "R") (ARegister (Some r) ps)) c.in_ok-whole_width.ensures props)) c.add.ensures
