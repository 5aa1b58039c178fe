use Rattle.std.proofs.Common.{None, codes, map, ap}
use Rattle.icl_lexer.specs.Values.{AScanInSource, ACaptureSource, AResetValue, ARegister}
use Rattle.icl_lexer.specs.Views.{seen_prop, seen_sig}
use Rattle.design_maker.specs.Parts.{item}
use Rattle.design_maker.proofs.Adding.{added_as, alone, pushed}
use Rattle.std.proofs.lemmas.Result.{on_ok_weaker}
use Rattle.design_maker.proofs.modules.add_select_bit.Goals as goal

pub returns : goal.returns
returns c =
    let capture = alone seen_sig c.in_ok-one.ensures c.in_ok-signal-2.ensures in
    let none = ap (map seen_prop) c.new-props.ensures in
    let source = pushed seen_prop c.new-props.result.items none c.in_ok-push.ensures.ok
    (ap AScanInSource c.in_ok-signal.ensures) in
    let captured =
    pushed seen_prop c.push.new.self.items source c.in_ok-push-2.ensures.ok (ap ACaptureSource capture) in
    let props = pushed seen_prop c.push-2.new.self.items captured c.in_ok-push-3.ensures.ok
    (ap AResetValue c.in_ok-sized_number.ensures) in
    on_ok_weaker c.add.result
    (λ added. added_as _ _ added (ap (λ ps. item (codes "SR") (ARegister None ps)) props)) c.add.ensures
