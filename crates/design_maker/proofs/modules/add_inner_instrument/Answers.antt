use Rattle.std.proofs.Common.{codes, map, ap, ◌∙◌}
use Rattle.icl_lexer.specs.Views.{seen_bind}
use Rattle.design_maker.specs.Parts.{bound_width, instance}
use Rattle.design_maker.proofs.Adding.{added_as, pushed}
use Rattle.std.proofs.lemmas.Result.{on_ok_weaker}
use Rattle.design_maker.proofs.modules.add_inner_instrument.Goals as goal

pub returns : goal.returns
returns c =
    let none = ap (map seen_bind) c.new-binds.ensures in
    let width = pushed seen_bind c.new-binds.result.items none c.in_ok-push.ensures.ok
    (c.in_ok-bound_width.ensures ∙ ap bound_width c.in_ok-the_width.ensures) in
    let input =
    pushed seen_bind c.push.new.self.items width c.in_ok-push-2.ensures.ok c.in_ok-bound.ensures in
    let binds =
    pushed seen_bind c.push-2.new.self.items input c.in_ok-push-3.ensures.ok c.in_ok-bound-2.ensures in
    on_ok_weaker c.instance.result (λ added. added_as _ _ added
    (ap (λ bs. instance (codes "ins") (codes "Ins") bs) binds)) c.instance.ensures
