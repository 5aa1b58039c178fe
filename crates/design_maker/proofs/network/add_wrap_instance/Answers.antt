use Rattle.std.proofs.Common.{[], ◌∷◌, codes, map, ap, ◌∙◌}
use Rattle.icl_lexer.specs.Values.{ADecimal}
use Rattle.icl_lexer.specs.Views.{seen_bind}
use Rattle.design_maker.specs.Parts.{bound, bound_width, instance}
use Rattle.design_maker.proofs.Adding.{added_as, both, pushed}
use Rattle.std.proofs.lemmas.Result.{on_ok_weaker}
use Rattle.design_maker.proofs.network.add_wrap_instance.Goals as goal

pub returns : goal.returns
returns c =
    let none = ap (map seen_bind) c.new-binds.ensures in
    let source = c.in_ok-bound.ensures ∙ ap (λ n. bound (codes "SI") (n ∷ codes "toSI" ∷ []))
    (c.bytes.ensures ∙ c.in_ok-innermost.ensures) in
    let select = c.in_ok-bound-2.ensures ∙ ap (λ n. bound (codes "SEL") (n ∷ codes "toSEL" ∷ []))
    (c.bytes-2.ensures ∙ c.in_ok-innermost.ensures) in
    let width = c.in_ok-bound_width.ensures ∙ ap (λ n. bound_width (ADecimal n)) c.bits.ensures in
    let sourced = pushed seen_bind c.new-binds.result.items none c.in_ok-push.ensures.ok source in
    let selected = pushed seen_bind c.push.new.self.items sourced c.in_ok-push-2.ensures.ok select in
    let binds = pushed seen_bind c.push-2.new.self.items selected c.in_ok-push-3.ensures.ok width in
    on_ok_weaker c.instance.result
    (λ added. added_as _ _ added
    (both (λ n bs. instance n (codes "Wrap") bs) (c.bytes-3.ensures ∙ c.in_ok-name.ensures) binds))
    c.instance.ensures
