use Rattle.std.proofs.Common.{◌∙◌, ◌+◌, ◌-◌, ◌&&◌, sym, ap}
use Rattle.std.specs.List.{list_all, range_with_len}
use Rattle.icl_elab.specs.Bindings.{is_bound}
use Rattle.icl_elab.proofs.Bound.{all_step}
use Rattle.icl_elab.proofs.bindings.OpenBindings.binds_all.Goals as goal

pub loop-pos-preserved : goal.loop-pos-preserved
loop-pos-preserved c =
    let f = is_bound c.args.self.now c.args.part in
    let pos = c.loop-pos.pos in
    sym (all_step f pos c.args.wide c.loop-pos-test.true
    ∙ ap (λ b. b && list_all f (range_with_len (pos + 1) (c.args.wide - (pos + 1))))
    (sym c.is_bound.ensures ∙ c.if-not-is_bound.false))
    ∙ c.loop-pos.invariant
