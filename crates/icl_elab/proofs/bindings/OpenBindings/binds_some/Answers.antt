use Rattle.std.proofs.Common.{◌∙◌, ◌+◌, ◌-◌, ◌||◌, sym, ap}
use Rattle.std.specs.List.{list_any, range_with_len}
use Rattle.icl_elab.specs.Bindings.{is_bound}
use Rattle.icl_elab.proofs.Bound.{any_step}
use Rattle.icl_elab.proofs.bindings.OpenBindings.binds_some.Goals as goal

pub loop-k-preserved : goal.loop-k-preserved
loop-k-preserved c =
    let f = is_bound c.args.self.now c.args.part in
    let low = c.args.s.low in
    let k = c.loop-k.k in
    let count = c.saturating_sub-count.result in
    sym (any_step f low k count c.loop-k-test.true ∙ ap (λ b. b || list_any f
    (range_with_len (low + (k + 1)) (count - (k + 1)))) (sym c.is_bound.ensures ∙ c.if-is_bound.false))
    ∙ c.loop-k.invariant
