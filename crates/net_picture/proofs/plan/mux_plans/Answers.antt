use Rattle.std.proofs.Common.{◌≡◌, ◌+◌, ◌++◌, ◌∷◌, [], List, sym, ap, ◌∙◌, arith}
use Rattle.std.proofs.lemmas.List.FromFn.{map-range_with_len_more}
use Rattle.net_picture.specs.declared.plan.MuxPlan.{MuxPlan}
use Rattle.net_picture.specs.Plan.{mux_plan}
use Rattle.net_picture.proofs.plan.mux_plans.Goals as goal

pub loop-mux-preserved : goal.loop-mux-preserved
loop-mux-preserved c =
    let part = mux_plan c.args.net.now c.args.holds.now in
    let same : 0 + c.loop-mux.mux ≡ c.loop-mux.mux = omega arith in
    c.in_ok-push.ensures.items
    ∙ ap (λ (n : MuxPlan). c.loop-mux.muxes.items ++ n ∷ []) c.in_ok-part.ensures
    ∙ ap (λ (l : List MuxPlan). l ++ part c.loop-mux.mux ∷ []) c.loop-mux.invariant
    ∙ sym (map-range_with_len_more part 0 c.loop-mux.mux c.loop-mux.mux same)
