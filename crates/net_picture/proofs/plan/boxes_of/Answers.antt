use Rattle.std.proofs.Common.{◌≡◌, ◌+◌, ◌++◌, ◌∷◌, [], ℕ, List, sym, ap, ◌∙◌, arith}
use Rattle.std.proofs.lemmas.List.FromFn.{map-range_with_len_more}
use Rattle.net_picture.specs.Labels.{box_width}
use Rattle.net_picture.proofs.plan.boxes_of.Goals as goal

pub loop-reg-preserved : goal.loop-reg-preserved
loop-reg-preserved c =
    let width = box_width c.args.net.now in
    let same : 0 + c.loop-reg.reg ≡ c.loop-reg.reg = omega arith in
    c.in_ok-push.ensures.items
    ∙ ap (λ (n : ℕ). c.loop-reg.boxes.items ++ n ∷ []) c.in_ok-width.ensures
    ∙ ap (λ (l : List ℕ). l ++ width c.loop-reg.reg ∷ []) c.loop-reg.invariant
    ∙ sym (map-range_with_len_more width 0 c.loop-reg.reg c.loop-reg.reg same)
