use Rattle.std.proofs.Common.{[], ◌∷◌, ◌++◌, ap, ◌∙◌, map}
use Rattle.std.proofs.lemmas.List.{map-append}
use Rattle.net_tree.specs.ScanPlans.{seen_plan}
use Rattle.net_graph.specs.SeenSteps.{SeenGroup}
use Rattle.path_planner.proofs.planner.push_group.Goals as goal

pub returns : goal.returns
returns c =
    ap (map seen_plan) c.in_ok-push.ensures.ok
    ∙ map-append seen_plan c.args.plans.now.items (c.in_ok-group_plan.field-0 ∷ [])
    ∙ ap (λ (g : SeenGroup). map seen_plan c.args.plans.now.items ++ g ∷ []) c.in_ok-group_plan.ensures
