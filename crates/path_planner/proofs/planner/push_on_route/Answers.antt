use Rattle.std.proofs.Common.{ℕ, [], List, ◌∷◌, ◌++◌, ap, ◌∙◌}
use Rattle.std.specs.Prelude.{map}
use Rattle.ij_bits.specs.Room.{Roomy}
use Rattle.net_graph.specs.SeenSteps.{seen_group}
use Rattle.net_tree.specs.declared.plan.ScanPlan.{ScanPlan}
use Rattle.net_tree.specs.ScanPlans.{seen_plan}
use Rattle.path_planner.proofs.PlanSteps.{last_plan}
use Rattle.path_planner.proofs.Repeats.{added_places}
use Rattle.path_planner.proofs.planner.push_on_route.Goals as goal

pub returns-then-all_on-clause-plans : goal.returns-then-all_on-clause-plans
returns-then-all_on-clause-plans c =
    last_plan c.args.net.now c.args.tree.now (seen_group c.args.group.now) c.args.holds.now c.args.holds.now
    c.args.route.now.items c.as_slice.result.now c.args.regs.now c.all_on.result
    [] c.push_group.new.plans.items c.requires.not_empty c.requires.path
    (c.as_slice.ensures ∙ ap (λ (l : Roomy ℕ). l.items) c.regs.ensures) c.requires.regs c.all_on.ensures
    c.if-all_on.true (λ p ps h. h) (c.in_ok-push_group.ensures
    ∙ ap (λ (l : List ScanPlan). map seen_plan l ++ seen_group c.args.group.now ∷ []) c.requires.none)

pub rows_needed-requires-clause-places : goal.rows_needed-requires-clause-places
rows_needed-requires-clause-places c =
    added_places c.args.net.now c.args.tree.now
    (seen_group c.args.group.now) c.args.holds.now c.requires.can c.args.regs.now c.requires.regs
