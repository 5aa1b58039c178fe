use Rattle.std.proofs.Common.{false, length, refl, ◌∙◌}
use Rattle.std.specs.Prelude.{replicate}
use Rattle.net_graph.specs.declared.net.Point.TheVariants.{Reg as FromReg}
use Rattle.net_graph.specs.SeenSteps.{seen_group}
use Rattle.net_tree.specs.Places.{place_of}
use Rattle.net_tree.specs.ScanPlans.{seen_plan}
use Rattle.path_planner.specs.Planning.{IsBranchOf}
use Rattle.path_planner.proofs.FirstRows.{rows_there}
use Rattle.path_planner.proofs.PlanSteps.{asked_on, opening_plan}
use Rattle.path_planner.proofs.Repeats.{added_places}
use Rattle.path_planner.proofs.opening_plans.OpeningPlans.next.Goals as goal

pub returns-then-all_on-clause-none : goal.returns-then-all_on-clause-none
returns-then-all_on-clause-none c = λ e.
    asked_on c.args.net.now c.args.tree.now (seen_group c.args._group.now) c.args.holds.now c.args.path.now
    c.args.path.now c.as_slice.result.now c.all_on.result c.requires.path refl
    (c.as_slice.ensures ∙ c.requires.opening.regs) c.all_on.ensures ∙ c.if-all_on.true

pub known_or_needed-requires-clause-places : goal.known_or_needed-requires-clause-places
known_or_needed-requires-clause-places c =
    added_places c.args.net.now c.args.tree.now (seen_group c.args._group.now) c.args.holds.now c.requires.can
    c.as_slice-2.result.now (c.as_slice-2.ensures ∙ c.requires.opening.regs)

pub settling_plan-plan-requires-clause-rows : goal.settling_plan-plan-requires-clause-rows
settling_plan-plan-requires-clause-rows c =
    let net = c.args.net.now in
    let places = added_places net c.args.tree.now (seen_group c.args._group.now) c.args.holds.now
    c.requires.can c.as_slice-2.result.now (c.as_slice-2.ensures ∙ c.requires.opening.regs) in
    rows_there (IsBranchOf net) (λ r. place_of c.args.tree.now (FromReg r)) c.as_slice-2.result.now
    (replicate (length net.muxes.items) false) c.as_slice-3.result.now
    (c.as_slice-3.ensures ∙ c.in_ok-rows.ensures) places

pub returns-clause-some : goal.returns-clause-some
returns-clause-some c =
    opening_plan c.args.net.now c.args.tree.now (seen_group c.args._group.now) c.args.holds.now
    c.args.path.now c.args.path.now c.args.path.now c.as_slice.result.now c.as_slice-2.result.now
    c.as_slice-3.result.now c.all_on.result (seen_plan c.in_ok-plan.field-0) c.requires.can c.requires.path
    refl refl (c.as_slice.ensures ∙ c.requires.opening.regs) (c.as_slice-2.ensures ∙ c.requires.opening.regs)
    c.all_on.ensures c.if-all_on.false (c.as_slice-3.ensures ∙ c.in_ok-rows.ensures)
    c.in_ok-plan.ensures.writes c.in_ok-plan.ensures.reads
