use Rattle.std.proofs.Common.{ℕ, false, length, ap, ◌∙◌}
use Rattle.ij_bits.specs.Room.{Roomy}
use Rattle.std.specs.Prelude.{replicate}
use Rattle.net_graph.specs.declared.net.Point.TheVariants.{Reg as FromReg}
use Rattle.net_graph.specs.SeenSteps.{seen_group}
use Rattle.net_tree.specs.Places.{place_of}
use Rattle.net_tree.specs.ScanPlans.{seen_plan}
use Rattle.path_planner.specs.Planning.{IsBranchOf}
use Rattle.path_planner.proofs.FirstRows.{rows_there}
use Rattle.path_planner.proofs.PlanSteps.{opening_plan, plan_held, after_can, after_open, after_plans}
use Rattle.path_planner.proofs.PlanSteps.{fewer_left, last_plan}
use Rattle.path_planner.proofs.Repeats.{added_places}
use Rattle.path_planner.proofs.planner.push_openings.Goals as goal

pub settling_plan-requires-clause-rows : goal.settling_plan-requires-clause-rows
settling_plan-requires-clause-rows c =
    let net = c.args.net.now in
    let places = added_places net c.args.tree.now
    (seen_group c.args.group.now) c.args.now.now c.requires.can c.args.regs.now c.requires.regs in
    rows_there (IsBranchOf net) (λ r. place_of c.args.tree.now (FromReg r)) c.args.regs.now
    (replicate (length net.muxes.items) false) c.args.rows.now c.requires.rows places

pub take_plan_writes-requires : goal.take_plan_writes-requires
take_plan_writes-requires c =
    let net = c.args.net.now in
    let form = c.args.tree.now in
    let group = seen_group c.args.group.now in
    let s = opening_plan net form group c.opening.now c.opening.route.items c.as_slice.result.now
    c.as_slice-path.result.now c.args.regs.now c.args.regs.now c.args.rows.now c.all_on.result
    (seen_plan c.in_ok-plan.plan) c.opening.invariant.can c.opening.invariant.path
    (c.as_slice.ensures ∙ ap (λ (l : Roomy ℕ). l.items) c.regs.ensures)
    (c.as_slice-path.ensures ∙ ap (λ (l : Roomy ℕ). l.items) c.regs-in-opening.ensures) c.requires.regs
    c.requires.regs c.all_on.ensures c.opening-test.true c.requires.rows
    c.in_ok-plan.ensures.writes c.in_ok-plan.ensures.reads in
    plan_held net form group c.opening.now (seen_plan c.in_ok-plan.plan) c.opening.invariant.can s

pub walk-requires-clause-holds : goal.walk-requires-clause-holds
walk-requires-clause-holds c =
    let net = c.args.net.now in
    let form = c.args.tree.now in
    let group = seen_group c.args.group.now in
    let s = opening_plan net form group c.opening.now c.opening.route.items c.as_slice.result.now
    c.as_slice-path.result.now c.args.regs.now c.args.regs.now c.args.rows.now c.all_on.result
    (seen_plan c.in_ok-plan.plan) c.opening.invariant.can c.opening.invariant.path
    (c.as_slice.ensures ∙ ap (λ (l : Roomy ℕ). l.items) c.regs.ensures)
    (c.as_slice-path.ensures ∙ ap (λ (l : Roomy ℕ). l.items) c.regs-in-opening.ensures) c.requires.regs
    c.requires.regs c.all_on.ensures c.opening-test.true c.requires.rows
    c.in_ok-plan.ensures.writes c.in_ok-plan.ensures.reads in
    (after_can net form group c.args.now.now c.opening.now c.take_plan_writes.new.holds c.opening.plans.items
    c.push.new.self.items c.in_ok-plan.plan c.opening.invariant.can s
    c.take_plan_writes.ensures c.in_ok-push.ensures.ok).listed.widths

pub walk-requires-clause-listed : goal.walk-requires-clause-listed
walk-requires-clause-listed c =
    let net = c.args.net.now in
    let form = c.args.tree.now in
    let group = seen_group c.args.group.now in
    let s = opening_plan net form group c.opening.now c.opening.route.items c.as_slice.result.now
    c.as_slice-path.result.now c.args.regs.now c.args.regs.now c.args.rows.now c.all_on.result
    (seen_plan c.in_ok-plan.plan) c.opening.invariant.can c.opening.invariant.path
    (c.as_slice.ensures ∙ ap (λ (l : Roomy ℕ). l.items) c.regs.ensures)
    (c.as_slice-path.ensures ∙ ap (λ (l : Roomy ℕ). l.items) c.regs-in-opening.ensures) c.requires.regs
    c.requires.regs c.all_on.ensures c.opening-test.true c.requires.rows
    c.in_ok-plan.ensures.writes c.in_ok-plan.ensures.reads in
    (after_can net form group c.args.now.now c.opening.now c.take_plan_writes.new.holds c.opening.plans.items
    c.push.new.self.items c.in_ok-plan.plan c.opening.invariant.can s
    c.take_plan_writes.ensures c.in_ok-push.ensures.ok).listed.rows

pub opening-smaller : goal.opening-smaller
opening-smaller c =
    let net = c.args.net.now in
    let form = c.args.tree.now in
    let group = seen_group c.args.group.now in
    let s = opening_plan net form group c.opening.now c.opening.route.items c.as_slice.result.now
    c.as_slice-path.result.now c.args.regs.now c.args.regs.now c.args.rows.now c.all_on.result
    (seen_plan c.in_ok-plan.plan) c.opening.invariant.can c.opening.invariant.path
    (c.as_slice.ensures ∙ ap (λ (l : Roomy ℕ). l.items) c.regs.ensures)
    (c.as_slice-path.ensures ∙ ap (λ (l : Roomy ℕ). l.items) c.regs-in-opening.ensures) c.requires.regs
    c.requires.regs c.all_on.ensures c.opening-test.true c.requires.rows
    c.in_ok-plan.ensures.writes c.in_ok-plan.ensures.reads in
    fewer_left net form group c.args.now.now c.opening.now c.take_plan_writes.new.holds c.opening.plans.items
    c.push.new.self.items c.in_ok-plan.plan c.opening.invariant.can s c.take_plan_writes.ensures
    c.in_ok-push.ensures.ok c.opening.invariant.opened s.off_path

pub opening-preserved : goal.opening-preserved
opening-preserved c =
    let net = c.args.net.now in
    let form = c.args.tree.now in
    let group = seen_group c.args.group.now in
    let s = opening_plan net form group c.opening.now c.opening.route.items c.as_slice.result.now
    c.as_slice-path.result.now c.args.regs.now c.args.regs.now c.args.rows.now c.all_on.result
    (seen_plan c.in_ok-plan.plan) c.opening.invariant.can c.opening.invariant.path
    (c.as_slice.ensures ∙ ap (λ (l : Roomy ℕ). l.items) c.regs.ensures)
    (c.as_slice-path.ensures ∙ ap (λ (l : Roomy ℕ). l.items) c.regs-in-opening.ensures) c.requires.regs
    c.requires.regs c.all_on.ensures c.opening-test.true c.requires.rows
    c.in_ok-plan.ensures.writes c.in_ok-plan.ensures.reads in
    record {
      can = after_can net form group c.args.now.now c.opening.now c.take_plan_writes.new.holds
          c.opening.plans.items
          c.push.new.self.items c.in_ok-plan.plan c.opening.invariant.can s
          c.take_plan_writes.ensures c.in_ok-push.ensures.ok;
      opened = after_open net form group c.args.now.now c.opening.now c.take_plan_writes.new.holds
          c.opening.plans.items c.push.new.self.items c.in_ok-plan.plan c.opening.invariant.can s
          c.take_plan_writes.ensures c.in_ok-push.ensures.ok c.opening.invariant.opened;
      so_far = after_plans net form group c.args.now.now c.opening.now c.take_plan_writes.new.holds
          c.opening.plans.items c.push.new.self.items c.in_ok-plan.plan c.opening.invariant.can s
          c.take_plan_writes.ensures c.in_ok-push.ensures.ok c.opening.invariant.so_far;
      path = c.walk.ensures.path;
      room = c.walk.ensures.room;
    }

pub returns-clause-plans : goal.returns-clause-plans
returns-clause-plans c =
    last_plan c.args.net.now c.args.tree.now (seen_group c.args.group.now) c.args.now.now c.opening.now
    c.opening.route.items c.as_slice.result.now c.args.regs.now c.all_on.result c.opening.plans.items
    c.push_group.new.plans.items c.requires.not_empty c.opening.invariant.path
    (c.as_slice.ensures ∙ ap (λ (l : Roomy ℕ). l.items) c.regs.ensures) c.requires.regs c.all_on.ensures
    c.opening-test.false c.opening.invariant.so_far c.in_ok-push_group.ensures
