use Rattle.std.proofs.Common.{List, ◌++◌, map, sym, ap, ◌∙◌, subst, arith}
use Rattle.std.proofs.lemmas.List.{length-map}
use Rattle.net_graph.specs.SeenSteps.{seen_group}
use Rattle.net_tree.specs.declared.plan.ScanPlan.{ScanPlan}
use Rattle.net_tree.specs.ScanPlans.{seen_plan}
use Rattle.path_planner.specs.Plans.{ArePlans}
use Rattle.run_report.specs.Scanning.{CanScanAll}
use Rattle.retargeter.proofs.Found.{can_open}
use Rattle.run_report.proofs.Scanning.{can_scan_all}
use Rattle.run_report.specs.declared.place.ReadPlace.{ReadPlace}
use Rattle.run_report.proofs.Same.{plans_same}
use Rattle.run_report.proofs.scans.note_group_reads.Goals as goal

pub note_plans_reads-requires-clause-plans : goal.note_plans_reads-requires-clause-plans
note_plans_reads-requires-clause-plans c =
    let can = can_open c.args.net.now c.args.tree.now c.requires.network c.args.holds.now
    (seen_group c.args.group.now) c.requires.scannable c.requires.group in
    subst (λ (ps : List ScanPlan). CanScanAll c.args.net.now c.args.holds.now (map seen_plan ps))
    (sym c.as_slice.ensures) (can_scan_all c.args.net.now c.args.tree.now
    (seen_group c.args.group.now) c.args.holds.now (map seen_plan c.in_ok-plans.plans.items) can
    c.in_ok-plans.ensures.plans c.in_ok-plans.ensures.planned.scans)

pub returns-clause-places : goal.returns-clause-places
returns-clause-places c =
    let mine = subst (λ (ps : List ScanPlan). ArePlans c.args.net.now c.args.tree.now
    (seen_group c.args.group.now) c.args.holds.now (map seen_plan ps))
    (sym c.as_slice.ensures) c.in_ok-plans.ensures.plans in
    λ plans a. c.in_ok-note_plans_reads.ensures.places
    ∙ ap (λ (xs : List ReadPlace). c.args.places.now.items ++ xs)
    (plans_same c.args.net.now c.args.tree.now (seen_group c.args.group.now) c.requires.group.named
    (map seen_plan c.as_slice.result.now) plans c.args.holds.now c.args.scans mine a.plans).places

pub returns-clause-holds : goal.returns-clause-holds
returns-clause-holds c =
    let mine = subst (λ (ps : List ScanPlan). ArePlans c.args.net.now c.args.tree.now
    (seen_group c.args.group.now) c.args.holds.now (map seen_plan ps))
    (sym c.as_slice.ensures) c.in_ok-plans.ensures.plans in
    λ plans a. c.in_ok-note_plans_reads.ensures.holds
    ∙ (plans_same c.args.net.now c.args.tree.now (seen_group c.args.group.now) c.requires.group.named
    (map seen_plan c.as_slice.result.now) plans c.args.holds.now c.args.scans mine a.plans).holds

pub returns-clause-scans : goal.returns-clause-scans
returns-clause-scans c =
    λ plans a. let same = (plans_same c.args.net.now c.args.tree.now
    (seen_group c.args.group.now) c.requires.group.named (map seen_plan c.in_ok-plans.plans.items) plans
    c.args.holds.now c.args.scans c.in_ok-plans.ensures.plans a.plans).count in
    omega (arith, same, length-map c.in_ok-plans.plans.items seen_plan, c.len.ensures)
