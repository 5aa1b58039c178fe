use Rattle.std.proofs.Common.{sym, ap, subst}
use Rattle.ij_io.proofs.Adding.{adds_as, adds_part_as, at_refusal}
use Rattle.net_graph.specs.Path.{route_of}
use Rattle.net_graph.specs.SeenSteps.{seen_group}
use Rattle.net_tree.specs.ScanPlans.{seen_plan}
use Rattle.path_planner.specs.Scannable.{IsScannable}
use Rattle.path_planner.proofs.PlanSteps.{can_go_on}
use Rattle.scan_packer.specs.Packing.{CanScan}
use Rattle.svf_writer.specs.SeenCommands.{SDR}
use Rattle.svf_writer.specs.Written.{text_of}
use Rattle.headline.specs.Scans.{scan_of}
use Rattle.retargeter.proofs.Scanning.{opening_scan, plan_held, plan_same}
use Rattle.retargeter.proofs.scans.put_opening.Goals as goal

pub put_scan_on-requires-clause-plan : goal.put_scan_on-requires-clause-plan
put_scan_on-requires-clause-plan g c =
    let same = plan_same c.as_slice.result.now c.args.plan.now.writes.items c.as_slice-2.result.now
    c.args.plan.now.reads.items c.as_slice.ensures c.as_slice-2.ensures in
    subst (CanScan c.args.net.now c.args.holds.now) (sym same) (opening_scan c.args.net.now c.args.tree.now
    (seen_group c.args._group.now) c.args.holds.now c.requires.can (seen_plan c.args.plan.now)
    c.requires.plan)

pub returns-in_err-put_scan_on-clause-part : goal.returns-in_err-put_scan_on-clause-part
returns-in_err-put_scan_on-clause-part g c =
    let same = plan_same c.as_slice.result.now c.args.plan.now.writes.items c.as_slice-2.result.now
    c.args.plan.now.reads.items c.as_slice.ensures c.as_slice-2.ensures in
    at_refusal _ (adds_part_as (ap (λ p. text_of (SDR (scan_of c.args.net.now c.args.holds.now
    (route_of c.args.net.now c.args.holds.now) p))) same) c.in_err-put_scan_on.ensures.part)

pub take_plan_writes-requires : goal.take_plan_writes-requires
take_plan_writes-requires g c =
    plan_held c.args.net.now c.args.holds.now (seen_plan c.args.plan.now) (opening_scan c.args.net.now
    c.args.tree.now (seen_group c.args._group.now) c.args.holds.now c.requires.can
    (seen_plan c.args.plan.now) c.requires.plan)

pub find-requires-clause-holds : goal.find-requires-clause-holds
find-requires-clause-holds g c =
    (subst (IsScannable c.args.net.now) (sym c.take_plan_writes.ensures) (can_go_on c.args.net.now
    c.args.tree.now
    (seen_group c.args._group.now) c.args.holds.now c.requires.can (seen_plan c.args.plan.now)
    c.requires.plan).listed).widths

pub find-requires-clause-listed : goal.find-requires-clause-listed
find-requires-clause-listed g c =
    (subst (IsScannable c.args.net.now) (sym c.take_plan_writes.ensures) (can_go_on c.args.net.now
    c.args.tree.now
    (seen_group c.args._group.now) c.args.holds.now c.requires.can (seen_plan c.args.plan.now)
    c.requires.plan).listed).rows

pub returns-clause-whole : goal.returns-clause-whole
returns-clause-whole g c =
    let same = plan_same c.as_slice.result.now c.args.plan.now.writes.items c.as_slice-2.result.now
    c.args.plan.now.reads.items c.as_slice.ensures c.as_slice-2.ensures in
    adds_as (ap (λ p. text_of (SDR (scan_of c.args.net.now c.args.holds.now
    (route_of c.args.net.now c.args.holds.now) p))) same) c.in_ok-put_scan_on.ensures.whole

pub returns-clause-scannable : goal.returns-clause-scannable
returns-clause-scannable g c =
    subst (IsScannable c.args.net.now) (sym c.take_plan_writes.ensures) (can_go_on c.args.net.now
    c.args.tree.now
    (seen_group c.args._group.now) c.args.holds.now c.requires.can (seen_plan c.args.plan.now)
    c.requires.plan).listed
