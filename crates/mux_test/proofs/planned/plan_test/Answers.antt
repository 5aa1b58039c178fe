use Rattle.std.proofs.Common.{◌≡◌, List, length, sym, ap, subst, arith}
use Rattle.std.specs.Prelude.{map}
use Rattle.net_graph.specs.Held.{AreHolds}
use Rattle.net_graph.specs.Path.{AreListed}
use Rattle.mux_test.specs.declared.planned.PlannedScan.{PlannedScan}
use Rattle.mux_test.specs.Planned.{seen_planned}
use Rattle.mux_test.specs.Test.{branches}
use Rattle.mux_test.proofs.Planning.{IsOnTheWay, at_end, at_start, can_open, can_start, done, next_length}
use Rattle.mux_test.proofs.Planning.{next_row, test_has}
use Rattle.mux_test.proofs.planned.plan_test.Goals as goal

pub walk-requires-clause-holds : goal.walk-requires-clause-holds
walk-requires-clause-holds c =
    subst (AreHolds c.args.net.now) (sym c.in_ok-holds.ensures)
    (can_start c.args.net.now c.args.tree.now c.requires.network).widths

pub walk-requires-clause-listed : goal.walk-requires-clause-listed
walk-requires-clause-listed c =
    subst (AreListed c.args.net.now) (sym c.in_ok-holds.ensures)
    (can_start c.args.net.now c.args.tree.now c.requires.network).rows

pub loop-branch-init : goal.loop-branch-init
loop-branch-init c =
    let net = c.args.net.now in
    let form = c.args.tree.now in
    let start = at_start net form c.in_ok-holds.holds c.in_ok-holds.ensures
    (can_start net form c.requires.network) in
    let empty = subst (λ (xs : List PlannedScan). IsOnTheWay net form
    (map seen_planned xs) c.in_ok-holds.holds (branches net)) (sym c.new-scans.ensures) start in
    record {
      way = subst (IsOnTheWay net form (map seen_planned c.new-scans.result.items) c.in_ok-holds.holds)
          (sym c.requires.branches) empty;
      short = omega (arith, ap length c.new-scans.ensures);
      path = c.walk.ensures.path;
      room = c.walk.ensures.room;
    }

pub plan_row_on-requires-clause-can : goal.plan_row_on-requires-clause-can
plan_row_on-requires-clause-can c =
    can_open c.args.net.now c.args.tree.now c.requires.network c.loop-branch.scans.items c.loop-branch.holds
    c.args.branches.now c.loop-branch.branch-index
    (record { mux = 0; row = 0 }) c.requires.branches c.loop-branch-test.true c.loop-branch.invariant.way

pub returns-then-len-clause-limit : goal.returns-then-len-clause-limit
returns-then-len-clause-limit c number e =
    let has = test_has c.args.net.now c.args.tree.now c.requires.network c.loop-branch.scans.items
    c.loop-branch.holds c.args.branches.now c.loop-branch.branch-index
    (record { mux = 0; row = 0 }) c.requires.branches c.loop-branch-test.true c.loop-branch.invariant.way
    c.in_ok-plans.plans.items c.in_ok-plans.ensures.plans c.in_ok-plans.ensures.planned in
    let same : number ≡ 8192 = cc e in
    (same, omega (arith, has, c.if-len.true, c.len.ensures, c.len-in-loop-branch.ensures))

pub loop-branch-preserved : goal.loop-branch-preserved
loop-branch-preserved c =
    let long = next_length c.args.net.now c.args.tree.now c.requires.network c.loop-branch.scans.items
    c.loop-branch.holds c.args.branches.now c.loop-branch.branch-index (record { mux = 0; row = 0 })
    c.requires.branches c.loop-branch-test.true c.loop-branch.invariant.way c.in_ok-plans.plans.items
    c.in_ok-plans.ensures.plans c.in_ok-plans.ensures.planned c.push_scans.new.scans.items
    c.plan_row_on.new.now c.in_ok-push_scans.ensures c.in_ok-plans.ensures.holds in
    record {
      way = next_row c.args.net.now c.args.tree.now c.requires.network c.loop-branch.scans.items
          c.loop-branch.holds c.args.branches.now c.loop-branch.branch-index (record { mux = 0; row = 0 })
          c.requires.branches c.loop-branch-test.true c.loop-branch.invariant.way c.in_ok-plans.plans.items
          c.in_ok-plans.ensures.plans c.in_ok-plans.ensures.planned c.push_scans.new.scans.items
          c.plan_row_on.new.now c.in_ok-push_scans.ensures c.in_ok-plans.ensures.holds;
      short = omega (
        arith,
        long,
        c.if-len.false,
        c.len.ensures,
        c.len-in-loop-branch.ensures,
        c.loop-branch.invariant.short,
      );
      path = c.in_ok-plans.ensures.path;
      room = c.plan_row_on.ensures.room;
    }

pub returns-clause-planned : goal.returns-clause-planned
returns-clause-planned c =
    at_end c.args.net.now c.args.tree.now (map seen_planned c.loop-branch.scans.items) c.loop-branch.holds
    (done c.args.net.now c.args.tree.now (map seen_planned c.loop-branch.scans.items) c.loop-branch.holds
    c.args.branches.now c.loop-branch.branch-index c.loop-branch-test.false c.loop-branch.invariant.way)
