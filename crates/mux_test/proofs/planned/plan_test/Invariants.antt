-- The scans so far lead, with the rows that are left, to the whole test; and the route is that of what is
-- held.
use Rattle.std.proofs.Common.{◌≡◌, ◌≤◌, Some, drop, length}
use Rattle.std.specs.Prelude.{map}
use Rattle.net_graph.specs.Path as paths
use Rattle.net_tree.specs.Routes.{HasRoom}
use Rattle.mux_test.specs.Planned.{seen_planned}
use Rattle.mux_test.proofs.Planning.{IsOnTheWay}
use Rattle.mux_test.proofs.planned.plan_test.Given as goal

abbrev pub invariant-loop-branch : goal.invariant-loop-branch
invariant-loop-branch l =
    record {
      way : IsOnTheWay l.net l.tree (map seen_planned l.scans.items) l.holds (drop l.branch-index l.branches);
      short : length l.scans.items ≤ 8192;
      path : paths.path l.net l.holds ≡ Some l.route.items;
      room : HasRoom l.net l.route;
    }
