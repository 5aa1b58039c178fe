use Rattle.std.proofs.Common.{◌≡◌, ◌≤◌, ◌+◌, ◌*◌, ◌^◌, ◌++◌, drop, map}
use Rattle.std.specs.Prelude.{List}
use Rattle.net_graph.specs.Held.{AreHolds}
use Rattle.net_graph.specs.SeenSteps.{seen_group}
use Rattle.svf_audit.specs.Work.{Work, Group}
use Rattle.least_clocks.specs.Counting.{in_all}
use Rattle.least_clocks.proofs.count.Count.apply.Given as goal

abbrev pub invariant-loop-group : goal.invariant-loop-group
invariant-loop-group l = record {
  counts : (left : List Work) →
      in_all l.net l.tree l.device l.self (map Group (map seen_group (drop l.group-index l.rounds)) ++ left)
      ≡ in_all l.net l.tree l.device l.fn.self (map Group (map seen_group l.rounds) ++ left);
  few : l.self.clocks ≤ l.fn.self.clocks + 2 ^ 47 * l.group-index;
  holds : AreHolds l.net l.self.holds;
}
