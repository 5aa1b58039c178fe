-- What is counted and what is left make up all, and each bit step has room.
use Rattle.std.proofs.Common.{◌≡◌, ◌≤◌, ◌+◌, ◌*◌, ◌^◌, length}
use Rattle.std.specs.Prelude.{All, None}
use Rattle.net_graph.specs.Held.{AreHolds}
use Rattle.net_graph.specs.Steps.{IsStep}
use Rattle.pdl_targets.specs.Laws.{rounds_in}
use Rattle.svf_audit.specs.Work.{all_work}
use Rattle.least_clocks.specs.Counting.{in_all}
use Rattle.least_clocks.specs.Least.{least_clocks}
use Rattle.least_clocks.proofs.bound.least.Given as goal

abbrev pub invariant-loop-count : goal.invariant-loop-count
invariant-loop-count l = record {
  counts : in_all l.net l.tree l.device l.count (all_work l.steps.steps)
      ≡ least_clocks l.net l.tree l.device l.fn.steps.steps;
  fault : l.steps.fault ≡ None;
  valid : All (IsStep l.net) l.steps.steps;
  holds : AreHolds l.net l.count.holds;
  room : l.count.clocks + 2 ^ 47 * rounds_in l.steps.steps + 2 ^ 33 * length l.steps.steps
      ≤ 2 ^ 47 * 4096 + 2 ^ 33 * 100000;
}

abbrev pub decreases-loop-count : goal.decreases-loop-count
decreases-loop-count l = length l.steps.steps
