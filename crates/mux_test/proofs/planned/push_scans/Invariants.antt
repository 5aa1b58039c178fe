-- The scans so far, and the plans that are left, from the last to the first.
use Rattle.std.proofs.Common.{◌≡◌, ◌++◌, true, vec_len}
use Rattle.std.specs.Prelude.{map, reverse}
use Rattle.net_tree.specs.ScanPlans.{seen_plan}
use Rattle.mux_test.specs.Planned.{row_planned, seen_planned}
use Rattle.mux_test.proofs.planned.push_scans.Given as goal

abbrev pub invariant-plans : goal.invariant-plans
invariant-plans l =
    map seen_planned l.scans.items ++ row_planned l.branch l.first (map seen_plan (reverse l.left.items))
    ≡ map seen_planned l.fn.scans.items ++ row_planned l.branch true (map seen_plan l.fn.plans.items)

abbrev pub decreases-plans : goal.decreases-plans
decreases-plans l = vec_len l.left
