-- Each plan so far settles what the group needs, and what is left to plan goes after them.
use Rattle.std.proofs.Common.{◌≡◌, ◌-◌, List, ◌∷◌, ◌++◌, length, Some}
use Rattle.std.specs.Prelude.{map}
use Rattle.net_graph.specs.Path as paths
use Rattle.net_graph.specs.SeenSteps.{SeenGroup, seen_group}
use Rattle.net_tree.specs.Needs.{group_depth}
use Rattle.path_planner.specs.Opening.{CanOpen}
use Rattle.path_planner.specs.Plans.{ArePlans}
use Rattle.net_tree.specs.Routes.{HasRoom}
use Rattle.net_tree.specs.ScanPlans.{seen_plan}
use Rattle.path_planner.proofs.PlanSteps.{AreOpen}
use Rattle.path_planner.proofs.planner.push_openings.Given as goal

abbrev pub invariant-opening : goal.invariant-opening
invariant-opening l =
    let form = l.tree in
    let group = seen_group l.group in
    record {
      can : CanOpen l.net form group l.now;
      opened : AreOpen l.net form group l.now (length l.plans.items);
      so_far : (p : SeenGroup) (ps : List SeenGroup) → ArePlans l.net form group l.now (p ∷ ps)
          → ArePlans l.net form group l.fn.now (map seen_plan l.plans.items ++ p ∷ ps);
      path : paths.path l.net l.now ≡ Some l.route.items;
      room : HasRoom l.net l.route;
    }

abbrev pub decreases-opening : goal.decreases-opening
decreases-opening l = group_depth l.tree (seen_group l.group) - length l.plans.items
