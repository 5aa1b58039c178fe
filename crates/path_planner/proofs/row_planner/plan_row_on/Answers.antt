use Rattle.std.proofs.Common.{arith}
use Rattle.std.specs.Prelude.{map}
use Rattle.std.proofs.lemmas.List.{length-map}
use Rattle.net_tree.specs.ScanPlans.{seen_plan}
use Rattle.path_planner.proofs.RowPlans.{row_planned}
use Rattle.path_planner.proofs.row_planner.plan_row_on.Goals as goal

pub returns-clause-few : goal.returns-clause-few
returns-clause-few c =
    let net = c.args.net.now in
    let form = c.args.tree.now in
    let plans = map seen_plan c.push_on_route.new.plans.items in
    let all = row_planned net form c.args.branch c.args.now.now plans
    c.requires.can c.in_ok-push_on_route.ensures.plans in
    let shallow = (c.requires.can.lawful c.args.branch.mux c.requires.can.there.mux).shallow in
    omega (arith, all.few, shallow, length-map c.push_on_route.new.plans.items seen_plan)

pub returns-clause-planned : goal.returns-clause-planned
returns-clause-planned c =
    let net = c.args.net.now in
    let form = c.args.tree.now in
    let plans = map seen_plan c.push_on_route.new.plans.items in
    row_planned net form c.args.branch c.args.now.now plans c.requires.can c.in_ok-push_on_route.ensures.plans
