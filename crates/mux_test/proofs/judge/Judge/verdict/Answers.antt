use Rattle.std.proofs.Common.{refl, ap}
use Rattle.std.specs.Prelude.{is_some}
use Rattle.net_graph.specs.Path.{route_of}
use Rattle.net_graph.specs.Stuck.{stuck_route}
use Rattle.net_graph.proofs.Stuck.{stuck_in_row, stuck_unmet}
use Rattle.path_planner.proofs.Step.{has_path}
use Rattle.mux_test.proofs.Judged.{says_nothing}
use Rattle.mux_test.proofs.judge.Judge.verdict.Goals as goal

pub returns-then-is_passed-clause-verdict : goal.returns-then-is_passed-clause-verdict
returns-then-is_passed-clause-verdict c =
    let net = c.args.net.now in
    let h = c.args.holds.now in
    says_nothing h (route_of net h) (stuck_route net c.args.row h)
    (stuck_in_row net c.args.row h (c.if-is_passed.ensures refl))

pub returns-then-not-is_on_path-clause-verdict : goal.returns-then-not-is_on_path-clause-verdict
returns-then-not-is_on_path-clause-verdict c =
    let net = c.args.net.now in
    let h = c.args.holds.now in
    says_nothing h (route_of net h) (stuck_route net c.args.row h)
    (stuck_unmet net c.args.row h (c.if-not-is_on_path.ensures.unmet refl))

pub verdict_at_join-requires-clause-path : goal.verdict_at_join-requires-clause-path
verdict_at_join-requires-clause-path c =
    let t = c.requires.testable in
    let (path, e) = has_path c.args.net.now c.args.tree.now t.well_formed t.describes t.lawful
    c.args.holds.now c.requires.scannable in
    ap is_some e
