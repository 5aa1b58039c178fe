use Rattle.std.proofs.Common.{◌≡◌, List, ap, ◌∙◌, subst}
use Rattle.std.specs.Prelude.{map, IfOk}
use Rattle.net_graph.specs.declared.branch.Branch.{Branch}
use Rattle.net_graph.specs.Resets.{start_holds}
use Rattle.mux_test.specs.Judged.{judged_rows, untold_rows}
use Rattle.mux_test.specs.Planned.{holds_after, seen_planned}
use Rattle.mux_test.specs.Seen.{begins}
use Rattle.mux_test.proofs.Judged.{all_open, judged_is}
use Rattle.mux_test.proofs.judge.unseen_rows.Goals as goal

pub judge_scans-requires-clause-rows : goal.judge_scans-requires-clause-rows
judge_scans-requires-clause-rows c =
    all_open c.args.net.now c.args.branches.now c.in_ok-rows.rows.items
    c.in_ok-rows.ensures c.requires.branches

pub returns : goal.returns
returns c =
    let net = c.args.net.now in
    let hs = begins (start_holds net) (holds_after (start_holds net) (map seen_planned c.args.scans.now)) in
    subst (λ (z : List Branch). IfOk c.untold_rows.result (λ l. l.items ≡ z)) (ap untold_rows
    (c.as_slice.ensures ∙ c.in_ok-judge_scans.ensures ∙ ap (judged_rows net hs) c.in_ok-rows.ensures)
    ∙ judged_is net c.args.branches.now hs) c.untold_rows.ensures
