-- What is left to judge leads to what the whole test says.
use Rattle.std.proofs.Common.{◌≡◌, drop}
use Rattle.std.specs.Prelude.{map, All, IsFalse}
use Rattle.net_graph.specs.Resets.{start_holds}
use Rattle.path_planner.specs.Planning.{IsBranchOf}
use Rattle.mux_test.specs.Judged.{judged_row, judged_rows}
use Rattle.mux_test.specs.Judging.{HasJudgeRoom}
use Rattle.mux_test.specs.Planned.{AreFlushable, holds_after, seen_planned}
use Rattle.mux_test.specs.Seen.{begins}
use Rattle.mux_test.proofs.judge.judge_scans.Given as goal

abbrev pub invariant-loop-scan : goal.invariant-loop-scan
invariant-loop-scan l =
    let left = map seen_planned (drop l.scan-index l.scans) in
    record {
      can : AreFlushable l.net l.holds left;
      judged : judged_rows l.net (begins l.holds (holds_after l.holds left)) l.rows.items
          ≡ judged_rows l.net (begins (start_holds l.net)
          (holds_after (start_holds l.net) (map seen_planned l.scans))) l.fn.rows.items;
      there : All (λ r. IsBranchOf l.net r.branch) l.rows.items;
      alike : IsFalse l.changed → map (judged_row l.net l.holds) l.rows.items ≡ l.rows.items;
      room : HasJudgeRoom l.net l.judge;
    }
