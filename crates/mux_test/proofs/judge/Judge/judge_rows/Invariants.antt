-- The rows so far are judged, and the others are as they were.
use Rattle.std.proofs.Common.{◌≡◌, ◌++◌, drop}
use Rattle.std.specs.Prelude.{All, map, take}
use Rattle.path_planner.specs.Planning.{IsBranchOf}
use Rattle.mux_test.specs.Judged.{judged_row}
use Rattle.mux_test.specs.Judging.{IsReady}
use Rattle.mux_test.proofs.judge.Judge.judge_rows.Given as goal

abbrev pub invariant-loop-i : goal.invariant-loop-i
invariant-loop-i l =
    record {
      rows : l.rows.items
          ≡ map (judged_row l.net l.holds) (take l.i l.fn.rows.items) ++ drop l.i l.fn.rows.items;
      there : All (λ r. IsBranchOf l.net r.branch) l.rows.items;
      ready : IsReady l.net l.holds l.self;
    }
