use Rattle.std.proofs.Common.{◌≡◌, ◌++◌, drop}
use Rattle.mux_test.specs.Test.{row_branches}
use Rattle.mux_test.proofs.planned.push_rows.Given as goal

abbrev pub invariant-loop-row : goal.invariant-loop-row
invariant-loop-row l =
    l.branches.items ++ row_branches l.mux l.row (drop l.row l.rows)
    ≡ l.fn.branches.items ++ row_branches l.mux 0 l.rows
