use Rattle.std.proofs.Common.{◌≡◌, ◌+◌, ◌≤◌, length}
use Rattle.std.specs.Prelude.{map, take}
use Rattle.mux_test.specs.Judged.{open_row}
use Rattle.mux_test.proofs.judge.open_rows.Given as goal

abbrev pub invariant-loop-branch : goal.invariant-loop-branch
invariant-loop-branch l =
    record {
      rows : l.rows.items ≡ map open_row (take l.branch-index l.branches);
      room : length l.branches ≤ l.branch-index + l.rows.spare;
    }
