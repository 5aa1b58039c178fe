use Rattle.std.proofs.Common.{◌≡◌, ◌++◌, drop}
use Rattle.mux_test.specs.Judged.{untold_rows}
use Rattle.mux_test.proofs.judge.untold_rows.Given as goal

abbrev pub invariant-loop-row : goal.invariant-loop-row
invariant-loop-row l = l.untold.items ++ untold_rows (drop l.row-index l.rows) ≡ untold_rows l.rows
