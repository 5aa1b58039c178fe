use Rattle.std.proofs.Common.{◌≡◌, ◌++◌, drop}
use Rattle.std.specs.Prelude.{flat_map}
use Rattle.path_planner.specs.Collecting.{row_writes}
use Rattle.path_planner.proofs.settling.push_rows.Given as goal

abbrev pub invariant-loop-row : goal.invariant-loop-row
invariant-loop-row l =
    l.writes.items ++ flat_map (row_writes l.net l.before l.path) (drop l.row-index l.rows)
    ≡ l.fn.writes.items ++ flat_map (row_writes l.net l.before l.path) l.rows
