use Rattle.std.proofs.Common.{◌≡◌, drop}
use Rattle.std.specs.List.{list_all}
use Rattle.path_planner.specs.Settling.{is_in_row}
use Rattle.mux_test.proofs.judge.are_in_rows.Given as goal

abbrev pub invariant-loop-row : goal.invariant-loop-row
invariant-loop-row l =
    list_all (is_in_row l.net l.holds) (drop l.row-index l.place) ≡ list_all (is_in_row l.net l.holds) l.place
