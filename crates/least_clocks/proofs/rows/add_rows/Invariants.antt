use Rattle.std.proofs.Common.{◌≡◌, drop}
use Rattle.std.specs.Prelude.{◌||◌}
use Rattle.net_graph.specs.declared.branch.Branch.{Branch}
use Rattle.least_clocks.specs.Inside.{is_one_of}
use Rattle.least_clocks.proofs.rows.add_rows.Given as goal

abbrev pub invariant-loop-row : goal.invariant-loop-row
invariant-loop-row l =
    (b : Branch) → (is_one_of l.rows.items b || is_one_of (drop l.row-index l.more) b)
    ≡ (is_one_of l.fn.rows.items b || is_one_of l.more b)
