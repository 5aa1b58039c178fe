use Rattle.std.proofs.Common.{◌≡◌, drop}
use Rattle.std.specs.Prelude.{◌||◌}
use Rattle.net_graph.specs.declared.branch.Branch.{Branch}
use Rattle.least_clocks.specs.Inside.{is_one_of}
use Rattle.least_clocks.proofs.Adding.{read_rows}
use Rattle.least_clocks.proofs.rows.add_read.Given as goal

abbrev pub invariant-loop-read : goal.invariant-loop-read
invariant-loop-read l =
    (b : Branch) → (is_one_of l.rows.items b || is_one_of (read_rows l.tree (drop l.read-index l.reads)) b)
    ≡ (is_one_of l.fn.rows.items b || is_one_of (read_rows l.tree l.reads) b)
