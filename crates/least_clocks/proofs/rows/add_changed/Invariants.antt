use Rattle.std.proofs.Common.{◌≡◌, drop}
use Rattle.std.specs.Prelude.{◌||◌}
use Rattle.net_graph.specs.declared.branch.Branch.{Branch}
use Rattle.least_clocks.specs.Inside.{is_one_of}
use Rattle.least_clocks.proofs.Adding.{changed_rows}
use Rattle.least_clocks.proofs.rows.add_changed.Given as goal

abbrev pub invariant-loop-write : goal.invariant-loop-write
invariant-loop-write l =
    (b : Branch) → (is_one_of l.rows.items b || is_one_of
    (changed_rows l.tree l.holds (drop l.write-index l.writes)) b)
    ≡ (is_one_of l.fn.rows.items b || is_one_of (changed_rows l.tree l.holds l.writes) b)
