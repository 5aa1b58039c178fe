use Rattle.std.proofs.Common.{◌≡◌, ℕ, ◌==◌, take}
use Rattle.std.specs.Prelude.{◌&&◌, ◌||◌}
use Rattle.std.specs.List.{list_any}
use Rattle.net_graph.specs.declared.branch.Branch.{Branch}
use Rattle.pdl_targets.specs.Rows.{exclude, excluded_at}
use Rattle.pdl_targets.proofs.rows.RowSets.add_all.Given as goal

abbrev pub invariant-loop-branch : goal.invariant-loop-branch
invariant-loop-branch l = (b : Branch) (k : ℕ)
    → excluded_at l.self b k ≡ ((k == l.round && list_any (λ a. exclude a b) (take l.branch-index l.branches))
    || excluded_at l.fn.self b k)
