-- Rows around registers, and the last register that was looked up.
use Rattle.std.specs.Prelude.{◌≡◌, Bool, ◌||◌}
use Rattle.std.specs.Option.{IfSome}
use Rattle.std.specs.List.{list_any}
use Rattle.net_graph.specs.declared.branch.Branch.{Branch}
use Rattle.pdl_targets.specs.Rounds.{Places}
use Rattle.merge_order.specs.declared.around.RowsAround.{RowsAround}

-- the rows around the last register are among those that there are
abbrev pub HasLast : Places → RowsAround → Type 0
HasLast places a = IfSome a.last (λ r. (test : Branch → Bool)
    → (list_any test a.rows.items || list_any test (places r)) ≡ list_any test a.rows.items)
