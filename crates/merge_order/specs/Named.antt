-- What the joins of a turn name, in tables.
use Rattle.std.specs.Prelude.{◌≡◌, ℕ, Bool, ◌||◌, List}
use Rattle.std.specs.List.{list_any}
use Rattle.net_graph.specs.declared.branch.Branch.{Branch}
use Rattle.net_graph.specs.declared.net.BitId.{BitId}
use Rattle.net_graph.specs.SeenSteps.{SeenGroup}
use Rattle.pdl_targets.specs.Rounds.{Places, exclude}
use Rattle.pdl_targets.specs.Rows.{excluded_at}
use Rattle.merge_order.specs.declared.named.Named.{Named}
use Rattle.merge_order.specs.Insertion.{is_closed, join_at, open_round}
use Rattle.merge_order.specs.Merge.{names}
use Rattle.merge_order.specs.Tables.{has_bit, is_shut, names_one, rows_around}

-- the tables say which joins are closed, and what the others name
pub record Tells (places : Places) (t : Named) (joins : List (List SeenGroup)) : Type 0 where
  pub closed : (k : ℕ) → is_shut t.bits k ≡ is_closed (join_at joins k)
  pub bits : (k : ℕ) (b : BitId) → has_bit t.bits b k ≡ names (open_round (join_at joins k)) b
  pub rows : (k : ℕ) (b : Branch) → excluded_at t.rows b k
      ≡ list_any (λ a. exclude a b) (rows_around places (open_round (join_at joins k)))

-- the tables say that a join can't take a round with these rows around it
abbrev pub refuses : Named → SeenGroup → List Branch → ℕ → Bool
refuses t h around k =
    (is_shut t.bits k || names_one t.bits h k) || list_any (λ b. excluded_at t.rows b k) around
