use Rattle.std.proofs.Common.{◌≡◌, ℕ, ◌<◌, ◌*◌, true}
use Rattle.std.specs.List.{list_any}
use Rattle.pdl_targets.specs.Rows.{excluded_at}
use Rattle.pdl_targets.proofs.rows.RowSets.first_open_round.Given as goal

abbrev pub invariant-loop-w : goal.invariant-loop-w
invariant-loop-w l = (j : ℕ) → j < 64 * l.w → list_any (λ b. excluded_at l.self b j) l.branches ≡ true
