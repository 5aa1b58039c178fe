use Rattle.std.proofs.Common.{◌≡◌, ◌-◌, ℕ, vec_len}
use Rattle.pdl_targets.specs.Rows.{row_at}
use Rattle.pdl_targets.proofs.mux_rounds.grow.Given as goal

abbrev pub invariant-loop-alloc : goal.invariant-loop-alloc
invariant-loop-alloc l = (row : ℕ) → row_at l.rows.items row ≡ row_at l.fn.rows.items row

abbrev pub decreases-loop-alloc : goal.decreases-loop-alloc
decreases-loop-alloc l = l.len - vec_len l.rows
