use Rattle.std.proofs.Common.{◌≡◌, ◌-◌, ℕ, vec_len}
use Rattle.pdl_targets.specs.Rows.{row_at}
use Rattle.merge_order.proofs.bit_sets.grow.Given as goal

abbrev pub invariant-loop-alloc : goal.invariant-loop-alloc
invariant-loop-alloc l = (pos : ℕ) → row_at l.sets.items pos ≡ row_at l.fn.sets.items pos

abbrev pub decreases-loop-alloc : goal.decreases-loop-alloc
decreases-loop-alloc l = l.len - vec_len l.sets
