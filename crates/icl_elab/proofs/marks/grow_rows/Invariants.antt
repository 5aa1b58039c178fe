use Rattle.std.proofs.Common.{◌≡◌, ◌-◌, ℕ, vec_len}
use Rattle.icl_elab.specs.Marks.{row_at}
use Rattle.icl_elab.proofs.marks.grow_rows.Given as goal

abbrev pub invariant-loop-alloc : goal.invariant-loop-alloc
invariant-loop-alloc l = (part : ℕ) → row_at l.rows.items part ≡ row_at l.fn.rows.items part

abbrev pub decreases-loop-alloc : goal.decreases-loop-alloc
decreases-loop-alloc l = l.len - vec_len l.rows
