use Rattle.std.proofs.Common.{◌≡◌, ◌-◌, ℕ, vec_len}
use Rattle.icl_elab.specs.Marks.{mark_at}
use Rattle.icl_elab.proofs.marks.grow.Given as goal

abbrev pub invariant-loop-numbers : goal.invariant-loop-numbers
invariant-loop-numbers l = (pos : ℕ) → mark_at l.numbers.items pos ≡ mark_at l.fn.numbers.items pos

abbrev pub decreases-loop-numbers : goal.decreases-loop-numbers
decreases-loop-numbers l = l.len - vec_len l.numbers
