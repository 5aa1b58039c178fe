use Rattle.std.proofs.Common.{◌≡◌, ◌-◌, ℕ, vec_len}
use Rattle.merge_order.specs.Tables.{sets_of}
use Rattle.merge_order.proofs.bit_sets.grow_regs.Given as goal

abbrev pub invariant-loop-alloc : goal.invariant-loop-alloc
invariant-loop-alloc l = (reg : ℕ) → sets_of l.regs.items reg ≡ sets_of l.fn.regs.items reg

abbrev pub decreases-loop-alloc : goal.decreases-loop-alloc
decreases-loop-alloc l = l.len - vec_len l.regs
