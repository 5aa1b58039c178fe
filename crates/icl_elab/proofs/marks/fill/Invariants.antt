use Rattle.std.proofs.Common.{◌≡◌, ◌+◌, ℕ, nat_le, nat_lt, ◌&&◌, cond, Some, None}
use Rattle.ij_text.specs.Options.{or_else}
use Rattle.icl_elab.specs.Marks.{mark_at}
use Rattle.icl_elab.proofs.marks.fill.Given as goal

abbrev pub invariant-loop-k : goal.invariant-loop-k
invariant-loop-k l = (pos : ℕ) → mark_at l.numbers pos ≡ or_else (mark_at l.fn.numbers pos)
    (cond (nat_le l.low pos && nat_lt pos (l.low + l.k)) (Some l.number) None)
