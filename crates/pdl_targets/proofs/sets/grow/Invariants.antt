use Rattle.std.proofs.Common.{◌≡◌, ◌-◌, ℕ, get_or, vec_len}
use Rattle.pdl_targets.proofs.sets.grow.Given as goal

abbrev pub invariant-loop-words : goal.invariant-loop-words
invariant-loop-words l = (w : ℕ) → get_or l.words.items w 0 ≡ get_or l.fn.words.items w 0

abbrev pub decreases-loop-words : goal.decreases-loop-words
decreases-loop-words l = l.len - vec_len l.words
