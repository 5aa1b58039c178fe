use Rattle.std.proofs.Common.{◌≡◌, ◌<◌, ◌≤◌, ℕ, get_or, Some, false}
use Rattle.ij_text.specs.Numbers.{tern_bits}
use Rattle.ij_text.proofs.fitting.is_wide_tern.Given as goal

abbrev pub invariant-loop-k : goal.invariant-loop-k
invariant-loop-k l = (j : ℕ) → l.width ≤ j → j < l.k → get_or (tern_bits l.t) j (Some false) ≡ Some false
