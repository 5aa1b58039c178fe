use Rattle.std.proofs.Common.{◌≡◌, ℕ, None, length}
use Rattle.icl_elab.specs.Placing.{home_at}
use Rattle.icl_elab.proofs.hierarchy.no_homes.Given as goal

abbrev pub invariant-loop-k : goal.invariant-loop-k
invariant-loop-k l = record {
  long : length l.homes.items ≡ l._k;
  none : (c : ℕ) → home_at l.homes.items c ≡ None;
}
