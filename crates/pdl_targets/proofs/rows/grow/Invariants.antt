use Rattle.std.proofs.Common.{◌≡◌, ◌-◌, ℕ, vec_len}
use Rattle.pdl_targets.specs.Rows.{mux_at}
use Rattle.pdl_targets.proofs.rows.grow.Given as goal

abbrev pub invariant-loop-alloc : goal.invariant-loop-alloc
invariant-loop-alloc l = (mux : ℕ) → mux_at l.muxes.items mux ≡ mux_at l.fn.muxes.items mux

abbrev pub decreases-loop-alloc : goal.decreases-loop-alloc
decreases-loop-alloc l = l.len - vec_len l.muxes
