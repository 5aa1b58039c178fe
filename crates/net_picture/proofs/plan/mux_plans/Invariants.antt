use Rattle.std.proofs.Common.{◌≡◌}
use Rattle.std.specs.Prelude.{map}
use Rattle.std.specs.List.{range_with_len}
use Rattle.net_picture.specs.Plan.{mux_plan}
use Rattle.net_picture.proofs.plan.mux_plans.Given as goal

abbrev pub invariant-loop-mux : goal.invariant-loop-mux
invariant-loop-mux l = l.muxes.items ≡ map (mux_plan l.net l.holds) (range_with_len 0 l.mux)
