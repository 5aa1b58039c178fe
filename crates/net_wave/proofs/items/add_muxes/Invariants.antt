use Rattle.std.proofs.Common.{◌≡◌, ◌++◌}
use Rattle.net_wave.specs.Vars.{up_to, mux_item}
use Rattle.net_wave.proofs.items.add_muxes.Given as goal

abbrev pub invariant-loop-mux : goal.invariant-loop-mux
invariant-loop-mux l = l.items.items ≡ l.fn.items.items ++ up_to (mux_item l.net l.node) l.mux
