use Rattle.std.proofs.Common.{arith}
use Rattle.net_graph.proofs.Tracing.{reg_count}
use Rattle.mux_test.proofs.detour.Detour.trace_own.Goals as goal

pub overflow_add-turn-end : goal.overflow_add-turn-end
overflow_add-turn-end c =
    omega (
      arith,
      reg_count c.args.net.now c.requires.well_formed,
      c.requires.well_formed.few_muxes,
      c.len.ensures,
      c.len-2.ensures,
    )
