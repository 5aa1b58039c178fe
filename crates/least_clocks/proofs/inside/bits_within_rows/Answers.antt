use Rattle.std.proofs.Common.{arith}
use Rattle.net_graph.proofs.Tracing.{reg_count}
use Rattle.least_clocks.proofs.inside.bits_within_rows.Goals as goal

pub returns-clause-few : goal.returns-clause-few
returns-clause-few c =
    omega (
      arith,
      reg_count c.args.net.now c.requires,
      c.register_count-reg-end.ensures,
      c.loop-reg.invariant.few,
      c.loop-reg.auto.reg-end,
    )
