use Rattle.std.proofs.Common.{arith}
use Rattle.net_graph.proofs.Tracing.{reg_count, route_fits}
use Rattle.least_clocks.proofs.first.bits_along.Goals as goal

pub overflow_add-bits : goal.overflow_add-bits
overflow_add-bits c =
    omega (
      arith,
      reg_count c.args.net.now c.requires.net,
      route_fits _ c.args.path.now c.requires.route,
      c.loop-i.invariant.few,
      c.loop-i-test.true,
    )

pub returns-clause-few : goal.returns-clause-few
returns-clause-few c =
    omega (
      arith,
      reg_count c.args.net.now c.requires.net,
      route_fits _ c.args.path.now c.requires.route,
      c.loop-i.invariant.few,
      c.loop-i.auto.i-end,
    )
