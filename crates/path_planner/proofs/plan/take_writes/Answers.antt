use Rattle.std.proofs.Common.{refl}
use Rattle.net_graph.proofs.Widths.{held_same, next_widths}
use Rattle.path_planner.proofs.Advancing.{next_rest}
use Rattle.path_planner.proofs.plan.take_writes.Goals as goal

pub set-requires : goal.set-requires
set-requires c =
    held_same c.args.holds.now c.loop-w.holds _ c.loop-w.invariant.widths
    (c.requires c.loop-w.w-index _ c.loop-w-test.true)

pub loop-w-preserved : goal.loop-w-preserved
loop-w-preserved c = record {
  rest = next_rest c.loop-w.holds c.set.new.self _ c.args.writes.now c.args.writes.now c.loop-w.w-index _
      refl c.loop-w-test.true c.loop-w.invariant.rest c.set.ensures;
  widths =
      next_widths c.loop-w.holds c.set.new.self c.args.holds.now _ c.loop-w.invariant.widths c.set.ensures;
}
