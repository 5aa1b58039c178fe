use Rattle.std.specs.List.{list_any}
use Rattle.pdl_targets.specs.SeenPlaces.{places_in}
use Rattle.merge_order.proofs.Arounds.{around_step}
use Rattle.merge_order.proofs.around.RowsAround.add_written.Goals as goal

pub loop-write-preserved : goal.loop-write-preserved
loop-write-preserved c = record {
  rows = λ test.
      around_step (λ w. places_in c.args.tree.now w.bit.reg) c.args.writes.now c.loop-write.write-index _ test
      (list_any test c.args.self.now.rows.items) (list_any test c.loop-write.self.rows.items) _
      c.loop-write-test.true (c.loop-write.invariant.rows test) (c.in_ok-add.ensures.rows test);
  last = c.in_ok-add.ensures.last;
}
