use Rattle.std.specs.List.{list_any}
use Rattle.pdl_targets.specs.SeenPlaces.{places_in}
use Rattle.merge_order.proofs.Arounds.{around_step}
use Rattle.merge_order.proofs.around.RowsAround.add_read.Goals as goal

pub loop-read-preserved : goal.loop-read-preserved
loop-read-preserved c = record {
  rows = λ test.
      around_step (λ r. places_in c.args.tree.now r.bit.reg) c.args.reads.now c.loop-read.read-index _ test
      (list_any test c.args.self.now.rows.items) (list_any test c.loop-read.self.rows.items) _
      c.loop-read-test.true (c.loop-read.invariant.rows test) (c.in_ok-add.ensures.rows test);
  last = c.in_ok-add.ensures.last;
}
