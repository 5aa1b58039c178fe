use Rattle.std.proofs.Common.{◌==◌, ◌∙◌}
use Rattle.net_graph.specs.Path.{same_place}
use Rattle.merge_order.specs.Tables.{has_bit}
use Rattle.merge_order.proofs.Tabled.{any_step_there}
use Rattle.merge_order.proofs.bit_sets.BitSets.add_written.Goals as goal

pub loop-write-preserved : goal.loop-write-preserved
loop-write-preserved c = record {
  bits = λ b k.
      any_step_there (k == c.args.join) (λ w. same_place b w.bit) c.args.writes.now c.loop-write.write-index _
      (has_bit c.args.self.now b k) (has_bit c.loop-write.self b k) _
      c.loop-write-test.true (c.loop-write.invariant.bits b k) (c.in_ok-add.ensures.bits b k);
  closed = λ k. c.in_ok-add.ensures.closed k ∙ c.loop-write.invariant.closed k;
}
