use Rattle.std.proofs.Common.{◌==◌, ◌∙◌}
use Rattle.net_graph.specs.Path.{same_place}
use Rattle.merge_order.specs.Tables.{has_bit}
use Rattle.merge_order.proofs.Tabled.{any_step_there}
use Rattle.merge_order.proofs.bit_sets.BitSets.add_read.Goals as goal

pub loop-read-preserved : goal.loop-read-preserved
loop-read-preserved c = record {
  bits = λ b k.
      any_step_there (k == c.args.join) (λ r. same_place b r.bit) c.args.reads.now c.loop-read.read-index _
      (has_bit c.args.self.now b k) (has_bit c.loop-read.self b k) _
      c.loop-read-test.true (c.loop-read.invariant.bits b k) (c.in_ok-add.ensures.bits b k);
  closed = λ k. c.in_ok-add.ensures.closed k ∙ c.loop-read.invariant.closed k;
}
