use Rattle.std.proofs.Common.{◌+◌, drop, get_or, sym, ap, ◌∙◌}
use Rattle.std.specs.Prelude.{◌||◌}
use Rattle.std.specs.List.{list_any}
use Rattle.net_graph.specs.Path.{same_place}
use Rattle.net_graph.specs.MarkedSelects.{is_marked}
use Rattle.net_graph.proofs.MarkedSelecting.{first_bit, next_bit, one_bit_more}
use Rattle.net_graph.proofs.select_table.mark_all.Goals as goal

pub mark_one-requires : goal.mark_one-requires
mark_one-requires c = c.loop-bit.invariant.there (get_or c.args.bits.now c.loop-bit.bit-index first_bit)
    (c.requires c.loop-bit.bit-index first_bit c.loop-bit-test.true)

pub loop-bit-preserved : goal.loop-bit-preserved
loop-bit-preserved c =
    let bits = c.args.bits.now in
    let i = c.loop-bit.bit-index in
    record {
      marked = λ b.
          one_bit_more (get_or bits i first_bit) b (drop (i + 1) bits)
          (is_marked c.loop-bit.marks b) (is_marked c.mark_one.new.marks b)
          (list_any (same_place b) bits || is_marked c.args.marks.now b)
          (ap (λ l. list_any (same_place b) l || is_marked c.loop-bit.marks b)
          (sym (next_bit bits i c.loop-bit-test.true)) ∙ c.loop-bit.invariant.marked b)
          (c.mark_one.ensures.marked b);
      there = λ b h. c.mark_one.ensures.there b (c.loop-bit.invariant.there b h);
    }
