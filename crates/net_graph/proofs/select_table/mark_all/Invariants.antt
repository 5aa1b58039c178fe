use Rattle.std.proofs.Common.{◌≡◌, drop}
use Rattle.std.specs.Prelude.{◌||◌}
use Rattle.std.specs.List.{list_any}
use Rattle.net_graph.specs.declared.net.BitId.{BitId}
use Rattle.net_graph.specs.Path.{same_place}
use Rattle.net_graph.specs.Marks.{HasMark}
use Rattle.net_graph.specs.MarkedSelects.{is_marked}
use Rattle.net_graph.proofs.select_table.mark_all.Given as goal

abbrev pub invariant-loop-bit : goal.invariant-loop-bit
invariant-loop-bit l = record {
  marked : (b : BitId) → (list_any (same_place b) (drop l.bit-index l.bits) || is_marked l.marks b)
      ≡ (list_any (same_place b) l.bits || is_marked l.fn.marks b);
  there : (b : BitId) → HasMark l.fn.marks b → HasMark l.marks b;
}
