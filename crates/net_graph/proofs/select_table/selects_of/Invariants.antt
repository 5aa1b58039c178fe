use Rattle.std.proofs.Common.{◌≡◌, drop}
use Rattle.std.specs.Prelude.{◌||◌, flat_map}
use Rattle.std.specs.List.{list_any}
use Rattle.net_graph.specs.declared.net.BitId.{BitId}
use Rattle.net_graph.specs.Path.{is_select, same_place}
use Rattle.net_graph.specs.Marks.{HasMark, zero_marks}
use Rattle.net_graph.specs.MarkedSelects.{is_marked}
use Rattle.net_graph.proofs.select_table.selects_of.Given as goal

abbrev pub invariant-loop-mux : goal.invariant-loop-mux
invariant-loop-mux l = record {
  marked : (b : BitId)
      → (list_any (same_place b) (flat_map (λ mux. mux.select.items) (drop l.mux-index l.mux-items)) ||
      is_marked l.marks b) ≡ is_select l.net b;
  there : (b : BitId) → HasMark (zero_marks l.net) b → HasMark l.marks b;
}
