use Rattle.std.proofs.Common.{◌≡◌, ◌+◌, ◌++◌, drop, length, map, vec_len}
use Rattle.std.specs.Prelude.{reverse}
use Rattle.icl_elab.specs.Placing.{made, seen_cell_ports}
use Rattle.icl_references.specs.Roles.{seen_cell}
use Rattle.icl_references.specs.Tables.{frames_of}
use Rattle.icl_elab.proofs.hierarchy.all_cells.Given as goal

abbrev pub invariant-loop-cell : goal.invariant-loop-cell
invariant-loop-cell l = record {
  long : l.here + length l.left.items ≡ length (frames_of l.tables);
  made : map seen_cell l.out.items ++ made (drop l.here (frames_of l.tables)) (reverse l.left.items)
      (map seen_cell_ports (reverse l.ports_left.items))
      ≡ made (frames_of l.tables) l.fn.cells.items (map seen_cell_ports l.fn.all.items);
}

abbrev pub decreases-loop-cell : goal.decreases-loop-cell
decreases-loop-cell l = vec_len l.left
