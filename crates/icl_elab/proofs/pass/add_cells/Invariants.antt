use Rattle.std.proofs.Common.{◌≡◌, map, drop, take}
use Rattle.icl_declarations.specs.Faults.{each}
use Rattle.icl_declarations.proofs.Each.{more}
use Rattle.icl_elab.specs.SecondPass.{cell_found, cells_of}
use Rattle.icl_elab.specs.SeenCells.{heads_of_cells, heads_of_frame, seen_pass}
use Rattle.icl_references.specs.Tables.{frames_of}
use Rattle.icl_elab.proofs.pass.add_cells.Given as goal

abbrev pub invariant-loop-here : goal.invariant-loop-here
invariant-loop-here l = record {
  heads : heads_of_cells l.cells.items ≡ map heads_of_frame (take l.here (frames_of l.tables));
  goes_on : more (cell_found (frames_of l.tables)) (seen_pass l.cells.items)
      (drop l.here (cells_of (frames_of l.tables)))
      ≡ each (cell_found (frames_of l.tables)) (cells_of (frames_of l.tables));
}
