use Rattle.std.proofs.Common.{◌≡◌, map, take}
use Rattle.icl_frames.specs.SeenFrames.{seen_frame}
use Rattle.icl_references.specs.Tables.{AreCellTables, frames_in}
use Rattle.icl_references.proofs.tables.cell_tables.Given as goal

abbrev pub invariant-loop-frame : goal.invariant-loop-frame
invariant-loop-frame l = record {
  tables : AreCellTables l.cells.items;
  frames : frames_in l.cells.items ≡ map seen_frame (take l.frame-index l.frames);
}
