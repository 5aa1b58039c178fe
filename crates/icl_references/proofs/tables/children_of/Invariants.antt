use Rattle.std.proofs.Common.{◌≡◌, length, map, take}
use Rattle.icl_frames.specs.SeenFrames.{seen_frame}
use Rattle.icl_references.specs.Tables.{AreAllChildren}
use Rattle.icl_references.proofs.tables.children_of.Given as goal

abbrev pub invariant-loop-frame : goal.invariant-loop-frame
invariant-loop-frame l = record {
  counted : l.number ≡ l.frame-index;
  long : length l.all.items ≡ length l.frames;
  so_far : AreAllChildren (map seen_frame (take l.frame-index l.frames)) l.all.items;
}
