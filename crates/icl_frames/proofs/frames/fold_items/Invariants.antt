use Rattle.std.proofs.Common.{◌≡◌, ◌≤◌, map, take, drop}
use Rattle.icl_lexer.specs.Views.{seen_item, seen_module}
use Rattle.icl_declarations.specs.Faults.{over}
use Rattle.icl_declarations.specs.Tables.{seen_table}
use Rattle.icl_frames.specs.FirstPass.{fold_item, nothing_passed}
use Rattle.icl_declarations.specs.Taken.{AreTaken}
use Rattle.icl_frames.specs.SeenFrames.{names_of, seen_passed}
use Rattle.icl_frames.proofs.frames.fold_items.Given as goal

abbrev pub invariant-loop-item : goal.invariant-loop-item
invariant-loop-item l = record {
  few : l.state.counts.bits ≤ 4096;
  taken : AreTaken l.state.taken (map seen_item (take l.item-index l.items));
  goes_on : over (fold_item (map seen_module l.modules) (names_of l.above) (seen_table l.params)) (seen_passed
      (map seen_item (take l.item-index l.items)) l.state) (map seen_item (drop l.item-index l.items))
      ≡ over (fold_item (map seen_module l.modules) (names_of l.above) (seen_table l.params))
      (nothing_passed l.fn.counts) (map seen_item l.items);
}
