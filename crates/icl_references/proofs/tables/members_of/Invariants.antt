use Rattle.std.proofs.Common.{◌≡◌, ◌≤◌, ◌++◌, map, drop}
use Rattle.icl_lexer.specs.Views.{seen_item}
use Rattle.icl_frames.specs.SeenFrames.{seen_frame}
use Rattle.icl_references.specs.Names.{members, members_from}
use Rattle.icl_references.specs.Tables.{seen_member}
use Rattle.icl_references.proofs.Members.{parts_in}
use Rattle.icl_references.proofs.tables.members_of.Given as goal

abbrev pub invariant-loop-item : goal.invariant-loop-item
invariant-loop-item l = record {
  few : l.part ≤ l.item-index;
  goes_on : map seen_member l.all.items
      ++ members_from l.part (parts_in (map seen_item (drop l.item-index l.frame.block.now.items.items)))
      (drop l.part l.frame.bounds.items) ≡ members (seen_frame l.frame);
}
