use Rattle.std.proofs.Common.{◌≡◌, map, drop, take}
use Rattle.icl_declarations.specs.Faults.{each}
use Rattle.icl_declarations.proofs.Each.{more}
use Rattle.icl_elab.specs.FoundParts.{part_found}
use Rattle.icl_elab.specs.SeenCells.{head_of_member, head_of_placed, seen_placed}
use Rattle.icl_references.specs.Tables.{frames_of, here_in, seen_member}
use Rattle.icl_elab.proofs.pass.add_parts.Given as goal

abbrev pub invariant-loop-m : goal.invariant-loop-m
invariant-loop-m l = record {
  heads : map head_of_placed l.parts.items ≡ map head_of_member (map seen_member (take l.m-index l.members));
  goes_on : more (part_found (frames_of l.tables) (here_in l.tables l.here)) (map seen_placed l.parts.items)
      (map seen_member (drop l.m-index l.members))
      ≡ each (part_found (frames_of l.tables) (here_in l.tables l.here)) (map seen_member l.members);
}
