-- What the second pass gives, without where it lies in memory, and what each part has in common with its
-- member.
use Rattle.std.specs.Prelude.{ℕ, List, map}
use Rattle.ij_text.specs.declared.Place.{Place}
use Rattle.icl_frames.specs.FirstPass.{Frame}
use Rattle.icl_references.specs.Names.{Member, members}
use Rattle.icl_references.specs.Roles.{seen_body}
use Rattle.icl_elab.specs.FoundParts.{Found}
use Rattle.icl_elab.specs.SeenParts.{seen_words}
use Rattle.icl_elab.specs.declared.pass.Placed.{Placed}
use Rattle.icl_elab.specs.declared.pass.CellParts.{CellParts}

-- what is found at a part that is in its cell
abbrev pub seen_placed : Placed → Found
seen_placed p = record { role = seen_body p.part.body; words = seen_words p.part.words; bound = p.bound }

-- ---- what a part has in common with its member

pub record PartHead : Type 0 where
  pub number : ℕ
  pub name : List ℕ
  pub at : Place
  pub left : ℕ
  pub right : ℕ

abbrev pub head_of_member : Member → PartHead
head_of_member m = record {
  number = m.part;
  name = m.item.name;
  at = m.item.at;
  left = m.bounds.left;
  right = m.bounds.right;
}

abbrev pub head_of_placed : Placed → PartHead
head_of_placed p = record {
  number = p.number;
  name = p.part.name.items;
  at = p.part.at;
  left = p.part.left;
  right = p.part.right;
}

abbrev pub heads_of_frame : Frame → List PartHead
heads_of_frame f = map head_of_member (members f)

-- ---- cells

abbrev pub seen_cell_parts : CellParts → List Found
seen_cell_parts c = map seen_placed c.parts.items

abbrev pub seen_pass : List CellParts → List (List Found)
seen_pass cells = map seen_cell_parts cells

abbrev pub heads_of_cell : CellParts → List PartHead
heads_of_cell c = map head_of_placed c.parts.items

abbrev pub heads_of_cells : List CellParts → List (List PartHead)
heads_of_cells cells = map heads_of_cell cells
