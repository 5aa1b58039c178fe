-- What a name is found at in the tables of a cell.
use Rattle.std.proofs.Common.{◌≡◌, ◌<◌, ℕ, List, length, map, get_or, Option, Some, None, Ok, Err, sym, ap}
use Rattle.std.proofs.Common.{subst, ◌∙◌, arith}
use Rattle.std.proofs.lemmas.List.{get_or-map, length-map}
use Rattle.ij_text.specs.declared.Place.{Place}
use Rattle.icl_lexer.specs.Values.{SeenItem}
use Rattle.icl_lexer.specs.Views.{seen_item}
use Rattle.icl_declarations.specs.Faults.{NoName}
use Rattle.icl_frames.specs.FirstPass.{Frame}
use Rattle.icl_declarations.specs.Parts.{is_signal}
use Rattle.icl_declarations.specs.Scopes.{entry_of}
use Rattle.icl_frames.specs.SeenFrames.{seen_frame}
use Rattle.icl_references.specs.declared.tables.Member.{Member as MemberAt}
use Rattle.icl_references.specs.declared.tables.CellTable.{CellTable}
use Rattle.icl_references.specs.declared.tables.Tables.{Tables}
use Rattle.icl_references.specs.Names.{Member, members, member_that, known_member, named}
use Rattle.icl_references.specs.Tables.{IsCellTable, IsHere, here_in, no_frame, seen_member}
use Rattle.icl_references.proofs.Members.{Finds, IsFound, finds}
use Rattle.icl_references.proofs.Targets.{member_there}
use Rattle.std.proofs.lemmas.Option.{slice_get_within}

module _ (t : Tables) (cell : ℕ) (c : CellTable) (h : IsHere t cell)
    (e : c ≡ get_or t.cells.items cell c) where
  pub frame_is : (here_in t cell).frame ≡ seen_frame c.frame.now
  frame_is = get_or-map (λ (x : CellTable). seen_frame x.frame.now) t.cells.items cell c no_frame h.there
      ∙ ap (λ (x : CellTable). seen_frame x.frame.now) (sym e)

module _ (c : CellTable) (table : IsCellTable c) (at : Place) (name : List ℕ) where
  abbrev frame : Frame
  frame = seen_frame c.frame.now

  abbrev items : List SeenItem
  items = map seen_item c.frame.now.block.now.items.items

  pub record IsNamed (part : ℕ) : Type 0 where
    pub there : part < length c.members.items
    pub is : (m : MemberAt) → m ≡ get_or c.members.items part m
        → member_that is_signal frame name ≡ Some (seen_member m)

  long : length c.members.items ≡ length (members frame)
  long = sym (length-map c.members.items seen_member) ∙ ap length table.parts

  found : (part : ℕ) → IsFound (member_that is_signal frame name) (members frame) 0 part → IsNamed part
  found part f =
      let same = f.number in
      let inside = f.there in
      let there : part < length c.members.items = let l = long in omega (arith, same, inside, l) in
      record {
        there = there;
        is = λ m is.
            f.is (seen_member m)
            ∙ ap (λ (l : List Member). Some (get_or l f.place (seen_member m))) (sym table.parts)
            ∙ ap (λ n. Some (get_or (map seen_member c.members.items) n (seen_member m)))
            (let p : f.place ≡ part = omega (arith, same) in p)
            ∙ ap (λ x. Some x) (get_or-map seen_member c.members.items part m (seen_member m) there
            ∙ ap seen_member (sym is));
      }

  looked_up : (k : Option ℕ) → entry_of c.names name ≡ k
      → Finds k (member_that is_signal frame name) (members frame) 0
  looked_up k is =
      let P : Option ℕ → Type 0 = λ o. Finds o (member_that is_signal frame name) (members frame) 0 in
      subst P (sym (table.names name) ∙ is) (finds name 0 items c.frame.now.bounds.items)

  pub named_is : (part : ℕ) → entry_of c.names name ≡ Some part → IsNamed part
  named_is part is = found part (looked_up (Some part) is)

  pub named_ok : (part : ℕ) (m : MemberAt) → entry_of c.names name ≡ Some part
      → m ≡ get_or c.members.items part m → named frame at name ≡ Ok (seen_member m)
  named_ok part m is at' = ap (known_member at name) ((named_is part is).is m at')

  pub named_below : (part : ℕ) (m : MemberAt) → entry_of c.names name ≡ Some part
      → m ≡ get_or c.members.items part m → m.part < length (members frame)
  named_below part m is at' = slice_get_within (members frame) m.part (seen_member m)
      (member_there is_signal frame name (seen_member m) ((named_is part is).is m at'))

  pub unnamed : entry_of c.names name ≡ None → named frame at name ≡ Err (NoName at name)
  unnamed is = ap (known_member at name) (looked_up None is)
