-- The cells of a hierarchy go with the frames of the first pass, and their parts with the frames' members.
use Rattle.std.proofs.Common.{◌≡◌, ◌+◌, ℕ, List, [], ◌∷◌, map, Ok, refl, subst}
use Rattle.std.specs.Prelude.{zip}
use Rattle.std.specs.List.{enumerate_from}
use Rattle.icl_lexer.specs.Values.{SeenModule}
use Rattle.icl_declarations.specs.Ranges.{width}
use Rattle.icl_frames.specs.FirstPass.{Frame, first_pass}
use Rattle.icl_frames.specs.Written.{IsWrittenWhat}
use Rattle.icl_frames.proofs.Answering.{both, ok_is}
use Rattle.icl_frames.proofs.Paired.{Paired}
use Rattle.icl_references.specs.Names.{Here, here_of, Member, members}
use Rattle.icl_references.specs.Roles.{PartOf, CellOf, part_width}
use Rattle.icl_elab.specs.Bindings.{Bound}
use Rattle.icl_elab.specs.FoundParts.{Found, part_found}
use Rattle.icl_elab.specs.SecondPass.{cell_found, cells_of, second_pass}
use Rattle.icl_elab.specs.Hierarchy.{bindings_of, part_in, cell_in, put_together, hierarchy}
use Rattle.icl_elab.specs.WellFormed.{HasRows}
use Rattle.icl_elab.proofs.Wiring.{each_paired, all_true}
use Rattle.icl_elab.proofs.PartKinds.{IsOfKind, part_kind, bound_kind}
use Rattle.icl_elab.proofs.PartWords.{HasInner, AreWordsApart, part_worded, part_rows, bound_rows}
use Rattle.icl_elab.proofs.SoundValues.{AreSound}

-- a part is its member's: its name, its width and its kind
pub record IsPartOfMember (f : Frame) (m : Member) (p : PartOf) : Type 0 where
  pub name : p.name ≡ m.item.name
  pub wide : part_width p ≡ width m.bounds
  pub kind : IsOfKind m.item.what p.role
  pub words : HasInner f → AreWordsApart p.words
  pub rows : AreSound f.params → IsWrittenWhat m.item.what → HasRows p.role

-- a cell is its frame's
pub record IsCellOfFrame (f : Frame) (c : CellOf) : Type 0 where
  pub name : c.name ≡ f.name
  pub parent : c.parent ≡ f.parent
  pub parts : Paired (IsPartOfMember f) (members f) c.parts

module _ (frames : List Frame) where
  abbrev IsMemberFound : Here → Member → Found → Type 0
  IsMemberFound here m f = part_found frames here m ≡ Ok f

  abbrev IsCellFound : Here → List Found → Type 0
  IsCellFound here fs = Paired (IsMemberFound here) (members here.frame) fs

  cell_is : (here : Here) (fs : List Found) → cell_found frames here ≡ Ok fs → IsCellFound here fs
  unfolding cell_found
  cell_is here fs h =
      each_paired (part_found frames here) (λ m. Unit {0}) (IsMemberFound here) (λ m f q g. g)
      (members here.frame) fs (all_true frames (members here.frame)) h

  pass_is : (founds : List (List Found)) → second_pass frames ≡ Ok founds
      → Paired IsCellFound (cells_of frames) founds
  unfolding second_pass
  pass_is founds h =
      each_paired (cell_found frames) (λ here. Unit {0}) IsCellFound (λ here fs q g. cell_is here fs g)
      (cells_of frames) founds (all_true frames (cells_of frames)) h

  part_is : (here : Here) (bs : List Bound) (m : Member) (f : Found) → IsMemberFound here m f
      → IsPartOfMember here.frame m (part_in bs (m, f))
  part_is here bs m f h =
      let kind = part_kind frames here m f h in
      record {
        name = refl;
        wide = refl;
        kind = bound_kind bs m m.item.what f.role kind;
        words = λ inner. part_worded frames here inner m f h;
        rows = λ sound w. bound_rows bs m f.role (part_rows frames here sound m f w kind.1 h);
      }

  parts_are : (here : Here) (bs : List Bound) (ms : List Member) (fs : List Found)
      → Paired (IsMemberFound here) ms fs
      → Paired (IsPartOfMember here.frame) ms (map (part_in bs) (zip ms fs))
  parts_are here bs [] [] p = tt
  parts_are here bs [] (f ∷ fs) p = absurd p
  parts_are here bs (m ∷ ms) [] p = absurd p
  parts_are here bs (m ∷ ms) (f ∷ fs) p = (part_is here bs m f p.0, parts_are here bs ms fs p.1)

  cells_are : (founds : List (List Found)) (s : ℕ) (rest : List Frame) (fss : List (List Found))
      → Paired IsCellFound (map here_of (enumerate_from s rest)) fss
      → Paired IsCellOfFrame rest (map (cell_in founds) (zip (map here_of (enumerate_from s rest)) fss))
  cells_are founds s [] [] p = tt
  cells_are founds s [] (fs ∷ fss) p = absurd p
  cells_are founds s (f ∷ rest) [] p = absurd p
  cells_are founds s (f ∷ rest) (fs ∷ fss) p =
      let here : Here = record { number = s; frame = f } in (
        record {
          name = refl;
          parent = refl;
          parts = parts_are here (bindings_of founds s f.parent)
              (members f) fs p.0;
        },
        cells_are founds (s + 1) rest fss p.1,
      )

-- the frames that the cells go with
pub record AreOfFrames (blocks : List SeenModule) (top : List ℕ) (cells : List CellOf) : Type 0 where
  pub frames : List Frame
  pub entered : first_pass blocks top ≡ Ok frames
  pub paired : Paired IsCellOfFrame frames cells

pub cells_of_frames : (blocks : List SeenModule) (top : List ℕ) (cells : List CellOf)
    → hierarchy blocks top ≡ Ok cells
    → AreOfFrames blocks top cells
unfolding hierarchy
cells_of_frames blocks top cells h =
    let a = both (first_pass blocks top) _ cells h in
    let b = both (second_pass a.first) _ cells a.then' in
    let p = cells_are a.first b.first 0 a.first b.first (pass_is a.first b.first b.is) in
    record {
      frames = a.first;
      entered = a.is;
      paired = subst (Paired IsCellOfFrame a.first) (ok_is (put_together a.first b.first) cells b.then') p;
    }
