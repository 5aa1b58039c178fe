-- The hierarchy has the cells that were entered.
use Rattle.std.proofs.Common.{◌≡◌, ◌+◌, ℕ, List, [], ◌∷◌, map, refl, sym, ap, ◌∙◌}
use Rattle.std.specs.Prelude.{zip}
use Rattle.std.specs.List.{enumerate_from}
use Rattle.icl_frames.specs.FirstPass.{Frame, first_pass}
use Rattle.icl_frames.proofs.Answering.{both, ok_is}
use Rattle.icl_frames.proofs.Paired.{Paired}
use Rattle.icl_frames.proofs.Entering.{frames_are_preorder}
use Rattle.icl_references.specs.Names.{here_of}
use Rattle.icl_elab.specs.FoundParts.{Found}
use Rattle.icl_elab.specs.SecondPass.{second_pass}
use Rattle.icl_elab.specs.Hierarchy.{cell_in, put_together, hierarchy}
use Rattle.icl_elab.specs.Preorder.{Head, head_of_frame, head_of_cell, HierarchiesArePreorder}
use Rattle.icl_elab.proofs.Wiring.{IsCellFound, pass_good}

same_heads : (frames rest : List Frame) (founds fss : List (List Found)) (s : ℕ)
    → Paired (IsCellFound frames) (map here_of (enumerate_from s rest)) fss
    → map head_of_cell (map (cell_in founds) (zip (map here_of (enumerate_from s rest)) fss))
    ≡ map head_of_frame rest
same_heads frames [] founds [] s p = refl
same_heads frames [] founds (fs ∷ fss) s p = absurd p
same_heads frames (f ∷ rest) founds [] s p = absurd p
same_heads frames (f ∷ rest) founds (fs ∷ fss) s p =
    ap (λ (l : List Head). head_of_frame f ∷ l) (same_heads frames rest founds fss (s + 1) p.1)

pub hierarchies_are_preorder : HierarchiesArePreorder
unfolding hierarchy
hierarchies_are_preorder blocks top cells h =
    let a = both (first_pass blocks top) _ cells h in
    let b = both (second_pass a.first) _ cells a.then' in
    let heads = same_heads a.first a.first b.first b.first 0 (pass_good a.first b.first b.is) in
    record {
      frames = a.first;
      preorder = frames_are_preorder blocks top a.first a.is;
      heads = ap (map head_of_cell) (sym (ok_is (put_together a.first b.first) cells b.then')) ∙ heads;
    }
