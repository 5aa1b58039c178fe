-- The cells that the instances of a cell are.
use Rattle.std.proofs.Common.{◌≡◌, ◌+◌, ◌<◌, ◌==◌, ℕ, zero, suc, Bool, true, false, cond, List, [], ◌∷◌, ◌++◌}
use Rattle.std.proofs.Common.{length, get_or, Option, Some, None, refl, sym, ap, ◌∙◌, arith}
use Rattle.std.specs.Prelude.{◌&&◌, find, slice_get, Ok, Err}
use Rattle.std.specs.List.{enumerate_from}
use Rattle.std.specs.Option.{option_map}
use Rattle.std.specs.Str.{bytes_eq}
use Rattle.ij_text.specs.declared.Place.{Place}
use Rattle.ij_text.specs.Options.{or_else}
use Rattle.icl_declarations.specs.Faults.{Answer, WrongKind}
use Rattle.icl_frames.specs.FirstPass.{Frame}
use Rattle.icl_declarations.specs.declared.scope.Scope.{Scope}
use Rattle.icl_references.specs.Names.{Here, is_in, is_child_cell, child_cell, known_cell}
use Rattle.icl_references.specs.Tables.{AreAllChildren, AreEmpty, IsChildAdded, here_at, no_frame}
use Rattle.icl_references.proofs.Targets.{child_there}
use Rattle.std.proofs.lemmas.List.{get_or_default}

-- ---- look-ups

number : ℕ × Frame → ℕ
number c = c.0

found_at : (frames : List Frame) (n : ℕ) (f : Frame) → slice_get frames n ≡ Some f
    → (n < length frames) × (f ≡ get_or frames n no_frame)
found_at [] n f e = absurd cc
found_at (g ∷ frames) zero f e = (omega arith, by_some e)
  where
    by_some : Some g ≡ Some f → f ≡ g
    by_some h = cc
found_at (g ∷ frames) (suc n) f e = let h = found_at frames n f e in (let lt = h.0 in omega (arith, lt), h.1)

pub record IsChild (frames : List Frame) (at : Place) (o : Option (ℕ × Frame)) (n : ℕ) : Type 0 where
  pub there : n < length frames
  pub is : known_cell at o ≡ Ok (here_at frames n)

pub child_is : (frames : List Frame) (at : Place) (cell : ℕ) (name : List ℕ) (n : ℕ)
    → Some n ≡ option_map (λ (c : ℕ × Frame). c.0) (child_cell frames cell name)
    → IsChild frames at (child_cell frames cell name) n
child_is frames at cell name n e = by_found (child_cell frames cell name) refl e
  where
    by_found : (o : Option (ℕ × Frame)) → child_cell frames cell name ≡ o
        → Some n ≡ option_map (λ (c : ℕ × Frame). c.0) o → IsChild frames at o n
    by_found None is h = absurd cc
    by_found (Some c) is h =
        let there = found_at frames c.0 c.1 (child_there frames cell name c is) in
        let same : n ≡ c.0 = cc in
        record {
          there = let lt = there.0 in omega (arith, lt, same);
          is = rw same (ap (λ (f : Frame). made (record { number = c.0; frame = f })) there.1);
        }
      where
        made : Here → Answer Here
        made h = Ok h

pub no_child : (at : Place) (o : Option (ℕ × Frame))
    → None ≡ option_map (λ (c : ℕ × Frame). c.0) o → known_cell at o ≡ Err (WrongKind at)
no_child at None e = refl
no_child at (Some c) e = absurd cc

-- ---- one cell more

module _ (p : ℕ × Frame → Bool) where
  abbrev found : ℕ → List Frame → Option ℕ
  found s fs = option_map (λ (c : ℕ × Frame). c.0) (find p (enumerate_from s fs))

  abbrev last_one : ℕ → Frame → Option ℕ
  last_one n f = cond (p (n, f)) (Some n) None

  one_after : (s : ℕ) (fs : List Frame) (f : Frame)
      → found s (fs ++ f ∷ []) ≡ or_else (found s fs) (last_one (s + length fs) f)
  one_after s [] f = let z : s + 0 ≡ s = omega arith in rw z (by_test (p (s, f)))
    where
      by_test : (b : Bool)
          → option_map (λ (c : ℕ × Frame). c.0) (cond b (Some (s, f)) None) ≡ cond b (Some s) None
      by_test true = refl
      by_test false = refl
  one_after s (g ∷ fs) f = by_test (p (s, g)) (one_after (s + 1) fs f)
    where
      by_test : (b : Bool) → found (s + 1) (fs ++ f ∷ [])
          ≡ or_else (found (s + 1) fs) (last_one (s + 1 + length fs) f)
          → option_map (λ (c : ℕ × Frame). c.0)
          (cond b (Some (s, g)) (find p (enumerate_from (s + 1) (fs ++ f ∷ []))))
          ≡ or_else (option_map (λ (c : ℕ × Frame). c.0)
          (cond b (Some (s, g)) (find p (enumerate_from (s + 1) fs)))) (last_one (s + length (g ∷ fs)) f)
      by_test true h = refl
      by_test false h = let e : s + 1 + length fs ≡ s + length (g ∷ fs) = omega arith in
          h ∙ ap (λ (n : ℕ). or_else (found (s + 1) fs) (last_one n f)) e

pub first_none : (all : List Scope) → AreEmpty all → AreAllChildren [] all
first_none all h cell c lt e name = h cell c lt e name

pub or_none : (o : Option ℕ) → or_else o None ≡ o
or_none None = refl
or_none (Some n) = refl

module _ (fs : List Frame) (f : Frame) (old new : List Scope) (h : AreAllChildren fs old) where
  pub top_more : f.parent ≡ None → AreAllChildren (fs ++ f ∷ []) old
  top_more top cell c lt e name =
      h cell c lt e name ∙ sym (one_after (is_child_cell cell name) 0 fs f
      ∙ ap (λ (o : Option ℕ). or_else (found (is_child_cell cell name) 0 fs)
      (cond (is_in o cell && bytes_eq name f.name) (Some (0 + length fs)) None)) top
      ∙ or_none (found (is_child_cell cell name) 0 fs))

  pub child_more : (parent n : ℕ) (name : List ℕ) → f.parent ≡ Some parent → f.name ≡ name → n ≡ length fs
      → length new ≡ length old → IsChildAdded old new parent name n → AreAllChildren (fs ++ f ∷ []) new
  child_more parent n name p e m long added cell d lt is asked =
      let there : cell < length old = omega (arith, lt, long) in
      let c = get_or old cell d in
      let o = found (is_child_cell cell asked) 0 fs in
      let k : n ≡ 0 + length fs = omega (arith, m) in
      added cell c d there (get_or_default old cell d c there) is asked
      ∙ ap (λ (x : Option ℕ). or_else x (cond (parent == cell && bytes_eq asked name) (Some n) None))
      (h cell c there (get_or_default old cell d c there) asked)
      ∙ ap (λ (x : List ℕ). or_else o (cond (parent == cell && bytes_eq asked x) (Some n) None)) (sym e)
      ∙ ap (λ (x : Option ℕ). or_else o (cond (is_in x cell && bytes_eq asked f.name) (Some n) None)) (sym p)
      ∙ ap (λ (x : ℕ). or_else o (cond (is_in f.parent cell && bytes_eq asked f.name) (Some x) None)) k
      ∙ sym (one_after (is_child_cell cell asked) 0 fs f)
