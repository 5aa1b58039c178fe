-- Frames form a tree: a parent comes before its children, which its module declares, and levels are few.
use Rattle.std.proofs.Common.{◌≡◌, ◌+◌, ◌<◌, ◌≤◌, ◌++◌, ℕ, zero, suc, List, [], ◌∷◌, length, get_or}
use Rattle.std.proofs.Common.{slice_get, Contains, Option, Some, None, IfSome, IsSomeAnd, refl, sym, ap}
use Rattle.std.proofs.Common.{subst, ◌∙◌, arith, append_assoc, append-nil, length-append}
use Rattle.std.specs.List.{AllByRecursion, enumerate_from}
use Rattle.std.proofs.lemmas.List.{get_or_append_left, map-append, length-map}
use Rattle.icl_lexer.specs.Values.{SeenModule}
use Rattle.icl_declarations.specs.Values.{Params}
use Rattle.icl_frames.specs.FirstPass.{Frame}
use Rattle.icl_frames.specs.Preorder.{Declared, children_of, AreOfChildren, AreOfInstance}
use Rattle.icl_frames.specs.Laws.{parents_of, IsBelow, AreBelow, level_below, levels_from, child_names}
use Rattle.icl_frames.specs.Laws.{IsDeclaredIn}
use Rattle.ij_bits.proofs.Everywhere.{all_one}
use Rattle.ij_bits.proofs.Contained.{map_in, first_in, later_in}

-- ---- lists with more after

pub get_kept : {A : Type 0} (xs ys : List A) (i : ℕ) (x : A)
    → slice_get xs i ≡ Some x → slice_get (xs ++ ys) i ≡ Some x
get_kept [] ys i x h = absurd cc
get_kept (y ∷ xs) ys zero x h = h
get_kept (y ∷ xs) ys (suc i) x h = get_kept xs ys i x h

pub get_last : {A : Type 0} (xs : List A) (x : A) → slice_get (xs ++ x ∷ []) (length xs) ≡ Some x
get_last [] x = refl
get_last (y ∷ xs) x = get_last xs x

-- ---- levels

abbrev pub levels_of : List Frame → List ℕ
levels_of frames = levels_from [] (parents_of frames)

levels_both : (acc : List ℕ) (ps qs : List (Option ℕ))
    → levels_from acc (ps ++ qs) ≡ levels_from (levels_from acc ps) qs
levels_both acc [] qs = refl
levels_both acc (p ∷ ps) qs = levels_both (acc ++ level_below acc p ∷ []) ps qs

levels_long : (acc : List ℕ) (ps : List (Option ℕ)) → length (levels_from acc ps) ≡ length acc + length ps
levels_long acc [] = omega arith
levels_long acc (p ∷ ps) =
    let again = levels_long (acc ++ level_below acc p ∷ []) ps in
    let one = length-append acc (level_below acc p ∷ []) in omega (arith, again, one)

-- the levels of earlier cells stay
levels_stay : (acc : List ℕ) (ps : List (Option ℕ)) (k : ℕ) → k < length acc
    → get_or (levels_from acc ps) k 0 ≡ get_or acc k 0
levels_stay acc [] k lt = refl
levels_stay acc (p ∷ ps) k lt =
    let one = length-append acc (level_below acc p ∷ []) in
    levels_stay (acc ++ level_below acc p ∷ []) ps k (omega (arith, one, lt))
    ∙ get_or_append_left acc (level_below acc p ∷ []) 0 k lt

level_last : (acc : List ℕ) (n : ℕ) → get_or (acc ++ n ∷ []) (length acc) 0 ≡ n
level_last [] n = refl
level_last (m ∷ acc) n = level_last acc n

frames_long : (frames : List Frame) → length (levels_of frames) ≡ length frames
frames_long frames =
    let l = levels_long [] (parents_of frames) in
    let m = length-map frames (λ (f : Frame). f.parent) in omega (arith, l, m)

levels_one : (front : List Frame) (f : Frame)
    → levels_of (front ++ f ∷ []) ≡ levels_of front ++ level_below (levels_of front) f.parent ∷ []
levels_one front f = ap (levels_from []) (map-append (λ (g : Frame). g.parent) front (f ∷ []))
    ∙ levels_both [] (parents_of front) (f.parent ∷ [])

-- with more frames after, each level before is the same
level_kept : (front more : List Frame) (k : ℕ) → k < length front
    → get_or (levels_of (front ++ more)) k 0 ≡ get_or (levels_of front) k 0
level_kept front more k lt =
    ap (λ (ps : List (Option ℕ)). get_or (levels_from [] ps) k 0)
    (map-append (λ (g : Frame). g.parent) front more)
    ∙ ap (λ l. get_or l k 0) (levels_both [] (parents_of front) (parents_of more))
    ∙ levels_stay (levels_of front) (parents_of more) k (subst (λ n. k < n) (sym (frames_long front)) lt)

-- ---- one frame more

-- an instance of this name is in its parent's module
abbrev pub Stands : List Frame → Option ℕ → List ℕ → Type 0
Stands frames parent name =
    IfSome parent (λ p. IsSomeAnd (slice_get frames p) (λ q. Contains (child_names q.block.items) name))

pub record IsTree (frames : List Frame) : Type 0 where
  pub below : AreBelow (parents_of frames)
  pub few_levels : AllByRecursion (λ (n : ℕ). n ≤ 64) (levels_of frames)
  pub declared_are : AllByRecursion (IsDeclaredIn frames) frames

stands_kept : (front more : List Frame) (parent : Option ℕ) (name : List ℕ)
    → Stands front parent name → Stands (front ++ more) parent name
stands_kept front more None name h = tt
stands_kept front more (Some p) name h = by_frame (slice_get front p) refl h
  where
    by_frame : (o : Option Frame) → slice_get front p ≡ o
        → IsSomeAnd o (λ q. Contains (child_names q.block.items) name) → Stands (front ++ more) (Some p) name
    by_frame None e k = absurd k
    by_frame (Some q) e k = subst (λ (o : Option Frame). IsSomeAnd o
        (λ q. Contains (child_names q.block.items) name)) (sym (get_kept front more p q e)) k

all_kept : (front more fs : List Frame) → AllByRecursion (IsDeclaredIn front) fs
    → AllByRecursion (IsDeclaredIn (front ++ more)) fs
all_kept front more [] h = tt
all_kept front more (f ∷ fs) h = (stands_kept front more f.parent f.name h.0, all_kept front more fs h.1)

below_one : (n : ℕ) (ps : List (Option ℕ)) (p : Option ℕ)
    → AllByRecursion (λ (q : ℕ × Option ℕ). IsBelow q.0 q.1) (enumerate_from n ps) → IsBelow (n + length ps) p
    → AllByRecursion (λ (q : ℕ × Option ℕ). IsBelow q.0 q.1) (enumerate_from n (ps ++ p ∷ []))
below_one n [] p h b = (let e : n + 0 ≡ n = omega arith in subst (λ k. IsBelow k p) e b, tt)
below_one n (q ∷ ps) p h b = (
  h.0,
  let e : n + suc (length ps) ≡ n + 1 + length ps = omega arith in
      below_one (n + 1) ps p h.1 (subst (λ k. IsBelow k p) e b),
)

tree_one : (front : List Frame) (f : Frame) → IsTree front → IsBelow (length front) f.parent
    → level_below (levels_of front) f.parent ≤ 64 → IsDeclaredIn front f → IsTree (front ++ f ∷ [])
tree_one front f t b l d = record {
  below = let e : length front ≡ 0 + length (parents_of front) =
      let m = length-map front (λ (g : Frame). g.parent) in omega (arith, m) in
      subst AreBelow (sym (map-append (λ (g : Frame). g.parent) front (f ∷ [])))
      (below_one 0 (parents_of front) f.parent t.below (subst (λ k. IsBelow k f.parent) e b));
  few_levels = subst (AllByRecursion (λ (n : ℕ). n ≤ 64)) (sym (levels_one front f))
      (all_one (λ (n : ℕ). n ≤ 64) (levels_of front) (level_below (levels_of front) f.parent) t.few_levels l);
  declared_are = all_one (IsDeclaredIn (front ++ f ∷ [])) front f
      (all_kept front (f ∷ []) front t.declared_are) (stands_kept front (f ∷ []) f.parent f.name d);
}

-- ---- all frames

-- what is known before the frames of an instance, in this many levels
pub record IsRoom (levels number : ℕ) (parent : Option ℕ) (name : List ℕ) (front : List Frame) : Type 0 where
  pub long : length front ≡ number
  pub tree : IsTree front
  pub below : IsBelow number parent
  pub room : level_below (levels_of front) parent + levels ≤ 65
  pub stands : Stands front parent name

module _ (blocks : List SeenModule) where
  -- each child's frames
  abbrev EachTree : ℕ → ℕ → Type 0
  EachTree levels parent =
      (n : ℕ) (name : List ℕ) (block : SeenModule) (given : Params) (before gs : List Frame)
      → IsRoom levels n (Some parent) name before
      → AreOfInstance blocks levels n (Some parent) name block given gs → IsTree (before ++ gs)

  children_tree : (levels number parent : ℕ) (params : Params) (ds : List Declared)
      (front fs : List Frame) (q : Frame) → EachTree levels parent
      → length front ≡ number → IsTree front → parent < number
      → suc (get_or (levels_of front) parent 0) + levels ≤ 65 → slice_get front parent ≡ Some q
      → ((d : Declared) → Contains ds d → Contains (child_names q.block.items) d.name)
      → AreOfChildren blocks (AreOfInstance blocks levels) number parent params ds fs → IsTree (front ++ fs)
  children_tree levels number parent params [] front fs q each long t lt room is names h =
      subst (λ l. IsTree (front ++ l)) (sym h) (subst IsTree (sym (append-nil front)) t)
  children_tree levels number parent params
      (d ∷ ds) front fs q each long t lt room is names (xs, ys, e, child, others) =
      let stands : Stands front (Some parent) d.name =
      subst (λ (o : Option Frame). IsSomeAnd o (λ r. Contains (child_names r.block.items) d.name))
      (sym is) (names d (first_in d ds)) in
      let one = each number d.name child.block child.given front xs
      (record { long = long; tree = t; below = lt; room = room; stands = stands }) child.instance in
      let kept = level_kept front xs parent (subst (λ n. parent < n) (sym long) lt) in
      let more = length-append front xs in
      let all =
      children_tree levels (number + length xs) parent params ds (front ++ xs) ys q each
      (omega (arith, more, long)) one (omega (arith, lt))
      (omega (arith, kept, room)) (get_kept front xs parent q is)
      (λ c k. names c (later_in d c ds k)) others in
      subst IsTree (append_assoc front xs ys ∙ ap (λ l. front ++ l) (sym e)) all

  pub instance_tree : (levels number : ℕ) (parent : Option ℕ) (name : List ℕ) (block : SeenModule)
      (given : Params) (front fs : List Frame) → IsRoom levels number parent name front
      → AreOfInstance blocks levels number parent name block given fs → IsTree (front ++ fs)
  instance_tree zero number parent name block given front fs r h = absurd h
  instance_tree (suc levels) number parent name block given front [] r h = absurd h
  instance_tree (suc levels) number parent name block given front (f ∷ fs) r
      (called, parent_is, block_is, params_are, kids) =
      let room = r.room in
      let low : level_below (levels_of front) parent ≤ 64 = omega (arith, room) in
      let below : IsBelow (length front) f.parent =
      subst (λ k. IsBelow k f.parent) (sym r.long) (subst (IsBelow number) (sym parent_is) r.below) in
      let t : IsTree (front ++ f ∷ []) = tree_one front f r.tree below
      (subst (λ p. level_below (levels_of front) p ≤ 64) (sym parent_is) low)
      (subst (Stands front f.parent) (sym called) (subst (λ p. Stands front p name) (sym parent_is) r.stands))
      in
      let long : length (front ++ f ∷ []) ≡ suc number =
      let m = length-append front (f ∷ []) in
      let n = r.long in omega (arith, m, n) in
      let same : length (levels_of front) ≡ number = frames_long front ∙ r.long in
      let level : get_or (levels_of (front ++ f ∷ [])) number 0 ≡ level_below (levels_of front) parent =
      ap (λ l. get_or l number 0) (levels_one front f)
      ∙ ap (λ n. get_or (levels_of front ++ level_below (levels_of front) f.parent ∷ []) n 0) (sym same)
      ∙ level_last (levels_of front) (level_below (levels_of front) f.parent)
      ∙ ap (level_below (levels_of front)) parent_is in
      let is : slice_get (front ++ f ∷ []) number
      ≡ Some f = ap (slice_get (front ++ f ∷ [])) (sym r.long) ∙ get_last front f in
      let names : (d : Declared) → Contains (children_of block.items) d
      → Contains (child_names f.block.items) d.name = λ (d : Declared) k.
      subst (λ (b : SeenModule). Contains (child_names b.items) d.name) (sym block_is)
      (map_in (λ (e : Declared). e.name) (children_of block.items) d k) in
      subst IsTree (append_assoc front (f ∷ []) fs)
      (children_tree levels (suc number) number f.params (children_of block.items) (front ++ f ∷ []) fs f
      (λ n m b g before gs s i. instance_tree levels n (Some number) m b g before gs s i) long t (omega arith)
      (omega (arith, level, room)) is names kids)
