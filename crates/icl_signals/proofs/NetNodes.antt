-- The nodes of the network of a hierarchy: their paths differ, have names of ICL, and are as long as the
-- levels say.
use Rattle.std.proofs.Common.{◌≡◌, ◌+◌, ◌<◌, ◌≤◌, ◌++◌, ℕ, zero, suc, List, [], ◌∷◌, map, length, get_or}
use Rattle.std.proofs.Common.{IsTrue, IfSome, Option, Some, None, refl, sym, ap, subst, ◌∙◌, arith}
use Rattle.std.proofs.Common.{length-append}
use Rattle.std.specs.Prelude.{All, slice_get}
use Rattle.std.specs.List.{AllByRecursion, enumerate_from}
use Rattle.std.proofs.lemmas.List.{length-map, map-append}
use Rattle.std.proofs.lemmas.List.Elements.{All-from_recursion}
use Rattle.ij_bits.specs.Different.{AreDifferent}
use Rattle.ij_bits.specs.Room.{Listed}
use Rattle.ij_text.specs.Words.{is_name}
use Rattle.icl_frames.specs.Laws.{IsBelow, level_below}
use Rattle.icl_elab.specs.WellFormed.{levels_from, IsCell, IsHierarchy}
use Rattle.icl_references.specs.Roles.{CellOf}
use Rattle.net_graph.specs.declared.net.Net.{Net}
use Rattle.net_graph.specs.declared.net.Node.{Node}
use Rattle.net_graph.specs.Nets.{path_of}
use Rattle.icl_signals.specs.Connecting.{path_with, paths_from, node_of}
use Rattle.icl_signals.proofs.Paired.{paired_maps, mapped_paired, all_and, all_weaker, all_in_map, at_place}
use Rattle.icl_signals.proofs.ApartItems.{Apart, apart_at, apart_of_map, apart_in_map, apart_different}
use Rattle.icl_signals.proofs.ApartItems.{different_apart, numbers_rise, known_numbers}
use Rattle.icl_signals.proofs.NetParts.{IsNetOf}
use Rattle.icl_signals.proofs.OneNumber.{path_had}
use Rattle.ij_bits.proofs.Everywhere.{all_one}
use Rattle.std.proofs.lemmas.Option.{same_Some, slice_get_within}
use Rattle.ij_bits.proofs.Lists.{head_same, tail_same}

abbrev Path : Type 0
Path = List (List ℕ)

-- ---- one path more

kept_at : (paths : List Path) (x : Path) (k : ℕ) → k < length paths
    → get_or (paths ++ x ∷ []) k [] ≡ get_or paths k []
kept_at [] x k lt = absurd (omega (arith, lt))
kept_at (p ∷ paths) x zero lt = refl
kept_at (p ∷ paths) x (suc k) lt = kept_at paths x k (omega (arith, lt))

last_at : (paths : List Path) (x : Path) (k : ℕ) → k ≡ length paths → get_or (paths ++ x ∷ []) k [] ≡ x
last_at [] x zero e = refl
last_at [] x (suc k) e = absurd (omega (arith, e))
last_at (p ∷ paths) x zero e = absurd (omega (arith, e))
last_at (p ∷ paths) x (suc k) e = last_at paths x k (omega (arith, e))

abbrev one_longer : List Path → CellOf → List Path
one_longer paths c = paths ++ path_with paths c c.parent ∷ []

longer : (paths : List Path) (c : CellOf) → length (one_longer paths c) ≡ length paths + 1
longer paths c = length-append paths (path_with paths c c.parent ∷ [])

paths_kept : (paths : List Path) (cs : List CellOf) (k : ℕ) → k < length paths
    → get_or (paths_from paths cs) k [] ≡ get_or paths k []
paths_kept paths [] k lt = refl
paths_kept paths (c ∷ cs) k lt =
    let long = longer paths c in
    paths_kept (one_longer paths c) cs k (omega (arith, lt, long))
    ∙ kept_at paths (path_with paths c c.parent) k lt

paths_long : (paths : List Path) (cs : List CellOf) → length (paths_from paths cs) ≡ length paths + length cs
paths_long paths [] = omega arith
paths_long paths (c ∷ cs) = let long = longer paths c in
    let rest = paths_long (one_longer paths c) cs in omega (arith, long, rest)

-- a cell's path, by its parent's
path_is : (paths : List Path) (cs : List CellOf) (j k : ℕ) (c : CellOf)
    → k ≡ length paths + j → slice_get cs j ≡ Some c
    → IsBelow k c.parent → get_or (paths_from paths cs) k [] ≡ path_with (paths_from paths cs) c c.parent
path_is paths [] j k c e h b = absurd cc
path_is paths (d ∷ cs) zero k c e h b =
    let long = longer paths d in
    let same = same_Some d c h in
    paths_kept (one_longer paths d) cs k (omega (arith, e, long))
    ∙ last_at paths (path_with paths d d.parent) k (omega (arith, e))
    ∙ ap (λ (x : CellOf). path_with paths x x.parent) same
    ∙ by_parent c.parent b
  where
    by_parent : (o : Option ℕ) → IsBelow k o
        → path_with paths c o ≡ path_with (paths_from (one_longer paths d) cs) c o
    by_parent None g = refl
    by_parent (Some parent) g =
        let long = longer paths d in
        let below : parent < length paths = omega (arith, g, e) in
        ap (λ (p : Path). p ++ c.name ∷ [])
        (sym (paths_kept (one_longer paths d) cs parent (omega (arith, below, long))
        ∙ kept_at paths (path_with paths d d.parent) parent below))
path_is paths (d ∷ cs) (suc j) k c e h b =
    let long = longer paths d in path_is (one_longer paths d) cs j k c (omega (arith, e, long)) h b

-- ---- levels

get_length : (paths : List Path) (k : ℕ) → get_or (map length paths) k 0 ≡ length (get_or paths k [])
get_length [] k = refl
get_length (p ∷ paths) zero = refl
get_length (p ∷ paths) (suc k) = get_length paths k

level_is : (paths : List Path) (c : CellOf) (o : Option ℕ)
    → length (path_with paths c o) ≡ level_below (map length paths) o
level_is paths c None = refl
level_is paths c (Some parent) = let long = length-append (get_or paths parent [])
    (c.name ∷ []) in let level = get_length paths parent in omega (arith, long, level)

levels_are : (paths : List Path) (cs : List CellOf)
    → map length (paths_from paths cs) ≡ levels_from (map length paths) cs
levels_are paths [] = refl
levels_are paths (c ∷ cs) =
    levels_are (one_longer paths c) cs
    ∙ ap (λ (l : List ℕ). levels_from l cs) (map-append length paths (path_with paths c c.parent ∷ [])
    ∙ ap (λ (n : ℕ). map length paths ++ n ∷ []) (level_is paths c c.parent))

-- ---- names

abbrev IsNamed : List ℕ → Type 0
IsNamed name = IsTrue (is_name name)

abbrev HasNames : Path → Type 0
HasNames path = AllByRecursion IsNamed path

names_at : (paths : List Path) (k : ℕ) → AllByRecursion HasNames paths → HasNames (get_or paths k [])
names_at [] k h = tt
names_at (p ∷ paths) zero h = h.0
names_at (p ∷ paths) (suc k) h = names_at paths k h.1

names_with : (paths : List Path) (c : CellOf) (o : Option ℕ) → AllByRecursion HasNames paths
    → IfSome o (λ parent. IsTrue (is_name c.name)) → HasNames (path_with paths c o)
names_with paths c None h n = tt
names_with paths c (Some parent) h n =
    all_one IsNamed (get_or paths parent []) c.name (names_at paths parent h) n

paths_named : (paths : List Path) (cs : List CellOf)
    → AllByRecursion HasNames paths → AllByRecursion IsCell cs
    → AllByRecursion HasNames (paths_from paths cs)
paths_named paths [] h n = h
paths_named paths (c ∷ cs) h n = paths_named (one_longer paths c) cs
    (all_one HasNames paths (path_with paths c c.parent) h (names_with paths c c.parent h n.0.name)) n.1

-- ---- paths differ

-- less, equal or greater
data Order (a b : ℕ) : Type 0 where
  less : a < b → Order a b
  same : a ≡ b → Order a b
  more : b < a → Order a b

next_order : (a b : ℕ) → Order a b → Order (suc a) (suc b)
next_order a b (less h) = less (omega (arith, h))
next_order a b (same h) = same (ap suc h)
next_order a b (more h) = more (omega (arith, h))

order : (a b : ℕ) → Order a b
order zero zero = same refl
order zero (suc b) = less (omega arith)
order (suc a) zero = more (omega arith)
order (suc a) (suc b) = next_order a b (order a b)

no_more : (xs : Path) (x : List ℕ) → [] ≡ xs ++ x ∷ [] → ⊥
no_more xs x e =
    let n = ap length e in
    let m = length-append xs (x ∷ []) in
    omega (arith, n, m)

pub record SameEnds (xs ys : Path) (x y : List ℕ) : Type 0 where
  pub front : xs ≡ ys
  pub last : x ≡ y

ends_same : (xs ys : Path) (x y : List ℕ) → xs ++ x ∷ [] ≡ ys ++ y ∷ [] → SameEnds xs ys x y
ends_same [] [] x y e = record { front = refl; last = head_same x y [] [] e }
ends_same [] (b ∷ ys) x y e = absurd (no_more ys y (tail_same x b [] (ys ++ y ∷ []) e))
ends_same (a ∷ xs) [] x y e = absurd (no_more xs x (sym (tail_same a y (xs ++ x ∷ []) [] e)))
ends_same (a ∷ xs) (b ∷ ys) x y e =
    let rest = ends_same xs ys x y (tail_same a b (xs ++ x ∷ []) (ys ++ y ∷ []) e) in
    let first = head_same a b (xs ++ x ∷ []) (ys ++ y ∷ []) e in
    record { front = ap (λ z. z ∷ xs) first ∙ ap (λ l. b ∷ l) rest.front; last = rest.last }

module _ (cells : List CellOf) (h : IsHierarchy cells) where
  abbrev all_paths : List Path
  all_paths = paths_from [] cells

  abbrev path_at : ℕ → Path
  path_at k = get_or all_paths k []

  parent_below : (k : ℕ) (c : CellOf) → slice_get cells k ≡ Some c → IsBelow k c.parent
  parent_below k c e = go 0 cells k (omega arith) h.parents e
    where
      go : (s : ℕ) (cs : List CellOf) (j : ℕ) → k ≡ s + j
          → AllByRecursion (λ (d : ℕ × CellOf). IsBelow d.0 d.1.parent) (enumerate_from s cs)
          → slice_get cs j ≡ Some c
          → IsBelow k c.parent
      go s [] j n a g = absurd cc
      go s (d ∷ cs) zero n a g =
          let m : s ≡ k = omega (arith, n) in
          subst (λ (i : ℕ). IsBelow i c.parent) m
          (subst (λ (x : CellOf). IsBelow s x.parent) (same_Some d c g) a.0)
      go s (d ∷ cs) (suc j) n a g = go (s + 1) cs j (omega (arith, n)) a.1 g

  own_path : (k : ℕ) (c : CellOf) → slice_get cells k ≡ Some c → path_at k ≡ path_with all_paths c c.parent
  own_path k c e = path_is [] cells k k c (omega arith) e (parent_below k c e)

  abbrev IsSibling : CellOf → CellOf → Type 0
  IsSibling c d = ◌≡◌ {A = Option ℕ × List ℕ} (c.parent, c.name) (d.parent, d.name)

  siblings_apart : Apart (λ (c d : CellOf). IsSibling c d → ⊥) cells
  siblings_apart = apart_in_map {B = Option ℕ × List ℕ}
      (λ (c : CellOf). (c.parent, c.name)) (λ x y. x ≡ y → ⊥) cells
      (different_apart (map (λ (c : CellOf). (c.parent, c.name)) cells) h.siblings)

  one_place : (j k : ℕ) (c d : CellOf) → slice_get cells j ≡ Some c
      → slice_get cells k ≡ Some d → IsSibling c d → j ≡ k
  one_place j k c d e f s = by_order (order j k)
    where
      by_order : Order j k → j ≡ k
      by_order (less lt) =
          absurd (apart_at (λ (x y : CellOf). IsSibling x y → ⊥) cells j k c d siblings_apart lt e f s)
      by_order (same q) = q
      by_order (more lt) =
          absurd (apart_at (λ (x y : CellOf). IsSibling x y → ⊥) cells k j d c siblings_apart lt f e (sym s))

  one_path : (n j k : ℕ) (c d : CellOf) → j < n → slice_get cells j ≡ Some c
      → slice_get cells k ≡ Some d → path_at j ≡ path_at k → j ≡ k
  one_path zero j k c d lt e f g = absurd (omega (arith, lt))
  one_path (suc n) j k c d lt e f g =
      by_parents c.parent d.parent refl refl (parent_below j c e) (parent_below k d f)
      (sym (own_path j c e) ∙ g ∙ own_path k d f)
      (λ p q x y. one_path n p q x y)
    where
      by_parents : (o p : Option ℕ) → c.parent ≡ o → d.parent ≡ p → IsBelow j o → IsBelow k p
          → path_with all_paths c o ≡ path_with all_paths d p
          → ((i m : ℕ) (x y : CellOf) → i < n → slice_get cells i ≡ Some x → slice_get cells m ≡ Some y
          → path_at i ≡ path_at m → i ≡ m) → j ≡ k
      by_parents None None u v a b s again = a ∙ sym b
      by_parents None (Some q) u v a b s again = absurd (no_more (path_at q) d.name s)
      by_parents (Some p) None u v a b s again = absurd (no_more (path_at p) c.name (sym s))
      by_parents (Some p) (Some q) u v a b s again =
          let r = ends_same (path_at p) (path_at q) c.name d.name s in
          let below_j = slice_get_within cells j c e in
          let below_k = slice_get_within cells k d f in
          let x = at_place cells p (omega (arith, a, below_j)) in
          let y = at_place cells q (omega (arith, b, below_k)) in
          let parents = again p q x.item y.item (omega (arith, a, lt)) x.is y.is r.front in
          one_place j k c d e f
          (ap (λ (m : Option ℕ). (m, c.name)) (u ∙ ap (λ (i : ℕ). Some i) parents ∙ sym v)
          ∙ ap (λ (l : List ℕ). (d.parent, l)) r.last)

  -- ---- the nodes' paths

  gets : {A : Type 0} (paths qs : List Path) (s : ℕ) (xs : List A) → length qs ≡ length xs
      → ((i : ℕ) → get_or paths (s + i) [] ≡ get_or qs i [])
      → map (λ (x : ℕ × A). get_or paths x.0 []) (enumerate_from s xs) ≡ qs
  gets paths [] s [] n g = refl
  gets paths [] s (x ∷ xs) n g = absurd (omega (arith, n))
  gets paths (q ∷ qs) s [] n g = absurd (omega (arith, n))
  gets paths (q ∷ qs) s (x ∷ xs) n g =
      let z : s ≡ s + 0 = omega arith in
      ap (λ (p : Path). p ∷ map (λ y. get_or paths y.0 []) (enumerate_from (s + 1) xs))
      (ap (λ (i : ℕ). get_or paths i []) z ∙ g 0)
      ∙ ap (λ (l : List Path). q ∷ l) (gets paths qs (s + 1) xs (omega (arith, n))
      (λ i. let m : s + 1 + i ≡ s + suc i = omega arith in ap (λ (j : ℕ). get_or paths j []) m ∙ g (suc i)))

  by_number : map (λ (c : ℕ × CellOf). path_at c.0) (enumerate_from 0 cells) ≡ all_paths
  by_number = let long = paths_long [] cells in gets all_paths all_paths 0 cells (omega (arith, long))
      (λ i. let z : 0 + i ≡ i = omega arith in ap (λ (j : ℕ). get_or all_paths j []) z)

  module _ (net : Net) (n : IsNetOf cells net) where
    paths_are : map path_of net.nodes.items ≡ all_paths
    paths_are =
        sym (paired_maps (λ (c : ℕ × CellOf) (node : Node). node_of all_paths c
        ≡ node) (λ c. path_at c.0) path_of
        (λ c node e. sym (path_had (path_at c.0)) ∙ ap path_of e) (enumerate_from 0 cells) net.nodes.items
        (mapped_paired (node_of all_paths) (enumerate_from 0 cells) net.nodes.items n.nodes))
        ∙ by_number

    known_rise : (s : ℕ) (cs : List CellOf)
        → AllByRecursion (λ (c : ℕ × CellOf). slice_get cells c.0 ≡ Some c.1) (enumerate_from s cs)
        → Apart (λ (p q : ℕ × CellOf). p.0 < q.0) (enumerate_from s cs)
        → Apart (λ (p q : ℕ × CellOf). path_at p.0 ≡ path_at q.0 → ⊥) (enumerate_from s cs)
    known_rise s [] k a = tt
    known_rise s (c ∷ cs) k a = (
      all_weaker (λ (q : ℕ × CellOf). (s < q.0) × (slice_get cells q.0 ≡ Some q.1))
          (λ q. path_at s ≡ path_at q.0 → ⊥)
          (λ q m e. let i = one_path (suc s) s q.0 c q.1 (omega arith) k.0 m.1 e in
          let lt = m.0 in omega (arith, i, lt))
          (enumerate_from (s + 1) cs)
          (all_and (λ (q : ℕ × CellOf). s < q.0)
          (λ q. slice_get cells q.0 ≡ Some q.1) (enumerate_from (s + 1) cs) a.0 k.1),
      known_rise (s + 1) cs k.1 a.1,
    )

    pub paths_differ : AreDifferent (map path_of net.nodes.items)
    paths_differ =
        subst AreDifferent (by_number ∙ sym paths_are)
        (apart_different (map (λ (c : ℕ × CellOf). path_at c.0) (enumerate_from 0 cells))
        (apart_of_map (λ (c : ℕ × CellOf). path_at c.0) (λ x y. x ≡ y → ⊥) (enumerate_from 0 cells)
        (known_rise 0 cells (known_numbers cells) (numbers_rise 0 cells))))

    pub path_names : All (λ (node : Node). All
        (λ (name : Listed ℕ). IsTrue (is_name name.items)) node.path.items) net.nodes.items
    path_names =
        All-from_recursion (λ (node : Node). All
        (λ (name : Listed ℕ). IsTrue (is_name name.items)) node.path.items) net.nodes.items
        (all_weaker (λ (node : Node). HasNames (path_of node))
        (λ node. All (λ (name : Listed ℕ). IsTrue (is_name name.items)) node.path.items)
        (λ node g. All-from_recursion (λ (name : Listed ℕ). IsTrue (is_name name.items)) node.path.items
        (all_in_map (λ (name : Listed ℕ). name.items) IsNamed node.path.items g)) net.nodes.items
        (all_in_map path_of HasNames net.nodes.items
        (subst (AllByRecursion HasNames) (sym paths_are) (paths_named [] cells tt h.cells_are))))

    pub few_levels : All (λ (node : Node). length node.path.items ≤ 64) net.nodes.items
    few_levels =
        All-from_recursion (λ (node : Node). length node.path.items ≤ 64) net.nodes.items
        (all_weaker (λ (node : Node). length (path_of node) ≤ 64) (λ node. length node.path.items ≤ 64)
        (λ node le. subst (λ (i : ℕ). i ≤ 64)
        (length-map node.path.items (λ (name : Listed ℕ). name.items)) le) net.nodes.items
        (all_in_map path_of (λ (p : Path). length p ≤ 64) net.nodes.items
        (subst (AllByRecursion (λ (p : Path). length p ≤ 64)) (sym paths_are)
        (all_in_map length (λ (i : ℕ). i ≤ 64) all_paths
        (subst (AllByRecursion (λ (i : ℕ). i ≤ 64)) (sym (levels_are [] cells)) h.few_levels)))))

    pub top_path : get_or (map path_of net.nodes.items) 0 [] ≡ []
    top_path =
        let some = h.top in
        let first = at_place cells 0 (omega (arith, some)) in
        ap (λ (l : List Path). get_or l 0 []) paths_are ∙ own_path 0 first.item first.is
        ∙ by_parent first.item first.item.parent (parent_below 0 first.item first.is)
      where
        by_parent : (c : CellOf) (o : Option ℕ) → IsBelow 0 o → path_with all_paths c o ≡ []
        by_parent c None b = refl
        by_parent c (Some parent) b = absurd (omega (arith, b))
