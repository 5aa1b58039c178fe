-- The dotted paths of the cells of a well formed network differ.
use Rattle.std.proofs.Common.{◌≡◌, ℕ, zero, suc, ◌<◌, Bool, true, false, cond, List, [], ◌∷◌, ◌++◌, map}
use Rattle.std.proofs.Common.{length, get_or, refl, sym, ap, ◌∙◌, subst, arith}
use Rattle.std.specs.Prelude.{◌==◌, ◌&&◌, ◌||◌, IsTrue, All, Contains}
use Rattle.std.specs.Char.{is_ascii_digit}
use Rattle.std.specs.List.{list_all}
use Rattle.std.proofs.lemmas.Bool.{eqb-true, and_parts}
use Rattle.std.proofs.lemmas.List.{length-map}
use Rattle.std.proofs.lemmas.List.Elements.{All-map, All-head, All-tail, All-get_or, Contains-get_or}
use Rattle.ij_bits.specs.Different.{AreDifferent}
use Rattle.ij_text.specs.Numbering.{AreDistinct}
use Rattle.ij_text.specs.Words.{in_name, begins_name, is_name}
use Rattle.ij_text.specs.Parts.{before, split}
use Rattle.net_graph.specs.declared.net.Net.{Net}
use Rattle.net_graph.specs.declared.net.Node.{Node}
use Rattle.net_graph.specs.Nets.{IsNet, path_of}
use Rattle.pdl_expand.specs.Values.{cell_of, cells_of}
use Rattle.pdl_expand.specs.Expansion.{dotted, dotted_paths}

-- ---- a dotted path has its names between the dots

-- a name has no dot
no_dot : (b : ℕ) → in_name b ≡ true → (b == 46) ≡ false
no_dot b h = by_test (b == 46) refl
  where
    by_test : (t : Bool) → (b == 46) ≡ t → t ≡ false
    by_test false e = refl
    by_test true e =
        let k : in_name 46 ≡ true = subst (λ c. in_name c ≡ true) (eqb-true b 46 e) h in absurd cc

letter_in_name : (b : ℕ) → begins_name b ≡ true → in_name b ≡ true
letter_in_name b h = ap (λ t. t || is_ascii_digit b) h

part_of_bytes : (bytes rest : List ℕ) (parts : List (List ℕ)) → list_all in_name bytes ≡ true
    → split 46 rest ≡ [] ∷ parts → split 46 (bytes ++ rest) ≡ bytes ∷ parts
part_of_bytes [] rest parts h e = e
part_of_bytes (b ∷ bs) rest parts h e =
    let (one, more) = and_parts (in_name b) (list_all in_name bs) h in
    ap (λ t. cond t ([] ∷ split 46 (bs ++ rest)) (before b (split 46 (bs ++ rest)))) (no_dot b one)
    ∙ ap (before b) (part_of_bytes bs rest parts more e)

part_of_name : (name rest : List ℕ) (parts : List (List ℕ)) → is_name name ≡ true → split 46 rest ≡ [] ∷ parts
    → split 46 (name ++ rest) ≡ name ∷ parts
part_of_name [] rest parts h e = absurd cc
part_of_name (b ∷ bs) rest parts h e =
    let (one, more) = and_parts (begins_name b) (list_all in_name bs) h in
    part_of_bytes (b ∷ bs) rest parts (ap (λ t. t && list_all in_name bs) (letter_in_name b one) ∙ more) e

parts_of_dotted : (names : List (List ℕ))
    → All (λ name. IsTrue (is_name name)) names → split 46 (dotted names) ≡ [] ∷ names
parts_of_dotted [] h = refl
parts_of_dotted (n ∷ ns) h =
    ap (λ ps. [] ∷ ps) (part_of_name n (dotted ns) ns (All-head (λ name. IsTrue (is_name name)) n ns h)
    (parts_of_dotted ns (All-tail (λ name. IsTrue (is_name name)) n ns h)))

abbrev rest_of : List (List ℕ) → List (List ℕ)
rest_of [] = []
rest_of (n ∷ ns) = ns

dotted_once : (names others : List (List ℕ)) → All (λ name. IsTrue (is_name name)) names
    → All (λ name. IsTrue (is_name name)) others → dotted names ≡ dotted others → names ≡ others
dotted_once names others h k e =
    ap rest_of (sym (parts_of_dotted names h) ∙ ap (split 46) e ∙ parts_of_dotted others k)

-- ---- the cells of a network

at_most_once : {A : Type 0} (xs : List A) (d : A) (i j : ℕ) → AreDifferent xs → i < length xs
    → j < length xs → get_or xs i d ≡ get_or xs j d → i ≡ j
at_most_once [] d i j a h k e = absurd (omega (arith, h))
at_most_once (x ∷ xs) d zero zero a h k e = refl
at_most_once (x ∷ xs) d zero (suc j) a h k e =
    absurd (a.0 (subst (Contains xs) (sym e) (Contains-get_or xs j d (omega (arith, k)))))
at_most_once (x ∷ xs) d (suc i) zero a h k e =
    absurd (a.0 (subst (Contains xs) e (Contains-get_or xs i d (omega (arith, h)))))
at_most_once (x ∷ xs) d (suc i) (suc j) a h k e =
    ap suc (at_most_once xs d i j a.1 (omega (arith, h)) (omega (arith, k)) e)

dotted_at : (nodes : List Node) (i : ℕ)
    → get_or (dotted_paths (map cell_of nodes)) i [] ≡ dotted (get_or (map path_of nodes) i [])
dotted_at [] i = refl
dotted_at (n ∷ ns) zero = refl
dotted_at (n ∷ ns) (suc i) = dotted_at ns i

abbrev AreNames : List (List ℕ) → Type 0
AreNames names = All (λ name. IsTrue (is_name name)) names

names_at : (net : Net) → IsNet net → (i : ℕ) → i < length (map path_of net.nodes.items)
    → AreNames (get_or (map path_of net.nodes.items) i [])
names_at net is_net i h =
    All-get_or AreNames (map path_of net.nodes.items) i [] h
    (All-map AreNames path_of net.nodes.items (λ k d l. All-map (λ name. IsTrue (is_name name))
    (λ name. name.items) (get_or net.nodes.items k d).path.items (is_net.path_names k d l)))

as_many : (nodes : List Node) → length (dotted_paths (map cell_of nodes)) ≡ length (map path_of nodes)
as_many [] = refl
as_many (n ∷ ns) = ap suc (as_many ns)

pub paths_differ : (net : Net) → IsNet net → AreDistinct (dotted_paths (cells_of net))
paths_differ net is_net i j h k e =
    let nodes = net.nodes.items in
    let long = as_many nodes in
    let h2 : i < length (map path_of nodes) = omega (arith, h, long) in
    let k2 : j < length (map path_of nodes) = omega (arith, k, long) in
    let same : dotted (get_or (map path_of nodes) i [])
    ≡ dotted (get_or (map path_of nodes) j []) = sym (dotted_at nodes i) ∙ e ∙ dotted_at nodes j in
    at_most_once (map path_of nodes) [] i j is_net.node_paths h2 k2 (dotted_once (get_or (map path_of nodes) i
    []) (get_or (map path_of nodes) j []) (names_at net is_net i h2) (names_at net is_net j k2) same)

-- the top module's cell is among those of the index
pub top_is_there : (net : Net) (paths : List (List ℕ)) → IsNet net
    → paths ≡ dotted_paths (cells_of net) → 0 < length paths
top_is_there net paths is_net e = subst (λ ps. 0 < length ps) (sym e) (subst (λ n. 0 < n) (sym
    (length-map (cells_of net) (λ cell. dotted cell.path) ∙ length-map net.nodes.items cell_of)) is_net.top)
