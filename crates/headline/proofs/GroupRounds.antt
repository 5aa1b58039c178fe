-- The place of a register has one row of each mux, and so has what a group of an iApply needs.
use Rattle.std.proofs.Common.{◌≡◌, Bool, true, false, List, [], ◌∷◌, ◌++◌, inl, inr, refl, sym, ap, ◌∙◌}
use Rattle.std.specs.Prelude.{ℕ, Contains, flat_map}
use Rattle.std.proofs.lemmas.List.Elements.{All-weaker}
use Rattle.net_graph.specs.declared.branch.Branch.{Branch}
use Rattle.net_graph.specs.declared.net.Net.{Net}
use Rattle.net_graph.specs.declared.net.Point.{Point}
use Rattle.net_graph.specs.declared.net.Point.TheVariants.{Reg, Mux}
use Rattle.net_graph.specs.Groups.{registers_of}
use Rattle.net_graph.specs.SeenSteps.{SeenGroup, SeenStep, Apply, Run, Reset}
use Rattle.net_graph.specs.Steps.{IsStep}
use Rattle.net_tree.specs.Form.{Items, Describes}
use Rattle.net_tree.specs.Needs.{needs, IsExclusive}
use Rattle.net_tree.specs.Places.{Placed, placed, same_point, find_place, place_of}
use Rattle.path_planner.proofs.Among.{Among, contains_among}
use Rattle.path_planner.proofs.Inside.{IsAround, around}
use Rattle.pdl_targets.specs.Rounds.{groups}
use Rattle.pdl_targets.specs.Laws.{HaveOneRow, HasPaths}
use Rattle.pdl_targets.proofs.Together.{need_one_row}
use Rattle.pdl_targets.specs.SeenPlaces.{places_in}
use Rattle.headline.specs.Rounds.{RegistersNeedOneRow, GroupsNeedOneRowEach, StepIsPlannable}
use Rattle.headline.specs.Rounds.{ProceduresArePlannable}

-- a place with a row in it is that of an item
place_found : (xs : List Placed) (item : Point) (b : Branch) → Among b (find_place xs item)
    → (x : Placed) × Among x xs × (x.place ≡ find_place xs item)
place_found [] item b a = absurd a
place_found (x ∷ xs) item b a = go (same_point x.item item) (place_found xs item b) a
  where
    go : (t : Bool)
        → (Among b (find_place xs item) → (y : Placed) × Among y xs × (y.place ≡ find_place xs item))
        → Among b (elim t [ true ↦ x.place | false ↦ find_place xs item ])
        → (y : Placed) × Among y (x ∷ xs) × (y.place ≡ elim t [ true ↦ x.place | false ↦ find_place xs item ])
    go true f c = (x, inl refl, refl)
    go false f c = let (y, d, e) = f c in (y, inr d, e)

-- what follows the same beginning
same_head : (xs : List Branch) (a b : Branch) (ys zs : List Branch) → xs ++ a ∷ ys ≡ xs ++ b ∷ zs → a ≡ b
same_head [] a b ys zs e = cc
same_head (x ∷ xs) a b ys zs e = same_head xs a b ys zs cc

-- two branches of one mux in an item's place are one
pub one_branch_each : (net : Net) (form : Items) (item : Point) → Describes net form → (a b : Branch)
    → Contains (place_of form item) a → Contains (place_of form item) b → a.mux ≡ b.mux → a ≡ b
one_branch_each net form item d a b i j m =
    let place = place_of form item in
    let c = contains_among a place i in
    let (x, s, e) = place_found (placed [] form) item a c in
    let here : IsAround net form d place a = around net form d x.item place a (x, s, refl, e) c in
    let there : IsAround net form d place b =
    around net form d x.item place b (x, s, refl, e) (contains_among b place j) in
    same_head (place_of form (Mux b.mux)) a b here.rest there.rest
    (ap (λ k. place_of form (Mux k) ++ a ∷ here.rest) (sym m) ∙ sym here.place_is ∙ there.place_is)

pub registers_need_one_row : RegistersNeedOneRow
registers_need_one_row net form r d (a, b, i, j, m, n) =
    n (ap (λ (z : Branch). z.row) (one_branch_each net form (Reg r) d a b i j m))

each_has_one_row : (net : Net) (form : Items) → Describes net form → (r : ℕ) → HaveOneRow (places_in form r)
each_has_one_row net form d r a b i j m =
    ap (λ (z : Branch). z.row) (one_branch_each net form (Reg r) d a b i j m)

not_exclusive : (form : Items) (g : SeenGroup)
    → HaveOneRow (flat_map (places_in form) (registers_of g)) → ¬ IsExclusive (needs form g)
not_exclusive form g h (a, b, i, j, m, n) = n (h a b i j m)

pub groups_need_one_row_each : GroupsNeedOneRowEach
groups_need_one_row_each net form writes reads registers d =
    All-weaker (λ g. HaveOneRow (flat_map (places_in form) (registers_of g))) (λ g. ¬ IsExclusive
    (needs form g)) (λ g h. not_exclusive form g h) (groups (places_in form) writes reads registers)
    (need_one_row (places_in form) writes reads registers (each_has_one_row net form d))

plannable : (net : Net) (form : Items) (s : SeenStep) → Describes net form → HasPaths (places_in form) s
    → IsStep net s → StepIsPlannable net form s
plannable net form (Apply rounds) d h k = (
  k.0,
  λ i e l. let p = h i e l in record {
    named = p.named;
    valid = k.1 i e l;
    together = not_exclusive form _ (p.rows (each_has_one_row net form d));
  },
)
plannable net form (Run n) d h k = k
plannable net form Reset d h k = tt

pub procedures_are_plannable : ProceduresArePlannable
procedures_are_plannable net form steps valid paths d k e l =
    plannable net form _ d (paths k e l) (valid k e l)
