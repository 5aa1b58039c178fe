-- Groups one by one, as a loop goes over them.
use Rattle.std.proofs.Common.{◌≡◌, ◌+◌, ◌<◌, ℕ, List, ◌∷◌, length, get_or, drop, sym, ap, ◌∙◌, subst, arith}
use Rattle.std.specs.Prelude.{map, All}
use Rattle.std.proofs.lemmas.List.{at_drop_more, get_or-map, length-map}
use Rattle.net_graph.specs.SeenSteps.{SeenGroup, seen_group}
use Rattle.net_graph.specs.declared.step.Group.{Group}

-- what holds of each group's view holds of the next one's
pub seen_next : (P : SeenGroup → Type 0) (gs : List Group) (g : Group) (i : ℕ) → All P (map seen_group gs)
    → i < length gs → g ≡ get_or gs i g → P (seen_group g)
seen_next P gs g i a l is =
    subst P (get_or-map seen_group gs i g (seen_group g) l ∙ ap seen_group (sym is))
    (a i (seen_group g) (omega (arith, l, length-map gs seen_group)))

-- the groups that are left begin with the next one
pub left_next : (gs : List Group) (g : Group) (i : ℕ) → i < length gs → g ≡ get_or gs i g
    → map seen_group (drop i gs) ≡ seen_group g ∷ map seen_group (drop (i + 1) gs)
left_next gs g i l is =
    at_drop_more (map seen_group) gs i g l
    ∙ ap (λ (x : Group). seen_group x ∷ map seen_group (drop (i + 1) gs)) (sym is)
