-- A thing of a name is the one thing of that name.
use Rattle.std.proofs.Common.{◌≡◌, ℕ, zero, suc, ◌<◌, ◌==◌, Bool, true, false, cond, List, [], ◌∷◌, length}
use Rattle.std.proofs.Common.{get_or, map, Some, refl, sym, ap, ◌∙◌, arith}
use Rattle.std.specs.Prelude.{◌&&◌}
use Rattle.std.specs.Str.{bytes_eq}
use Rattle.std.proofs.lemmas.Bool.{eqb-true, and_parts}
use Rattle.std.proofs.lemmas.List.{get_or-map, length-map}
use Rattle.std.proofs.lemmas.Slice.Eq.{bytes_eq-Decides}
use Rattle.ij_bits.specs.Different.{AreDifferent}
use Rattle.net_graph.specs.declared.net.Thing.{Thing}
use Rattle.pdl_targets.specs.Targets.{thing_in}

abbrev Key : Type 0
Key = ℕ × List ℕ

abbrev key_of : Thing → Key
key_of t = (t.node, t.name.items)

abbrev pub is_it : ℕ → List ℕ → Thing → Bool
is_it node name t = (t.node == node) && bytes_eq t.name.items name

key_is : (node : ℕ) (name : List ℕ) (t : Thing) → is_it node name t ≡ true → key_of t ≡ (node, name)
key_is node name t e =
    let parts = and_parts (t.node == node) (bytes_eq t.name.items name) e in
    let with_node : key_of t ≡ (node, t.name.items) =
    ap (λ (n : ℕ). (n, t.name.items)) (eqb-true t.node node parts.0) in
    with_node ∙ ap (λ (n : List ℕ). (node, n)) ((bytes_eq-Decides t.name.items name).0 parts.1)

pub named_there : (things : List Thing) (i : ℕ) (d : Thing) (node : ℕ) (name : List ℕ)
    → AreDifferent {A = ℕ × List ℕ} (map (λ t. (t.node, t.name.items)) things) → i < length things
    → is_it node name (get_or things i d) ≡ true → Some (get_or things i d) ≡ thing_in things node name
named_there [] i d node name different h e = absurd (omega (arith, h))
named_there (t ∷ ts) zero d node name different h e =
    sym (ap (λ b. cond b (Some t) (thing_in ts node name)) e)
named_there (t ∷ ts) (suc i) d node name different h e =
    by_first (named_there ts i d node name different.1 (omega (arith, h)) e) (is_it node name t) refl
  where
    there : i < length ts
    there = omega (arith, h)

    by_first : Some (get_or ts i d) ≡ thing_in ts node name → (b : Bool) → is_it node name t ≡ b
        → Some (get_or ts i d) ≡ thing_in (t ∷ ts) node name
    by_first more true f =
        let same : get_or (map key_of ts) i (key_of t) ≡ key_of t = get_or-map key_of ts i d (key_of t) there
        ∙ key_is node name (get_or ts i d) e ∙ sym (key_is node name t f) in
        absurd (different.0 (i, omega (arith, there, length-map ts key_of), same))
    by_first more false f = more ∙ sym (ap (λ b. cond b (Some t) (thing_in ts node name)) f)
