-- The bit steps of a merge are of the network where those of its branches are.
use Rattle.std.proofs.Common.{◌≡◌, zero, suc, Bool, true, false, List, [], ◌∷◌, map, refl, sym, ap, subst}
use Rattle.std.proofs.Common.{◌∙◌, arith}
use Rattle.std.specs.Prelude.{Contains, not, ◌&&◌}
use Rattle.std.specs.List.{list_any}
use Rattle.std.proofs.lemmas.Bool.{or_parts}
use Rattle.std.proofs.lemmas.List.{map-append}
use Rattle.std.proofs.lemmas.List.Elements.{All-nil, All-cons, All-head, All-append}
use Rattle.ij_bits.specs.Different.{AreDifferent}
use Rattle.net_graph.specs.declared.net.BitId.{BitId}
use Rattle.net_graph.specs.declared.net.Net.{Net}
use Rattle.net_graph.specs.Path.{same_place}
use Rattle.net_graph.specs.SeenSteps.{SeenGroup, Apply}
use Rattle.net_graph.specs.Signals.{capture_signal}
use Rattle.net_graph.specs.Steps.{IsDataBit, IsGroup, IsReadable, IsStep}
use Rattle.net_graph.proofs.Places.{place_self}
use Rattle.pdl_targets.specs.Rounds.{Places}
use Rattle.merge_order.specs.Laws.{MergedStepsAreOfTheNetwork}
use Rattle.merge_order.specs.Merge.{both, can_join, names, part_ways, share_bit}
use Rattle.merge_order.proofs.Kept.{merged_have}
use Rattle.ij_bits.proofs.Different.{different_more}

-- ---- tests of all elements

-- two tests that both fail
pub neither : (a b : Bool) → (not a && not b) ≡ true → (a ≡ false) × (b ≡ false)
neither true b h = absurd cc
neither false true h = absurd cc
neither false false h = (refl, refl)

-- no element passes a test
pub none_has : {A B : Type 0} (f : A → B) (p : B → Bool) (xs : List A) (b : B)
    → list_any (λ x. p (f x)) xs ≡ false → Contains (map f xs) b → p b ≡ false
none_has f p [] b none (k, lt, e) = absurd (omega (arith, lt))
none_has f p (x ∷ xs) b none (zero, lt, e) =
    ap p (sym e) ∙ (or_parts (p (f x)) (list_any (λ y. p (f y)) xs) none).0
none_has f p (x ∷ xs) b none (suc k, lt, e) =
    none_has f p xs b (or_parts (p (f x)) (list_any (λ y. p (f y)) xs) none).1 (k, omega (arith, lt), e)

-- ---- two rounds that name no common bit

module _ (g h : SeenGroup) (apart : share_bit g h ≡ false) where
  no_common_write : (b : BitId) → Contains (map (λ w. w.bit) g.writes) b
      → Contains (map (λ w. w.bit) h.writes) b → ⊥
  no_common_write b k l =
      let none = none_has (λ w. w.bit) (names h) g.writes b (or_parts (list_any (λ w. names h w.bit) g.writes)
      (list_any (λ r. names h r.bit) g.reads) apart).0 k in
      let other = none_has (λ w. w.bit) (same_place b) h.writes b (or_parts (list_any
      (λ w. same_place b w.bit) h.writes) (list_any (λ r. same_place b r.bit) h.reads) none).0 l in
      let same = place_self b in
      absurd cc

  no_common_read : (b : BitId) → Contains (map (λ r. r.bit) g.reads) b
      → Contains (map (λ r. r.bit) h.reads) b → ⊥
  no_common_read b k l =
      let none = none_has (λ r. r.bit) (names h) g.reads b (or_parts (list_any (λ w. names h w.bit) g.writes)
      (list_any (λ r. names h r.bit) g.reads) apart).1 k in
      let other = none_has (λ r. r.bit) (same_place b) h.reads b (or_parts (list_any
      (λ w. same_place b w.bit) h.writes) (list_any (λ r. same_place b r.bit) h.reads) none).1 l in
      let same = place_self b in
      absurd cc

-- ---- bit steps of a network

module _ (net : Net) (places : Places) where
  both_groups : (g h : SeenGroup) → share_bit g h ≡ false → IsGroup net g
      → IsGroup net h → IsGroup net (both g h)
  both_groups g h apart a b = record {
    written = All-append (λ w. IsDataBit net w.bit) g.writes h.writes a.written b.written;
    written_once = subst AreDifferent (sym (map-append (λ w. w.bit) g.writes h.writes))
        (different_more (map (λ w. w.bit) g.writes)
        (map (λ w. w.bit) h.writes) a.written_once b.written_once (no_common_write g h apart));
    read = All-append (λ r. IsDataBit net r.bit) g.reads h.reads a.read b.read;
    read_once = subst AreDifferent (sym (map-append (λ r. r.bit) g.reads h.reads))
        (different_more (map (λ r. r.bit) g.reads)
        (map (λ r. r.bit) h.reads) a.read_once b.read_once (no_common_read g h apart));
    captured =
        All-append (λ r. IsReadable net (capture_signal net r.bit)) g.reads h.reads a.captured b.captured;
  }

  both_steps : (g h : SeenGroup) → can_join places g h ≡ true → IsStep net (Apply (g ∷ []))
      → IsStep net (Apply (h ∷ [])) → IsStep net (Apply (both g h ∷ []))
  both_steps g h e a b = (
    omega arith,
    All-cons (IsGroup net) (both g h) []
        (both_groups g h (neither (share_bit g h) (part_ways places g h) e).0
        (All-head (IsGroup net) g [] a.1) (All-head (IsGroup net) h [] b.1)) (All-nil (IsGroup net)),
  )

pub merged_steps_are_of_the_network : MergedStepsAreOfTheNetwork
merged_steps_are_of_the_network net places branches h =
    merged_have places (IsStep net) (both_steps net places) branches h
