-- The registers of each round of a merge can be on one path where those of its branches can.
use Rattle.std.proofs.Common.{◌≡◌, ◌⊎◌, ⊎_elim, ℕ, Bool, true, false, List, [], ◌∷◌, ◌++◌, length, map, inl}
use Rattle.std.proofs.Common.{inr, refl, ap, subst, ◌∙◌, arith}
use Rattle.std.specs.Prelude.{Contains, ◌||◌}
use Rattle.std.specs.List.{list_any}
use Rattle.std.proofs.lemmas.Bool.{or_parts}
use Rattle.std.proofs.lemmas.List.{map-append}
use Rattle.std.proofs.lemmas.List.Elements.{All-nil, All-cons, All-head, Contains-append_cases}
use Rattle.std.proofs.lemmas.List.Elements.{Contains-append_left, Contains-append_right}
use Rattle.net_graph.specs.Groups.{registers_of}
use Rattle.net_graph.specs.SeenSteps.{SeenGroup, Apply}
use Rattle.pdl_targets.specs.Laws.{AreTogether, HasPaths, IsForOnePath}
use Rattle.pdl_targets.specs.Rounds.{Places, clash}
use Rattle.pdl_targets.proofs.Together.{clash_back, group_rows}
use Rattle.merge_order.specs.Laws.{MergedStepsHavePaths}
use Rattle.merge_order.specs.Merge.{both, can_join, clashes_with, part_ways, share_bit}
use Rattle.merge_order.proofs.Kept.{merged_have}
use Rattle.merge_order.proofs.OfNetwork.{neither, none_has}

module _ (places : Places) where
  -- a test that fails for what a round writes and reads fails for each of its registers
  none_named : (p : ℕ → Bool) (g : SeenGroup) (q : ℕ)
      → (list_any (λ w. p w.bit.reg) g.writes || list_any (λ r. p r.bit.reg) g.reads) ≡ false
      → Contains (registers_of g) q → p q ≡ false
  none_named p g q none i =
      let parts = or_parts (list_any (λ w. p w.bit.reg) g.writes)
      (list_any (λ r. p r.bit.reg) g.reads) none in
      ⊎_elim (λ k. none_has (λ w. w.bit.reg) p g.writes q parts.0 k)
      (λ k. none_has (λ r. r.bit.reg) p g.reads q parts.1 k)
      (Contains-append_cases (map (λ w. w.bit.reg) g.writes) (map (λ r. r.bit.reg) g.reads) q i)

  apart_from : (g h : SeenGroup) → part_ways places g h ≡ false → (q r : ℕ) → Contains (registers_of g) q
      → Contains (registers_of h) r → clash places q r ≡ false
  apart_from g h e q r i j = none_named (clash places q) h r (none_named (clashes_with places h) g q e i) j

  of_one : (g h : SeenGroup) (q : ℕ) → Contains (registers_of (both g h)) q
      → Contains (registers_of g) q ⊎ Contains (registers_of h) q
  of_one g h q i =
      ⊎_elim (λ w. written (Contains-append_cases (map (λ w. w.bit.reg) g.writes) (map (λ w. w.bit.reg)
      h.writes) q (subst (λ l. Contains l q) (map-append (λ w. w.bit.reg) g.writes h.writes) w)))
      (λ r. read (Contains-append_cases (map (λ r. r.bit.reg) g.reads) (map (λ r. r.bit.reg) h.reads) q
      (subst (λ l. Contains l q) (map-append (λ r. r.bit.reg) g.reads h.reads) r)))
      (Contains-append_cases (map (λ w. w.bit.reg) (g.writes ++ h.writes))
      (map (λ r. r.bit.reg) (g.reads ++ h.reads)) q i)
    where
      written : Contains (map (λ w. w.bit.reg) g.writes) q ⊎ Contains (map (λ w. w.bit.reg) h.writes) q
          → Contains (registers_of g) q ⊎ Contains (registers_of h) q
      written (inl k) =
          inl (Contains-append_left (map (λ w. w.bit.reg) g.writes) (map (λ r. r.bit.reg) g.reads) q k)
      written (inr k) =
          inr (Contains-append_left (map (λ w. w.bit.reg) h.writes) (map (λ r. r.bit.reg) h.reads) q k)

      read : Contains (map (λ r. r.bit.reg) g.reads) q ⊎ Contains (map (λ r. r.bit.reg) h.reads) q
          → Contains (registers_of g) q ⊎ Contains (registers_of h) q
      read (inl k) =
          inl (Contains-append_right (map (λ w. w.bit.reg) g.writes) (map (λ r. r.bit.reg) g.reads) q k)
      read (inr k) =
          inr (Contains-append_right (map (λ w. w.bit.reg) h.writes) (map (λ r. r.bit.reg) h.reads) q k)

  both_together : (g h : SeenGroup) → part_ways places g h ≡ false → AreTogether places g
      → AreTogether places h → AreTogether places (both g h)
  both_together g h e a b q r i j other = by_group (of_one g h q i) (of_one g h r j)
    where
      by_group : Contains (registers_of g) q ⊎ Contains (registers_of h) q
          → Contains (registers_of g) r ⊎ Contains (registers_of h) r → clash places q r ≡ false
      by_group (inl k) (inl l) = a q r k l other
      by_group (inl k) (inr l) = apart_from g h e q r k l
      by_group (inr k) (inl l) = clash_back places q r ∙ apart_from g h e r q l k
      by_group (inr k) (inr l) = b q r k l other

  front_empty : {A : Type 0} (xs ys : List A) → xs ++ ys ≡ [] → xs ≡ []
  front_empty [] ys e = refl
  front_empty (x ∷ xs) ys e = absurd (omega (arith, ap length e))

  both_paths : (g h : SeenGroup) → part_ways places g h ≡ false → IsForOnePath places g
      → IsForOnePath places h → IsForOnePath places (both g h)
  both_paths g h e a b =
      let together = both_together g h e a.apart b.apart in
      record {
        named = λ none. a.named (front_empty g.writes h.writes none.0, front_empty g.reads h.reads none.1);
        apart = together;
        rows = λ alone. group_rows places (both g h) alone together;
      }

  both_steps : (g h : SeenGroup) → can_join places g h ≡ true → HasPaths places (Apply (g ∷ []))
      → HasPaths places (Apply (h ∷ [])) → HasPaths places (Apply (both g h ∷ []))
  both_steps g h e a b =
      All-cons (IsForOnePath places) (both g h) []
      (both_paths g h (neither (share_bit g h) (part_ways places g h) e).1 (All-head (IsForOnePath places) g
      [] a) (All-head (IsForOnePath places) h [] b)) (All-nil (IsForOnePath places))

pub merged_steps_have_paths : MergedStepsHavePaths
merged_steps_have_paths places branches h =
    merged_have places (HasPaths places) (both_steps places) branches h
