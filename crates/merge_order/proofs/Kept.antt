-- What holds of each bit step of branches, and stays where two iApplys join, holds of each bit step of their
-- merge.
use Rattle.std.proofs.Common.{◌≡◌, ◌≤◌, ◌==◌, ℕ, zero, suc, max, Bool, true, false, cond, List, [], ◌∷◌}
use Rattle.std.proofs.Common.{length, map, None, Some, refl, subst, arith}
use Rattle.std.specs.Prelude.{All, nat_lt}
use Rattle.std.proofs.lemmas.Bool.{ltb-true, ltb-false}
use Rattle.std.proofs.lemmas.List.Elements.{All-nil, All-cons, All-head, All-tail, All-append, All-map}
use Rattle.net_graph.specs.SeenSteps.{SeenGroup, SeenStep, Apply, Run, Reset}
use Rattle.pdl_targets.specs.Binding.{run_of}
use Rattle.pdl_targets.specs.Rounds.{Places}
use Rattle.merge_order.specs.Merge.{Branch, all_joins, applies_in, after_first, both, can_join, first_join}
use Rattle.merge_order.specs.Merge.{firsts, if_any, joined, joins, joins_upto, later, longest, longest_run}
use Rattle.merge_order.specs.Merge.{merged, turn, turns, unjoined, with_first}

-- ---- runs

some_cycles : (n : ℕ) → (n == 0) ≡ false → 1 ≤ n
some_cycles zero e = absurd cc
some_cycles (suc n) e = omega arith

module _ (P : SeenStep → Type 0) where
  longer : (n m : ℕ) → (1 ≤ n → P (Run n)) → (1 ≤ m → P (Run m)) → 1 ≤ max n m → P (Run (max n m))
  longer n m h k some = by_order (nat_lt n m) refl
    where
      by_order : (t : Bool) → nat_lt n m ≡ t → P (Run (max n m))
      by_order true e =
          let less = ltb-true n m e in
          let same : m ≡ max n m = omega (arith, less) in
          subst (λ x. P (Run x)) same (k (omega (arith, same, some)))
      by_order false e =
          let more = ltb-false n m e in
          let same : n ≡ max n m = omega (arith, more) in
          subst (λ x. P (Run x)) same (h (omega (arith, same, some)))

  longest_has : (ss : Branch) → All P ss → 1 ≤ longest_run ss → P (Run (longest_run ss))
  longest_has [] h some = absurd (omega (arith, some))
  longest_has (Apply rounds ∷ ss) h some = longer 0 (longest_run ss) (λ none. absurd (omega (arith, none)))
      (longest_has ss (All-tail P (Apply rounds) ss h)) some
  longest_has (Run n ∷ ss) h some = longer n (longest_run ss) (λ has. All-head P (Run n) ss h)
      (longest_has ss (All-tail P (Run n) ss h)) some
  longest_has (Reset ∷ ss) h some = longer 0 (longest_run ss) (λ none. absurd (omega (arith, none)))
      (longest_has ss (All-tail P Reset ss h)) some

  run_has : (n : ℕ) → (1 ≤ n → P (Run n)) → All P (if_any (run_of n))
  run_has n h = by_test (n == 0) refl
    where
      by_test : (t : Bool) → (n == 0) ≡ t → All P (if_any (cond t None (Some (Run n))))
      by_test true e = All-nil P
      by_test false e = All-cons P (Run n) [] (h (some_cycles n e)) (All-nil P)

-- ---- joins

module _ (places : Places) (P : SeenStep → Type 0) (join : (g h : SeenGroup) → can_join places g h ≡ true
    → P (Apply (g ∷ [])) → P (Apply (h ∷ [])) → P (Apply (both g h ∷ []))) where
  abbrev IsKept : List SeenGroup → Type 0
  IsKept rounds = P (Apply rounds)

  one_join : (g : SeenGroup) (a : List SeenGroup) → joins places g a ≡ true → P (Apply (g ∷ []))
      → IsKept a → P (Apply (with_first g a ∷ []))
  one_join g [] e one more = absurd cc
  one_join g (h ∷ []) e one more = join g h e one more
  one_join g (h ∷ i ∷ rest) e one more = absurd cc

  joined_has : (g : SeenGroup) (applies : List (List SeenGroup)) → P (Apply (g ∷ [])) → All IsKept applies
      → P (Apply (joined places g applies ∷ []))
  joined_has g [] h all = h
  joined_has g (a ∷ rest) h all =
      by_join (λ k r. joined_has k rest r (All-tail IsKept a rest all)) (joins places g a) refl
    where
      by_join : ((k : SeenGroup) → P (Apply (k ∷ [])) → P (Apply (joined places k rest ∷ [])))
          → (b : Bool) → joins places g a ≡ b
          → P (Apply (cond b (joined places (with_first g a) rest) (joined places g rest) ∷ []))
      by_join ih true e = ih (with_first g a) (one_join g a e h (All-head IsKept a rest all))
      by_join ih false e = ih g h

  unjoined_have : (g : SeenGroup) (applies : List (List SeenGroup)) → All IsKept applies
      → All IsKept (unjoined places g applies)
  unjoined_have g [] all = All-nil IsKept
  unjoined_have g (a ∷ rest) all =
      by_join (λ k. unjoined_have k rest (All-tail IsKept a rest all)) (joins places g a)
    where
      by_join : ((k : SeenGroup) → All IsKept (unjoined places k rest)) → (b : Bool)
          → All IsKept (cond b (unjoined places (with_first g a) rest) (a ∷ unjoined places g rest))
      by_join ih true = ih (with_first g a)
      by_join ih false = All-cons IsKept a (unjoined places g rest) (All-head IsKept a rest all) (ih g)

  first_has : (a : List SeenGroup) (rest : List (List SeenGroup)) → IsKept a
      → All IsKept rest → IsKept (first_join places a rest)
  first_has [] rest h all = h
  first_has (g ∷ []) rest h all = joined_has g rest h all
  first_has (g ∷ i ∷ more) rest h all = h

  after_have : (a : List SeenGroup) (rest : List (List SeenGroup)) → All IsKept rest
      → All IsKept (after_first places a rest)
  after_have [] rest all = all
  after_have (g ∷ []) rest all = unjoined_have g rest all
  after_have (g ∷ i ∷ more) rest all = all

  joins_have : (n : ℕ) (applies : List (List SeenGroup)) → All IsKept applies
      → All IsKept (joins_upto places n applies)
  joins_have zero applies all = All-nil IsKept
  joins_have (suc n) [] all = All-nil IsKept
  joins_have (suc n) (a ∷ rest) all =
      All-cons IsKept (first_join places a rest) (joins_upto places n (after_first places a rest))
      (first_has a rest (All-head IsKept a rest all) (All-tail IsKept a rest all))
      (joins_have n (after_first places a rest) (after_have a rest (All-tail IsKept a rest all)))

  applied_have : (ss : Branch) → All P ss → All IsKept (applies_in ss)
  applied_have [] h = All-nil IsKept
  applied_have (Apply rounds ∷ ss) h = All-cons IsKept rounds (applies_in ss) (All-head P (Apply rounds) ss h)
      (applied_have ss (All-tail P (Apply rounds) ss h))
  applied_have (Run n ∷ ss) h = applied_have ss (All-tail P (Run n) ss h)
  applied_have (Reset ∷ ss) h = applied_have ss (All-tail P Reset ss h)

  -- ---- turns

  turn_has : (ss : Branch) → All P ss → All P (turn places ss)
  turn_has ss h =
      All-append P (map Apply (all_joins places (applies_in ss))) (if_any (run_of (longest_run ss)))
      (All-map P Apply (all_joins places (applies_in ss))
      (joins_have (length (applies_in ss)) (applies_in ss) (applied_have ss h)))
      (run_has P (longest_run ss) (longest_has P ss h))

  firsts_have : (bs : List Branch) → All (All P) bs → All P (firsts bs)
  firsts_have [] h = All-nil P
  firsts_have ([] ∷ bs) h = firsts_have bs (All-tail (All P) [] bs h)
  firsts_have ((s ∷ ss) ∷ bs) h = All-cons P s (firsts bs) (All-head P s ss (All-head (All P) (s ∷ ss) bs h))
      (firsts_have bs (All-tail (All P) (s ∷ ss) bs h))

  later_have : (bs : List Branch) → All (All P) bs → All (All P) (later bs)
  later_have [] h = All-nil (All P)
  later_have ([] ∷ bs) h = later_have bs (All-tail (All P) [] bs h)
  later_have ((s ∷ ss) ∷ bs) h = All-cons (All P) ss (later bs)
      (All-tail P s ss (All-head (All P) (s ∷ ss) bs h)) (later_have bs (All-tail (All P) (s ∷ ss) bs h))

  turns_have : (n : ℕ) (bs : List Branch) → All (All P) bs → All P (turns places n bs)
  turns_have zero bs h = All-nil P
  turns_have (suc n) bs h =
      All-append P (turn places (firsts bs)) (turns places n (later bs))
      (turn_has (firsts bs) (firsts_have bs h)) (turns_have n (later bs) (later_have bs h))

  pub merged_have : (bs : List Branch) → All (All P) bs → All P (merged places bs)
  merged_have bs h = turns_have (longest bs) bs h
