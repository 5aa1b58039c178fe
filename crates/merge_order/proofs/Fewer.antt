-- A merge asks for no more than its branches together.
use Rattle.std.proofs.Common.{◌≡◌, ◌≤◌, ◌+◌, ◌==◌, ℕ, zero, suc, max, Bool, true, false, cond, List, [], ◌∷◌}
use Rattle.std.proofs.Common.{◌++◌, length, map, Some, None, refl, ap, arith}
use Rattle.std.proofs.lemmas.Bool.{eqb-true}
use Rattle.std.proofs.lemmas.List.{length-append, length-map}
use Rattle.net_graph.specs.SeenSteps.{SeenGroup, Apply, Run, Reset}
use Rattle.pdl_targets.specs.Binding.{run_of}
use Rattle.pdl_targets.specs.Laws.{cycles_in, cycles_of, rounds_in}
use Rattle.pdl_targets.specs.Rounds.{Places}
use Rattle.merge_order.specs.Laws.{in_all, MergedCyclesAreFew, MergedRoundsAreFew, MergedRunsAreShort}
use Rattle.merge_order.specs.Laws.{MergedStepsAreFew}
use Rattle.merge_order.specs.Merge.{Branch, all_joins, applies_in, after_first, first_join, firsts, if_any}
use Rattle.merge_order.specs.Merge.{joins, joins_upto, later, longest, longest_run, merged, turn, turns}
use Rattle.merge_order.specs.Merge.{unjoined, with_first}
use Rattle.merge_order.proofs.Kept.{merged_have}

-- ---- what is counted turn by turn

module _ (places : Places) (count : Branch → ℕ) (none : count [] ≡ 0) (both : (a b : Branch)
    → count (a ++ b) ≡ count a + count b) (less : (ss : Branch) → count (turn places ss) ≤ count ss) where
  split : (bs : List Branch) → count (firsts bs) + in_all count (later bs) ≡ in_all count bs
  split [] = omega (arith, none)
  split ([] ∷ bs) = let ih = split bs in omega (arith, none, ih)
  split ((s ∷ ss) ∷ bs) =
      let ih = split bs in
      let one = both (s ∷ []) (firsts bs) in
      let all = both (s ∷ []) ss in
      omega (arith, ih, one, all)

  turns_less : (n : ℕ) (bs : List Branch) → count (turns places n bs) ≤ in_all count bs
  turns_less zero bs = omega (arith, none)
  turns_less (suc n) bs =
      let ih = turns_less n (later bs) in
      let two = both (turn places (firsts bs)) (turns places n (later bs)) in
      let first = less (firsts bs) in
      let all = split bs in
      omega (arith, ih, two, first, all)

  merged_less : (bs : List Branch) → count (merged places bs) ≤ in_all count bs
  merged_less bs = turns_less (longest bs) bs

-- ---- bit steps

at_most_one : (n : ℕ) → length (if_any (run_of n)) ≤ 1
at_most_one n = by_test (n == 0)
  where
    by_test : (t : Bool) → length (if_any (cond t None (Some (Run n)))) ≤ 1
    by_test true = omega arith
    by_test false = omega arith

no_less : (n : ℕ) → max 0 n ≡ n
no_less n = omega arith

steps_fit : (ss : Branch) → length (applies_in ss) + length (if_any (run_of (longest_run ss))) ≤ length ss
steps_fit [] = omega arith
steps_fit (Apply rounds ∷ ss) =
    let ih = steps_fit ss in
    let same = ap (λ n. length (if_any (run_of n))) (no_less (longest_run ss)) in
    omega (arith, ih, same)
steps_fit (Run n ∷ ss) =
    let ih = steps_fit ss in
    let one = at_most_one (max n (longest_run ss)) in
    omega (arith, ih, one)
steps_fit (Reset ∷ ss) =
    let ih = steps_fit ss in
    let same = ap (λ n. length (if_any (run_of n))) (no_less (longest_run ss)) in
    omega (arith, ih, same)

module _ (places : Places) where
  joins_few : (n : ℕ) (applies : List (List SeenGroup)) → length (joins_upto places n applies) ≤ n
  joins_few zero applies = omega arith
  joins_few (suc n) [] = omega arith
  joins_few (suc n) (a ∷ rest) = let ih = joins_few n (after_first places a rest) in omega (arith, ih)

  steps_less : (ss : Branch) → length (turn places ss) ≤ length ss
  steps_less ss =
      let few = joins_few (length (applies_in ss)) (applies_in ss) in
      let fit = steps_fit ss in
      let two = length-append (map Apply (all_joins places (applies_in ss)))
      (if_any (run_of (longest_run ss))) in
      let same = length-map (all_joins places (applies_in ss)) Apply in
      omega (arith, few, fit, two, same)

pub merged_steps_are_few : MergedStepsAreFew
merged_steps_are_few places =
    merged_less places (λ b. length b) refl (λ a b. length-append a b) (steps_less places)

-- ---- rounds

pub rounds_both : (a b : Branch) → rounds_in (a ++ b) ≡ rounds_in a + rounds_in b
rounds_both [] b = omega arith
rounds_both (s ∷ ss) b = let ih = rounds_both ss b in omega (arith, ih)

abbrev sum_rounds : List (List SeenGroup) → ℕ
sum_rounds [] = 0
sum_rounds (a ∷ rest) = length a + sum_rounds rest

rounds_are : (applies : List (List SeenGroup)) → rounds_in (map Apply applies) ≡ sum_rounds applies
rounds_are [] = refl
rounds_are (a ∷ rest) = ap (λ n. length a + n) (rounds_are rest)

applied_rounds : (ss : Branch) → sum_rounds (applies_in ss) ≡ rounds_in ss
applied_rounds [] = refl
applied_rounds (Apply rounds ∷ ss) = ap (λ n. length rounds + n) (applied_rounds ss)
applied_rounds (Run n ∷ ss) = let ih = applied_rounds ss in omega (arith, ih)
applied_rounds (Reset ∷ ss) = let ih = applied_rounds ss in omega (arith, ih)

no_rounds : (n : ℕ) → rounds_in (if_any (run_of n)) ≡ 0
no_rounds n = by_test (n == 0)
  where
    by_test : (t : Bool) → rounds_in (if_any (cond t None (Some (Run n)))) ≡ 0
    by_test true = refl
    by_test false = omega arith

module _ (places : Places) where
  unjoined_less : (g : SeenGroup) (applies : List (List SeenGroup))
      → sum_rounds (unjoined places g applies) ≤ sum_rounds applies
  unjoined_less g [] = omega arith
  unjoined_less g (a ∷ rest) = by_join (λ h. unjoined_less h rest) (joins places g a)
    where
      by_join : ((h : SeenGroup) → sum_rounds (unjoined places h rest) ≤ sum_rounds rest) → (b : Bool)
          → sum_rounds (cond b (unjoined places (with_first g a) rest) (a ∷ unjoined places g rest))
          ≤ sum_rounds (a ∷ rest)
      by_join ih true = let less = ih (with_first g a) in omega (arith, less)
      by_join ih false = let less = ih g in omega (arith, less)

  first_less : (a : List SeenGroup) (rest : List (List SeenGroup))
      → length (first_join places a rest) + sum_rounds (after_first places a rest) ≤ sum_rounds (a ∷ rest)
  first_less [] rest = omega arith
  first_less (g ∷ []) rest = let less = unjoined_less g rest in omega (arith, less)
  first_less (g ∷ h ∷ more) rest = omega arith

  joins_less : (n : ℕ) (applies : List (List SeenGroup))
      → sum_rounds (joins_upto places n applies) ≤ sum_rounds applies
  joins_less zero applies = omega arith
  joins_less (suc n) [] = omega arith
  joins_less (suc n) (a ∷ rest) =
      let ih = joins_less n (after_first places a rest) in
      let first = first_less a rest in
      omega (arith, ih, first)

  rounds_less : (ss : Branch) → rounds_in (turn places ss) ≤ rounds_in ss
  rounds_less ss =
      let two = rounds_both (map Apply (all_joins places (applies_in ss)))
      (if_any (run_of (longest_run ss))) in
      let joined = rounds_are (all_joins places (applies_in ss)) in
      let less = joins_less (length (applies_in ss)) (applies_in ss) in
      let all = applied_rounds ss in
      let none = no_rounds (longest_run ss) in
      omega (arith, two, joined, less, all, none)

pub merged_rounds_are_few : MergedRoundsAreFew
merged_rounds_are_few places = merged_less places rounds_in refl rounds_both (rounds_less places)

-- ---- run cycles

pub cycles_both : (a b : Branch) → cycles_in (a ++ b) ≡ cycles_in a + cycles_in b
cycles_both [] b = omega arith
cycles_both (s ∷ ss) b = let ih = cycles_both ss b in omega (arith, ih)

no_cycles : (applies : List (List SeenGroup)) → cycles_in (map Apply applies) ≡ 0
no_cycles [] = refl
no_cycles (a ∷ rest) = let ih = no_cycles rest in omega (arith, ih)

run_cycles : (n : ℕ) → cycles_in (if_any (run_of n)) ≡ n
run_cycles n = by_test (n == 0) refl
  where
    by_test : (t : Bool) → (n == 0) ≡ t → cycles_in (if_any (cond t None (Some (Run n)))) ≡ n
    by_test true e = let zero_cycles = eqb-true n 0 e in omega (arith, zero_cycles)
    by_test false e = omega arith

longest_less : (ss : Branch) → longest_run ss ≤ cycles_in ss
longest_less [] = omega arith
longest_less (Apply rounds ∷ ss) = let ih = longest_less ss in omega (arith, ih)
longest_less (Run n ∷ ss) = let ih = longest_less ss in omega (arith, ih)
longest_less (Reset ∷ ss) = let ih = longest_less ss in omega (arith, ih)

module _ (places : Places) where
  cycles_less : (ss : Branch) → cycles_in (turn places ss) ≤ cycles_in ss
  cycles_less ss =
      let two = cycles_both (map Apply (all_joins places (applies_in ss)))
      (if_any (run_of (longest_run ss))) in
      let none = no_cycles (all_joins places (applies_in ss)) in
      let one = run_cycles (longest_run ss) in
      let less = longest_less ss in
      omega (arith, two, none, one, less)

pub merged_cycles_are_few : MergedCyclesAreFew
merged_cycles_are_few places = merged_less places cycles_in refl cycles_both (cycles_less places)

-- ---- the longest run

pub merged_runs_are_short : MergedRunsAreShort
merged_runs_are_short places branches n h =
    merged_have places (λ s. cycles_of (Some s) ≤ n) (λ g i e a b. omega arith) branches h
