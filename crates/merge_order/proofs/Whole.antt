-- A merge does what its branches do: nothing is lost where iApplys join, and nothing is done twice.
use Rattle.std.proofs.Common.{◌≡◌, ◌≤◌, ◌+◌, ◌==◌, ℕ, zero, suc, Bool, true, false, cond, List, [], ◌∷◌, ◌++◌}
use Rattle.std.proofs.Common.{length, length-append, map, Some, None, refl, sym, ap, ◌∙◌, arith}
use Rattle.std.specs.Prelude.{filter, flat_map}
use Rattle.std.proofs.lemmas.List.Elements.{filter-append}
use Rattle.net_graph.specs.declared.step.ReadBit.{ReadBit}
use Rattle.net_graph.specs.declared.step.WriteBit.{WriteBit}
use Rattle.net_graph.specs.SeenSteps.{SeenGroup, Apply, Run, Reset}
use Rattle.pdl_targets.specs.Binding.{run_of}
use Rattle.pdl_targets.specs.Laws.{rounds_of}
use Rattle.pdl_targets.specs.Rounds.{Places}
use Rattle.merge_order.specs.Laws.{in_all, writes_in, reads_in, MergesHaveEachWrite, MergesHaveEachRead}
use Rattle.merge_order.specs.Merge.{Branch, all_joins, applies_in, after_first, both, first_join, firsts}
use Rattle.merge_order.specs.Merge.{if_any, joined, joins, joins_upto, later, longest, longest_run, merged}
use Rattle.merge_order.specs.Merge.{turn, turns, unjoined, with_first}
use Rattle.merge_order.proofs.Turning.{after_few, longest_later}

-- ---- a weight of each round, which joined rounds have together

module _ (weight : SeenGroup → ℕ) where
  abbrev in_rounds : List SeenGroup → ℕ
  in_rounds [] = 0
  in_rounds (g ∷ gs) = weight g + in_rounds gs

  abbrev in_steps : Branch → ℕ
  in_steps [] = 0
  in_steps (s ∷ ss) = in_rounds (rounds_of (Some s)) + in_steps ss

  abbrev in_applies : List (List SeenGroup) → ℕ
  in_applies [] = 0
  in_applies (a ∷ rest) = in_rounds a + in_applies rest

  steps_both : (a b : Branch) → in_steps (a ++ b) ≡ in_steps a + in_steps b
  steps_both [] b = omega arith
  steps_both (s ∷ ss) b = let ih = steps_both ss b in omega (arith, ih)

  of_applies : (applies : List (List SeenGroup)) → in_steps (map Apply applies) ≡ in_applies applies
  of_applies [] = refl
  of_applies (a ∷ rest) = ap (λ n. in_rounds a + n) (of_applies rest)

  applied_all : (ss : Branch) → in_applies (applies_in ss) ≡ in_steps ss
  applied_all [] = refl
  applied_all (Apply rounds ∷ ss) = ap (λ n. in_rounds rounds + n) (applied_all ss)
  applied_all (Run n ∷ ss) = let ih = applied_all ss in omega (arith, ih)
  applied_all (Reset ∷ ss) = let ih = applied_all ss in omega (arith, ih)

  no_weight : (n : ℕ) → in_steps (if_any (run_of n)) ≡ 0
  no_weight n = by_test (n == 0)
    where
      by_test : (t : Bool) → in_steps (if_any (cond t None (Some (Run n)))) ≡ 0
      by_test true = refl
      by_test false = omega arith

  split : (bs : List Branch) → in_steps (firsts bs) + in_all in_steps (later bs) ≡ in_all in_steps bs
  split [] = omega arith
  split ([] ∷ bs) = let ih = split bs in omega (arith, ih)
  split ((s ∷ ss) ∷ bs) = let ih = split bs in omega (arith, ih)

  none_left : (bs : List Branch) → longest bs ≡ 0 → in_all in_steps bs ≡ 0
  none_left [] h = refl
  none_left ([] ∷ bs) h = let ih = none_left bs (omega (arith, h)) in omega (arith, ih)
  none_left ((s ∷ ss) ∷ bs) h = absurd (omega (arith, h))

  module _ (places : Places) (together : (g h : SeenGroup) → weight (both g h) ≡ weight g + weight h) where
    one_join : (g : SeenGroup) (a : List SeenGroup) → joins places g a ≡ true
        → weight (with_first g a) ≡ weight g + in_rounds a
    one_join g [] e = absurd cc
    one_join g (h ∷ []) e = let two = together g h in omega (arith, two)
    one_join g (h ∷ i ∷ more) e = absurd cc

    joined_all : (g : SeenGroup) (applies : List (List SeenGroup))
        → weight (joined places g applies) + in_applies (unjoined places g applies)
        ≡ weight g + in_applies applies
    joined_all g [] = refl
    joined_all g (a ∷ rest) = by_join (λ h. joined_all h rest) (joins places g a) refl
      where
        by_join : ((h : SeenGroup) → weight (joined places h rest) + in_applies (unjoined places h rest)
            ≡ weight h + in_applies rest) → (b : Bool) → joins places g a ≡ b
            → weight (cond b (joined places (with_first g a) rest) (joined places g rest)) + in_applies
            (cond b (unjoined places (with_first g a) rest) (a ∷ unjoined places g rest))
            ≡ weight g + in_applies (a ∷ rest)
        by_join ih true e = let all = ih (with_first g a) in
            let two = one_join g a e in omega (arith, all, two)
        by_join ih false e = let all = ih g in omega (arith, all)

    first_all : (a : List SeenGroup) (rest : List (List SeenGroup))
        → in_rounds (first_join places a rest) + in_applies (after_first places a rest)
        ≡ in_applies (a ∷ rest)
    first_all [] rest = refl
    first_all (g ∷ []) rest = let all = joined_all g rest in omega (arith, all)
    first_all (g ∷ h ∷ more) rest = refl

    joins_all : (n : ℕ) (applies : List (List SeenGroup)) → length applies ≤ n
        → in_applies (joins_upto places n applies) ≡ in_applies applies
    joins_all zero [] h = refl
    joins_all zero (a ∷ rest) h = absurd (omega (arith, h))
    joins_all (suc n) [] h = refl
    joins_all (suc n) (a ∷ rest) h =
        let few = after_few places a rest in
        let ih = joins_all n (after_first places a rest) (omega (arith, h, few)) in
        let first = first_all a rest in
        omega (arith, ih, first)

    turn_all : (ss : Branch) → in_steps (turn places ss) ≡ in_steps ss
    turn_all ss =
        let two = steps_both (map Apply (all_joins places (applies_in ss)))
        (if_any (run_of (longest_run ss))) in
        let same = of_applies (all_joins places (applies_in ss)) in
        let all = joins_all (length (applies_in ss)) (applies_in ss) (omega arith) in
        let begun = applied_all ss in
        let none = no_weight (longest_run ss) in
        omega (arith, two, same, all, begun, none)

    turns_all : (n : ℕ) (bs : List Branch) → longest bs ≤ n
        → in_steps (turns places n bs) ≡ in_all in_steps bs
    turns_all zero bs h = let none = none_left bs (omega (arith, h)) in omega (arith, none)
    turns_all (suc n) bs h =
        let less = longest_later bs in
        let ih = turns_all n (later bs) (omega (arith, h, less)) in
        let two = steps_both (turn places (firsts bs)) (turns places n (later bs)) in
        let first = turn_all (firsts bs) in
        let all = split bs in
        omega (arith, ih, two, first, all)

    pub merged_all : (bs : List Branch) → in_steps (merged places bs) ≡ in_all in_steps bs
    merged_all bs = turns_all (longest bs) bs (omega arith)

-- ---- writes and reads

-- what passes a test, in each round
module _ {X : Type 0} (part : SeenGroup → List X) (test : X → Bool) where
  abbrev passing : SeenGroup → ℕ
  passing g = length (filter test (part g))

  count_both : (xs ys : List X)
      → length (filter test (xs ++ ys)) ≡ length (filter test xs) + length (filter test ys)
  count_both xs ys = ap length (filter-append test xs ys) ∙ length-append (filter test xs) (filter test ys)

  of_rounds : (gs : List SeenGroup) → length (filter test (flat_map part gs)) ≡ in_rounds passing gs
  of_rounds [] = refl
  of_rounds (g ∷ gs) = count_both (part g) (flat_map part gs) ∙ ap (λ n. passing g + n) (of_rounds gs)

all_same : (f h : Branch → ℕ) → ((b : Branch) → f b ≡ h b) → (bs : List Branch) → in_all f bs ≡ in_all h bs
all_same f h same [] = refl
all_same f h same (b ∷ bs) = let ih = all_same f h same bs in let one = same b in omega (arith, ih, one)

module _ (test : WriteBit → Bool) where
  writes_are : (ss : Branch)
      → length (filter test (writes_in ss)) ≡ in_steps (passing (λ g. g.writes) test) ss
  writes_are [] = refl
  writes_are (s ∷ ss) =
      let two = count_both (λ g. g.writes) test
      (flat_map (λ (g : SeenGroup). g.writes) (rounds_of (Some s))) (writes_in ss) in
      let one = of_rounds (λ g. g.writes) test (rounds_of (Some s)) in
      let ih = writes_are ss in
      omega (arith, two, one, ih)

module _ (test : ReadBit → Bool) where
  reads_are : (ss : Branch) → length (filter test (reads_in ss)) ≡ in_steps (passing (λ g. g.reads) test) ss
  reads_are [] = refl
  reads_are (s ∷ ss) =
      let two = count_both (λ g. g.reads) test
      (flat_map (λ (g : SeenGroup). g.reads) (rounds_of (Some s))) (reads_in ss) in
      let one = of_rounds (λ g. g.reads) test (rounds_of (Some s)) in
      let ih = reads_are ss in
      omega (arith, two, one, ih)

pub merges_have_each_write : MergesHaveEachWrite
merges_have_each_write places branches test =
    writes_are test (merged places branches)
    ∙ merged_all (passing (λ g. g.writes) test) places
    (λ g h. count_both (λ g. g.writes) test g.writes h.writes) branches
    ∙ sym (all_same (λ b. length (filter test (writes_in b)))
    (in_steps (passing (λ g. g.writes) test)) (writes_are test) branches)

pub merges_have_each_read : MergesHaveEachRead
merges_have_each_read places branches test =
    reads_are test (merged places branches)
    ∙ merged_all (passing (λ g. g.reads) test) places
    (λ g h. count_both (λ g. g.reads) test g.reads h.reads) branches
    ∙ sym (all_same (λ b. length (filter test (reads_in b)))
    (in_steps (passing (λ g. g.reads) test)) (reads_are test) branches)
