-- Joins and turns, one after the other.
use Rattle.std.proofs.Common.{◌≡◌, ◌<◌, ◌≤◌, ◌+◌, ◌-◌, ◌==◌, ℕ, zero, suc, Bool, true, false, cond, List, []}
use Rattle.std.proofs.Common.{◌∷◌, ◌++◌, length, refl, sym, ap, ◌∙◌, append_assoc, arith}
use Rattle.std.specs.Borrow.{Bor}
use Rattle.std.proofs.lemmas.List.{map-append}
use Rattle.ij_bits.specs.Room.{Listed}
use Rattle.net_graph.specs.declared.step.BitStep.{BitStep}
use Rattle.net_graph.specs.declared.step.BitStep.TheVariants.{Apply as ApplyStep}
use Rattle.net_graph.specs.declared.step.Group.{Group}
use Rattle.net_graph.specs.SeenSteps.{SeenGroup, SeenStep, Apply, seen_step}
use Rattle.pdl_targets.specs.Rounds.{Places}
use Rattle.pdl_targets.specs.SeenRounds.{seen_groups}
use Rattle.merge_order.specs.Merge.{Branch, after_first, firsts, joins, later, longest, merged, turn, turns}
use Rattle.merge_order.specs.Merge.{unjoined, with_first}
use Rattle.merge_order.specs.SeenTurns.{seen_slices, seen_steps}

-- ---- joins

module _ (places : Places) where
  unjoined_few : (g : SeenGroup) (applies : List (List SeenGroup))
      → length (unjoined places g applies) ≤ length applies
  unjoined_few g [] = omega arith
  unjoined_few g (a ∷ rest) = by_join (λ h. unjoined_few h rest) (joins places g a)
    where
      by_join : ((h : SeenGroup) → length (unjoined places h rest) ≤ length rest) → (b : Bool)
          → length (cond b (unjoined places (with_first g a) rest) (a ∷ unjoined places g rest))
          ≤ length (a ∷ rest)
      by_join ih true = let few = ih (with_first g a) in omega (arith, few)
      by_join ih false = let few = ih g in omega (arith, few)

  pub after_few : (first : List SeenGroup) (more : List (List SeenGroup))
      → length (after_first places first more) ≤ length more
  after_few [] more = omega arith
  after_few (g ∷ []) more = unjoined_few g more
  after_few (g ∷ h ∷ rest) more = omega arith

-- ---- turns

pub longest_later : (bs : List Branch) → longest (later bs) ≡ longest bs - 1
longest_later [] = refl
longest_later ([] ∷ bs) = let ih = longest_later bs in omega (arith, ih)
longest_later ((s ∷ ss) ∷ bs) = let ih = longest_later bs in omega (arith, ih)

pub later_few : (bs : List Branch) → length (later bs) ≤ length bs
later_few [] = omega arith
later_few ([] ∷ bs) = let ih = later_few bs in omega (arith, ih)
later_few ((s ∷ ss) ∷ bs) = let ih = later_few bs in omega (arith, ih)

no_firsts : (bs : List Branch) → longest bs ≡ 0 → firsts bs ≡ []
no_firsts [] h = refl
no_firsts ([] ∷ bs) h = no_firsts bs (omega (arith, h))
no_firsts ((s ∷ ss) ∷ bs) h = absurd (omega (arith, h))

pub no_later : (bs : List Branch) → longest bs ≡ 0 → later bs ≡ []
no_later [] h = refl
no_later ([] ∷ bs) h = no_later bs (omega (arith, h))
no_later ((s ∷ ss) ∷ bs) h = absurd (omega (arith, h))

module _ (places : Places) where
  pub merged_next : (bs : List Branch)
      → merged places bs ≡ turn places (firsts bs) ++ merged places (later bs)
  merged_next bs = by_longest (longest bs) refl
    where
      by_longest : (n : ℕ) → longest bs ≡ n
          → turns places n bs ≡ turn places (firsts bs) ++ merged places (later bs)
      by_longest zero h = sym (ap (λ l. turn places l ++ merged places (later bs)) (no_firsts bs h)
          ∙ ap (merged places) (no_later bs h))
      by_longest (suc n) h =
          let l : longest (later bs) ≡ n = let e = longest_later bs in omega (arith, e, h) in
          ap (λ k. turn places (firsts bs) ++ turns places k (later bs)) (sym l)

-- a turn takes a bit step of a branch, or a branch without one
pub turn_smaller : (b : Branch) (bs : List Branch)
    → longest (later (b ∷ bs)) + length (later (b ∷ bs)) + 1 ≤ longest (b ∷ bs) + length (b ∷ bs)
turn_smaller [] bs = let l = longest_later bs in let few = later_few bs in omega (arith, l, few)
turn_smaller (s ∷ ss) bs =
    let l = longest_later ((s ∷ ss) ∷ bs) in
    let few = later_few bs in omega (arith, l, few)

-- ---- loops

pub fewer_branches : (n : ℕ) (empty : Bool) (lefts xs nexts : List (Bor (List BitStep))) → xs ≡ lefts
    → length xs ≡ n → empty ≡ (n == 0) → empty ≡ false
    → seen_slices nexts ≡ later (seen_slices xs)
    → longest (seen_slices nexts) + length (seen_slices nexts)
    < longest (seen_slices lefts) + length (seen_slices lefts)
fewer_branches zero empty lefts [] nexts same len is none next = absurd cc
fewer_branches (suc n) empty lefts [] nexts same len is none next = absurd (omega (arith, len))
fewer_branches n empty lefts (x ∷ xs) nexts same len is none next =
    let fewer = turn_smaller (seen_steps x.now) (seen_slices xs) in
    let a = ap longest next in
    let b = ap length next in
    let c = ap (λ l. longest (seen_slices l)) same in
    let d = ap (λ l. length (seen_slices l)) same in
    omega (arith, fewer, a, b, c, d)

pub one_turn_more : (places : Places) (old new : List SeenStep) (heads : List SeenStep)
    (lefts nexts : List Branch) (all : List SeenStep)
    → new ≡ old ++ turn places heads → heads ≡ firsts lefts → nexts ≡ later lefts
    → old ++ merged places lefts ≡ all → new ++ merged places nexts ≡ all
one_turn_more places old new heads lefts nexts all is are next so_far =
    ap (λ l. l ++ merged places nexts) is
    ∙ append_assoc old (turn places heads) (merged places nexts)
    ∙ ap (λ l. old ++ l)
    (ap (λ h. turn places h ++ merged places nexts) are
    ∙ ap (λ l. turn places (firsts lefts) ++ merged places l) next ∙ sym (merged_next places lefts))
    ∙ so_far
