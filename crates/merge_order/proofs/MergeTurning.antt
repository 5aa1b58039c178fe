-- Each bit step of a branch is done in its turn.
use Rattle.std.proofs.Common.{◌≡◌, ◌≤◌, ◌==◌, ◌⊎◌, inl, inr, ⊎_elim, ℕ, zero, suc, Bool, true, false, cond}
use Rattle.std.proofs.Common.{List, [], ◌∷◌, ◌++◌, length, map, Some, None, refl, arith}
use Rattle.std.specs.Prelude.{All}
use Rattle.std.proofs.lemmas.Bool.{eqb-true}
use Rattle.std.proofs.lemmas.List.Elements.{All-cons, All-nil}
use Rattle.net_graph.specs.SeenSteps.{SeenGroup, SeenStep, Apply, Run, Reset}
use Rattle.pdl_targets.specs.Binding.{run_of}
use Rattle.pdl_targets.specs.Rounds.{Places}
use Rattle.merge_order.specs.Laws.{IsTurn, AreTurns}
use Rattle.merge_order.specs.Merge.{Branch, all_joins, applies_in, firsts, if_any, later, longest}
use Rattle.merge_order.specs.Merge.{longest_run, merged, turn, turns}
use Rattle.merge_order.proofs.Turning.{longest_later}
use Rattle.merge_order.specs.Order.{Does, DoBranch}
use Rattle.merge_order.specs.MergeLaws.{MergesDoEachBranch}
use Rattle.merge_order.proofs.MergeJoining.{Each, OneDoes, each_is_joined}
use Rattle.std.proofs.Math.Nat.{le-max_left, le-max_right}

-- ---- bit steps after others

pub do_after : (front ms : List SeenStep) (b : Branch) → DoBranch ms b → DoBranch (front ++ ms) b
do_after front ms [] h = tt
do_after [] ms (s ∷ ss) h = h
do_after (f ∷ front) ms (s ∷ ss) h = inr (do_after front ms (s ∷ ss) h)

-- one of these does a bit step
abbrev OneStep : List SeenStep → SeenStep → Type 0
OneStep [] s = ⊥
OneStep (m ∷ ms) s = Does m s ⊎ OneStep ms s

one_front : (ms more : List SeenStep) (s : SeenStep) → OneStep ms s → OneStep (ms ++ more) s
one_front [] more s h = absurd h
one_front (m ∷ ms) more s h = ⊎_elim (λ d. inl d) (λ r. inr (one_front ms more s r)) h

one_after : (front ms : List SeenStep) (s : SeenStep) → OneStep ms s → OneStep (front ++ ms) s
one_after [] ms s h = h
one_after (f ∷ front) ms s h = inr (one_after front ms s h)

then_rest : (ts ms : List SeenStep) (s : SeenStep) (ss : Branch) → OneStep ts s
    → DoBranch ms ss → DoBranch (ts ++ ms) (s ∷ ss)
then_rest [] ms s ss h k = absurd h
then_rest (t ∷ ts) ms s ss h k =
    ⊎_elim (λ d. inl (d, do_after ts ms ss k)) (λ r. inr (then_rest ts ms s ss r k)) h

-- ---- a turn

one_apply : (applies : List (List SeenGroup)) (gs : List SeenGroup) → OneDoes applies gs
    → OneStep (map Apply applies) (Apply gs)
one_apply [] gs h = absurd h
one_apply (a ∷ rest) gs h = ⊎_elim (λ d. inl d) (λ r. inr (one_apply rest gs r)) h

one_run : (most n : ℕ) → 1 ≤ n → n ≤ most → OneStep (if_any (run_of most)) (Run n)
one_run most n some few = by_test (most == 0) refl
  where
    by_test : (b : Bool) → (most == 0) ≡ b → OneStep (if_any (cond b None (Some (Run most)))) (Run n)
    by_test true e = let none = eqb-true most 0 e in absurd (omega (arith, some, few, none))
    by_test false e = inl few

-- each bit step, if it is one of a branch
abbrev EachStep : (SeenStep → Type 0) → List SeenStep → Type 0
EachStep P [] = Unit {0}
EachStep P (s ∷ ss) = P s × EachStep P ss

module _ (places : Places) where
  -- the bit steps of a turn, done by its joins and its run
  steps_done : (joins : List (List SeenGroup)) (most : ℕ) (ss : List SeenStep)
      → Each (OneDoes joins) (applies_in ss) → longest_run ss ≤ most
      → EachStep (λ s. IsTurn s → OneStep (map Apply joins ++ if_any (run_of most)) s) ss
  steps_done joins most [] each few = tt
  steps_done joins most (Apply gs ∷ ss) each few =
      let less = le-max_right 0 (longest_run ss) in (
        (λ is. one_front (map Apply joins) (if_any (run_of most)) (Apply gs) (one_apply joins gs each.0)),
        steps_done joins most ss each.1 (omega (arith, few, less)),
      )
  steps_done joins most (Run n ∷ ss) each few =
      let first = le-max_left n (longest_run ss) in
      let second = le-max_right n (longest_run ss) in (
        (λ is. one_after (map Apply joins) (if_any (run_of most)) (Run n) (one_run most n is
            (omega (arith, few, first)))),
        steps_done joins most ss each (omega (arith, few, second)),
      )
  steps_done joins most (Reset ∷ ss) each few =
      let less = le-max_right 0 (longest_run ss) in
      ((λ is. absurd is), steps_done joins most ss each (omega (arith, few, less)))

  turn_does : (ss : List SeenStep) → EachStep (λ s. IsTurn s → OneStep (turn places ss) s) ss
  turn_does ss = steps_done (all_joins places (applies_in ss)) (longest_run ss) ss
      (each_is_joined places (applies_in ss)) (omega arith)

-- ---- all turns

abbrev EachBranch : List SeenStep → List Branch → Type 0
EachBranch ms [] = Unit {0}
EachBranch ms (b ∷ bs) = (AreTurns b → DoBranch ms b) × EachBranch ms bs

turn_and_rest : (ts ms : List SeenStep) (bs : List Branch)
    → EachStep (λ s. IsTurn s → OneStep ts s) (firsts bs)
    → EachBranch ms (later bs) → EachBranch (ts ++ ms) bs
turn_and_rest ts ms [] h k = tt
turn_and_rest ts ms ([] ∷ bs) h k = ((λ are. tt), turn_and_rest ts ms bs h k)
turn_and_rest ts ms ((s ∷ ss) ∷ bs) h k =
    ((λ are. then_rest ts ms s ss (h.0 are.0) (k.0 are.1)), turn_and_rest ts ms bs h.1 k.1)

none_left : (bs : List Branch) → longest bs ≤ 0 → EachBranch [] bs
none_left [] h = tt
none_left ([] ∷ bs) h =
    let l = le-max_right 0 (longest bs) in
    ((λ are. tt), none_left bs (omega (arith, h, l)))
none_left ((s ∷ ss) ∷ bs) h =
    let l = le-max_left (length (s ∷ ss)) (longest bs) in absurd (omega (arith, h, l))

module _ (places : Places) where
  turns_do : (n : ℕ) (bs : List Branch) → longest bs ≤ n → EachBranch (turns places n bs) bs
  turns_do zero bs h = none_left bs h
  turns_do (suc n) bs h =
      let less = longest_later bs in
      turn_and_rest (turn places (firsts bs)) (turns places n (later bs)) bs (turn_does places (firsts bs))
      (turns_do n (later bs) (omega (arith, h, less)))

  pub merged_does : (bs : List Branch) → EachBranch (merged places bs) bs
  merged_does bs = turns_do (longest bs) bs (omega arith)

  -- one of the branches
  pub one_is_done : (ms : List SeenStep) (before : List Branch) (b : Branch) (following : List Branch)
      → EachBranch ms (before ++ b ∷ following) → AreTurns b → DoBranch ms b
  one_is_done ms [] b following h are = h.0 are
  one_is_done ms (c ∷ before) b following h are = one_is_done ms before b following h.1 are

all_are : (ms : List SeenStep) (bs : List Branch) → EachBranch ms bs
    → All (λ b. AreTurns b → DoBranch ms b) bs
all_are ms [] h = All-nil (λ b. AreTurns b → DoBranch ms b)
all_are ms (b ∷ bs) h = All-cons (λ b. AreTurns b → DoBranch ms b) b bs h.0 (all_are ms bs h.1)

pub merges_do_each_branch : MergesDoEachBranch
merges_do_each_branch places branches =
    all_are (merged places branches) branches (merged_does places branches)
