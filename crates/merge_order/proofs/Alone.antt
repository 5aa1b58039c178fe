-- A branch that is merged with no other.
use Rattle.std.proofs.Common.{◌≡◌, ◌≤◌, ℕ, ◌==◌, Bool, true, false, cond, [], ◌∷◌, ◌++◌, length, Some, None}
use Rattle.std.proofs.Common.{refl, ap, ◌∙◌, arith}
use Rattle.std.proofs.lemmas.Bool.{eqb-true}
use Rattle.std.proofs.Math.Nat.{max-zero}
use Rattle.net_graph.specs.SeenSteps.{SeenStep, Apply, Run, Reset}
use Rattle.pdl_targets.specs.Binding.{run_of}
use Rattle.pdl_targets.specs.Rounds.{Places}
use Rattle.merge_order.specs.Merge.{Branch, turn, turns, if_any}
use Rattle.merge_order.specs.Laws.{IsTurn, AreTurns, OneBranchStays, NoBranchDoesNothing}

run_alone : (n : ℕ) → 1 ≤ n → if_any (run_of n) ≡ Run n ∷ []
run_alone n h = by_test (n == 0) refl
  where
    by_test : (t : Bool) → (n == 0) ≡ t → if_any (cond t None (Some (Run n))) ≡ Run n ∷ []
    by_test true e = let none = eqb-true n 0 e in absurd (omega (arith, h, none))
    by_test false e = refl

module _ (places : Places) where
  turn_alone : (s : SeenStep) → IsTurn s → turn places (s ∷ []) ≡ s ∷ []
  turn_alone (Apply []) h = refl
  turn_alone (Apply (g ∷ [])) h = refl
  turn_alone (Apply (g ∷ i ∷ more)) h = refl
  turn_alone (Run n) h = ap (λ k. if_any (run_of k)) (max-zero n) ∙ run_alone n h
  turn_alone Reset h = absurd h

  turns_alone : (b : Branch) → AreTurns b → turns places (length b) (b ∷ []) ≡ b
  turns_alone [] h = refl
  turns_alone (s ∷ ss) h = ap (λ l. l ++ turns places (length ss) (ss ∷ [])) (turn_alone s h.0)
      ∙ ap (λ l. s ∷ l) (turns_alone ss h.1)

pub one_branch_stays : OneBranchStays
one_branch_stays places b h = ap (λ n. turns places n (b ∷ [])) (max-zero (length b)) ∙ turns_alone places b h

pub no_branch_does_nothing : NoBranchDoesNothing
no_branch_does_nothing places = refl
