-- The branches of a merge have turns alone, whatever steps are taken in.
use Rattle.std.proofs.Common.{◌≡◌, ◌+◌, ◌==◌, ℕ, Bool, true, false, cond, List, [], ◌∷◌, ◌++◌, length, Option}
use Rattle.std.proofs.Common.{Some, None, refl, arith}
use Rattle.std.specs.Prelude.{nat_lt}
use Rattle.std.proofs.lemmas.Bool.{eqb-false}
use Rattle.std.proofs.lemmas.List.Elements.{All-append, All-cons, All-nil}
use Rattle.ij_text.specs.declared.Place.{Place}
use Rattle.ij_text.specs.Numbers.{InDecimal, InBits}
use Rattle.net_graph.specs.declared.net.Net.{Net}
use Rattle.net_graph.specs.SeenSteps.{SeenGroup, Run}
use Rattle.pdl_parser.specs.Values.{AValue, ANumber, AWord, AnArgument}
use Rattle.pdl_expand.specs.Values.{AnAction, Writes, Reads, Applies, Runs, Resets, BeginsMerge, EndsBranch}
use Rattle.pdl_expand.specs.Values.{EndsMerge, AStep}
use Rattle.pdl_targets.specs.Binding.{Answer, Queue, applied, apply, feed as bind, finish, nothing_done, run}
use Rattle.pdl_targets.specs.Binding.{run_of, run_value, with_reads, with_writes}
use Rattle.pdl_targets.specs.Laws.{OfFound}
use Rattle.pdl_targets.specs.Rounds.{Places, groups}
use Rattle.pdl_targets.specs.Targets.{AFault as TargetFault, Found, Is as IsBound, Fails as IsRefused}
use Rattle.pdl_targets.specs.Targets.{found_then, read_bits, write_bits}
use Rattle.pdl_targets.proofs.Procedures.{unless_found}
use Rattle.merge_order.specs.Feeding.{Merging, State, answered, begin_merge, end_branch, end_merge, feed}
use Rattle.merge_order.specs.Feeding.{if_applied, reset}
use Rattle.merge_order.specs.Laws.{AreTurns}
use Rattle.merge_order.specs.Merge.{Branch, if_any}
use Rattle.merge_order.specs.MergeLaws.{HasTurns, MergesHaveTurns, OfFed}

turns_both : (a b : Branch) → AreTurns a → AreTurns b → AreTurns (a ++ b)
turns_both [] b h k = k
turns_both (s ∷ ss) b h k = (h.0, turns_both ss b h.1 k)

-- ---- what binding gives, but for a reset

abbrev GivesTurn : Answer → Type 0
GivesTurn answer = AreTurns (if_any answer.step)

of_none : {A : Type 0} (x : Found A) (next : A → Queue)
    → OfFound GivesTurn (found_then x (λ a. nothing_done (next a)))
of_none (IsBound a) next = tt
of_none (IsRefused fault) next = tt

of_applied : (gs : List SeenGroup) → AreTurns (if_any (applied gs))
of_applied [] = tt
of_applied (g ∷ gs) = (tt, tt)

of_apply : (at : Place) (q : Queue) (gs : List SeenGroup) → OfFound GivesTurn (apply at q gs)
of_apply at q gs = unless_found GivesTurn (nat_lt 4096 (q.rounds + length gs)) _ _ (λ e. of_applied gs)

of_cycles : (n : ℕ) → AreTurns (if_any (run_of n))
of_cycles n = by_test (n == 0) refl
  where
    by_test : (t : Bool) → (n == 0) ≡ t → AreTurns (if_any (cond t None (Some (Run n))))
    by_test true e = tt
    by_test false e = let some = eqb-false n 0 e in (omega (arith, some), tt)

of_run : (at : Place) (q : Queue) (n : ℕ) → OfFound GivesTurn (run at q n)
of_run at q n = unless_found GivesTurn (nat_lt 1000000 n) _ _
    (λ e. unless_found GivesTurn (nat_lt 4000000 (q.cycles + n)) _ _ (λ f. of_cycles n))

of_value : (at : Place) (q : Queue) (value : AValue) → OfFound GivesTurn (run_value at q value)
of_value at q (ANumber (InDecimal n)) = of_run at q n
of_value at q (ANumber (InBits bits)) = tt
of_value at q (AWord name) = tt
of_value at q (AnArgument name) = tt

-- ---- what is taken in

taken : (m : Option Merging) (x : Found Answer) → HasTurns m → OfFound GivesTurn x
    → OfFed (λ t. HasTurns t.merging) (answered m x)
taken None (IsBound answer) h k = tt
taken (Some m) (IsBound answer) h k = (h.0, turns_both m.next (if_any answer.step) h.1 k)
taken m (IsRefused fault) h k = tt

ended : (o : Option TargetFault) (s : State) → HasTurns s.merging
    → OfFed (λ t. HasTurns t.merging) (if_applied o s)
ended None s h = h
ended (Some fault) s h = tt

module _ (net : Net) (places : Places) (at : Place) (node : ℕ) where
  abbrev step_of : AnAction → AStep
  step_of d = record { at = at; node = node; what = d }

  action_taken : (s : State) (d : AnAction) → HasTurns s.merging
      → OfFed (λ t. HasTurns t.merging) (feed net places s (step_of d))
  action_taken s (Writes target value) h =
      taken s.merging (bind net places s.queue (step_of (Writes target value))) h
      (of_none (write_bits net at node target value) (with_writes s.queue at))
  action_taken s (Reads target value) h =
      taken s.merging (bind net places s.queue (step_of (Reads target value))) h
      (of_none (read_bits net at node (s.queue.asked + 1) target value) (with_reads s.queue at))
  action_taken s Applies h =
      taken s.merging (bind net places s.queue (step_of Applies)) h
      (of_apply at s.queue (groups places s.queue.writes s.queue.reads s.queue.registers))
  action_taken s (Runs value) h =
      taken s.merging (bind net places s.queue (step_of (Runs value))) h (of_value at s.queue value)
  action_taken s Resets h = in_merge s.merging
    where
      in_merge : (m : Option Merging) → OfFed (λ t. HasTurns t.merging)
          (reset net places (record { queue = s.queue; merging = m }) (step_of Resets))
      in_merge None = tt
      in_merge (Some m) = tt
  action_taken s BeginsMerge h = in_merge s.merging
    where
      in_merge : (m : Option Merging)
          → OfFed (λ t. HasTurns t.merging) (begin_merge at (record { queue = s.queue; merging = m }))
      in_merge None = ended (finish s.queue) (record
          { queue = s.queue; merging = Some (record { branches = []; next = [] }) }) (All-nil AreTurns, tt)
      in_merge (Some m) = tt
  action_taken s EndsBranch h = in_merge s.merging h
    where
      in_merge : (m : Option Merging) → HasTurns m
          → OfFed (λ t. HasTurns t.merging) (end_branch (record { queue = s.queue; merging = m }))
      in_merge None k = tt
      in_merge (Some m) k =
          ended (finish s.queue) (record {
            queue = s.queue;
            merging = Some (record { branches = m.branches ++ m.next ∷ []; next = [] });
          }) (
            All-append AreTurns m.branches (m.next ∷ []) k.0
                (All-cons AreTurns m.next [] k.1 (All-nil AreTurns)),
            tt,
          )
  action_taken s EndsMerge h = in_merge s.merging
    where
      in_merge : (m : Option Merging)
          → OfFed (λ t. HasTurns t.merging) (end_merge places (record { queue = s.queue; merging = m }))
      in_merge None = tt
      in_merge (Some m) = tt

pub merges_have_turns : MergesHaveTurns
merges_have_turns net places s step h = action_taken net places step.at step.node s step.what h
