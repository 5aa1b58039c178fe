-- A count goes through bit steps one by one.
use Rattle.std.proofs.Common.{◌≡◌, ℕ, ◌+◌, ◌*◌, ◌^◌, ◌≤◌, List, ◌∷◌, length, Option, Some, sym, ap, ◌∙◌}
use Rattle.std.proofs.Common.{subst, refl, arith}
use Rattle.std.specs.Prelude.{All, MatchOption}
use Rattle.std.proofs.lemmas.List.Elements.{All-tail}
use Rattle.net_graph.specs.declared.device.Device.{Device}
use Rattle.net_graph.specs.declared.net.Net.{Net}
use Rattle.net_graph.specs.declared.step.BitStep.{BitStep}
use Rattle.net_graph.specs.Held.{AreHolds}
use Rattle.net_graph.specs.Resets.{start_holds}
use Rattle.net_graph.specs.SeenSteps.{SeenStep, seen_step}
use Rattle.net_graph.specs.Steps.{IsStep}
use Rattle.net_graph.proofs.Shapes.{shape}
use Rattle.net_graph.proofs.Widths.{started_held}
use Rattle.net_tree.specs.Form.{Items}
use Rattle.pdl_targets.specs.Laws.{rounds_in, rounds_of}
use Rattle.merge_order.specs.BitSteps.{BitStepsOf, given_first_bit, nothing_left}
use Rattle.svf_audit.specs.Work.{all_work, work_of}
use Rattle.least_clocks.specs.declared.count.Count.{Count}
use Rattle.least_clocks.specs.Counting.{Counts, in_all, state_of}
use Rattle.least_clocks.specs.Least.{State, least_clocks, least_from, start}

-- the step that was given
pub given : (o : Option BitStep) (s : BitStep) (old new : BitStepsOf)
    → MatchOption o (old ≡ nothing_left) (λ s. old ≡ given_first_bit (seen_step s) new) → o ≡ Some s
    → old ≡ given_first_bit (seen_step s) new
given o s old new m e =
    subst (λ o. MatchOption o (old ≡ nothing_left) (λ s. old ≡ given_first_bit (seen_step s) new)) e m

module _ (net : Net) (form : Items) (device : Device) where
  pub at_start : (c : Count) (steps : List SeenStep) → state_of c ≡ start net → c.clocks ≡ 0
      → in_all net form device c (all_work steps) ≡ least_clocks net form device steps
  at_start c steps e none =
      let same = ap (λ s. least_from net form device s (all_work steps)) e in
      omega (arith, same, none)

  pub at_next : (c d : Count) (s : SeenStep) (old new : BitStepsOf) (all : ℕ) → old ≡ given_first_bit s new
      → in_all net form device c (all_work old.steps) ≡ all → Counts net form device (work_of s) c d
      → in_all net form device d (all_work new.steps) ≡ all
  at_next c d s old new all e so_far counts =
      counts (all_work new.steps)
      ∙ ap (λ (b : BitStepsOf). in_all net form device c (all_work b.steps)) (sym e)
      ∙ so_far

pub held_at_start : (net : Net) (c : Count) → state_of c ≡ start net → AreHolds net c.holds
held_at_start net c e = ap (λ (s : State). shape s.holds) e ∙ started_held net (start_holds net) refl

pub later_steps : (net : Net) (s : SeenStep) (old new : BitStepsOf) → old ≡ given_first_bit s new
    → All (IsStep net) old.steps → All (IsStep net) new.steps
later_steps net s old new e a =
    All-tail (IsStep net) s new.steps (subst (λ (b : BitStepsOf). All (IsStep net) b.steps) e a)

-- there is room for what is left
pub room_left : (before after bound : ℕ) (s : SeenStep) (old new : BitStepsOf) → old ≡ given_first_bit s new
    → before + 2 ^ 47 * rounds_in old.steps + 2 ^ 33 * length old.steps ≤ bound
    → after ≤ before + 2 ^ 47 * length (rounds_of (Some s)) + 2 ^ 33
    → after + 2 ^ 47 * rounds_in new.steps + 2 ^ 33 * length new.steps ≤ bound
room_left before after bound s old new e room few =
    let rounds = ap (λ (b : BitStepsOf). rounds_in b.steps) e in
    let steps = ap (λ (b : BitStepsOf). length b.steps) e in
    omega (arith, room, few, rounds, steps)
