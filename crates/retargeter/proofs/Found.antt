-- There are plans: of each group that can be opened, of the rounds of an iApply, and of each bit step.
use Rattle.std.proofs.Common.{◌≤◌, false, List, [], ◌∷◌, length, refl, sym, ap, ◌∙◌, subst, arith}
use Rattle.std.specs.Prelude.{All, option_map, replicate, reverse}
use Rattle.std.proofs.lemmas.List.{length-map}
use Rattle.std.proofs.lemmas.List.Elements.{All-head, All-tail}
use Rattle.net_graph.specs.declared.net.Net.{Net}
use Rattle.net_graph.specs.Groups.{IsEmpty}
use Rattle.net_graph.specs.SeenSteps.{SeenGroup, SeenStep, Apply, Run, Reset}
use Rattle.net_graph.specs.Signals.{Holds}
use Rattle.net_graph.specs.Writes.{write_all}
use Rattle.net_tree.specs.Form.{Items}
use Rattle.net_tree.specs.Needs.{needs}
use Rattle.path_planner.specs.Collecting.{settle_writes}
use Rattle.path_planner.specs.Opening.{CanOpen}
use Rattle.path_planner.specs.Plans.{ArePlans, Settles}
use Rattle.path_planner.specs.Scannable.{IsScannable}
use Rattle.path_planner.specs.Settling.{IsOpening}
use Rattle.path_planner.proofs.Opening.{opens}
use Rattle.path_planner.proofs.PlanSteps.{can_go_on}
use Rattle.path_planner.proofs.Settled.{settles}
use Rattle.path_planner.proofs.Step.{has_path}
use Rattle.headline.specs.Retargeting.{PlannedGroup, PlannedStep, Applies, Runs, Resets, holds_after_rounds}
use Rattle.headline.specs.Retargeting.{holds_after_step, IsPlannedGroup, GroupsArePlanned, StepsArePlanned}
use Rattle.headline.specs.Retargeting.{IsRetargetable}
use Rattle.headline.specs.Rounds.{IsPlannable, StepIsPlannable}
use Rattle.headline.specs.Scans.{holds_after}
use Rattle.path_planner.proofs.Plans.{planned}
use Rattle.path_planner.proofs.Starting.{reset_scannable}
use Rattle.retargeter.specs.Plans.{AreRoundsOf, IsPlanOf}
use Rattle.headline.proofs.Scanned.{scans_listed}

module _ (net : Net) (form : Items) (g : SeenGroup) where
  -- an opening is made of plans
  pub plans_of : (hs : List Holds) (holds : Holds) → CanOpen net form g holds
      → ¬ IsEmpty g → IsOpening net form g holds hs
      → (p : SeenGroup) × (ps : List SeenGroup) × ArePlans net form g holds (p ∷ ps)
  plans_of [] holds c named o = (g, [], (named, refl, o))
  plans_of (h ∷ hs) holds c named o =
      let (path, e) = has_path net form c.well_formed c.describes c.lawful holds c.listed in
      let p : SeenGroup = record {
        writes = settle_writes net holds (reverse path)
            (replicate (length net.muxes.items) false) (needs form g);
        reads = [];
      } in
      let s : Settles net form g holds p =
      settles net form g holds c (reverse path) p o.0 (ap (option_map reverse) e) refl refl in
      let (q, ps, a) = plans_of hs (write_all holds p.writes) (can_go_on net form g holds c p s) named
      (subst (λ k. IsOpening net form g k hs) (o.1 ∙ sym s.settled) o.2) in
      (p, q ∷ ps, (s, a))

module _ (net : Net) (form : Items) (n : IsRetargetable net form) where
  pub can_open : (holds : Holds) (g : SeenGroup) → IsScannable net holds
      → IsPlannable net form g → CanOpen net form g holds
  can_open holds g s k =
      record {
        well_formed = n.well_formed;
        describes = n.describes;
        lawful = n.lawful;
        group = k.valid;
        together = k.together;
        listed = s;
      }

  group_planned : (holds : Holds) (g : SeenGroup) → IsScannable net holds → IsPlannable net form g
      → (plans : List SeenGroup) × IsPlannedGroup net form holds (record { group = g; plans = plans })
  group_planned holds g s k =
      let c = can_open holds g s k in
      let (hs, o) = opens net form g holds c in
      let (p, ps, a) = plans_of net form g hs holds c k.named o.opening in
      (p ∷ ps, record { named = k.named; valid = k.valid; together = k.together; plans = a })

  -- more scans can follow those of a planned group
  group_listed : (holds : Holds) (p : PlannedGroup) → IsScannable net holds → IsPlannedGroup net form holds p
      → IsScannable net (holds_after holds p.plans)
  group_listed holds p s a =
      let can = can_open holds p.group s
      (record { named = a.named; valid = a.valid; together = a.together }) in
      scans_listed net p.plans holds (planned net form p.group holds p.plans can a.plans).scans

  rounds_listed : (holds : Holds) (rounds : List PlannedGroup) → IsScannable net holds
      → GroupsArePlanned net form holds rounds → IsScannable net (holds_after_rounds holds rounds)
  rounds_listed holds [] s a = s
  rounds_listed holds (p ∷ ps) s a =
      rounds_listed (holds_after holds p.plans) ps (group_listed holds p s a.0) a.1

  -- and so of a planned step
  pub step_listed : (x : PlannedStep) (holds : Holds) → IsScannable net holds
      → StepsArePlanned net form holds (x ∷ []) → IsScannable net (holds_after_step net holds x)
  step_listed (Applies rounds) holds s a = rounds_listed holds rounds s a.1
  step_listed (Runs k) holds s a = s
  step_listed Resets holds s a = reset_scannable net form n.lawful holds s

  rounds_planned : (gs : List SeenGroup) (holds : Holds) → IsScannable net holds
      → All (IsPlannable net form) gs → (rounds : List PlannedGroup) × AreRoundsOf net form holds gs rounds
  rounds_planned [] holds s a = ([], record { groups = refl; planned = tt })
  rounds_planned (g ∷ gs) holds s a =
      let (plans, k) = group_planned holds g s (All-head (IsPlannable net form) g gs a) in
      let p : PlannedGroup = record { group = g; plans = plans } in
      let (rounds, r) = rounds_planned gs (holds_after holds plans) (group_listed holds p s k)
      (All-tail (IsPlannable net form) g gs a) in
      (p ∷ rounds, record { groups = ap (λ xs. g ∷ xs) r.groups; planned = (k, r.planned) })

  pub step_planned : (step : SeenStep) (holds : Holds) → IsScannable net holds → StepIsPlannable net form step
      → (x : PlannedStep) × IsPlanOf net form holds step x
  step_planned (Apply gs) holds s a =
      let (rounds, r) = rounds_planned gs holds s a.1 in
      let some : 1 ≤ length rounds =
      omega (arith, a.0, ap length r.groups, length-map rounds (λ (p : PlannedGroup). p.group)) in
      (Applies rounds, record { of_step = ap Apply r.groups; planned = (some, r.planned, tt) })
  step_planned (Run c) holds s a = (Runs c, record { of_step = refl; planned = (a, tt) })
  step_planned Reset holds s a = (Resets, record { of_step = refl; planned = tt })
