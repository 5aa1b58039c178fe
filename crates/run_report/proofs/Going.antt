-- Plans, and rounds, that are noted one after the other.
use Rattle.std.proofs.Common.{◌≡◌, ◌<◌, ◌≤◌, ◌+◌, ℕ, suc, List, [], ◌∷◌, ◌++◌, length, get_or, drop, refl}
use Rattle.std.proofs.Common.{sym, ap, ◌∙◌, subst, arith, append_assoc, append-nil}
use Rattle.std.specs.Prelude.{map}
use Rattle.std.proofs.Math.Seq.{drop-cons}
use Rattle.std.proofs.lemmas.List.{length-map, at_drop_all}
use Rattle.net_graph.specs.declared.net.Net.{Net}
use Rattle.net_graph.specs.declared.step.Group.{Group}
use Rattle.net_graph.specs.SeenSteps.{seen_group}
use Rattle.net_graph.specs.Signals.{Holds}
use Rattle.net_graph.specs.Writes.{write_all}
use Rattle.net_tree.specs.Form.{Items}
use Rattle.net_tree.specs.declared.plan.ScanPlan.{ScanPlan}
use Rattle.net_tree.specs.ScanPlans.{seen_plan}
use Rattle.path_planner.specs.Scannable.{IsScannable}
use Rattle.scan_packer.specs.Packing.{CanScan}
use Rattle.headline.specs.Scans.{holds_after}
use Rattle.headline.specs.Retargeting.{PlannedGroup, holds_after_rounds, IsPlannedGroup, GroupsArePlanned}
use Rattle.retargeter.specs.Plans.{ArePlansOf, AreRoundsOf}
use Rattle.retargeter.specs.Writing.{IsAfterGroup}
use Rattle.retargeter.proofs.Going.{NextRound, at_round}
use Rattle.run_report.specs.Noting.{NotesGroup, ScansGroup, NotesRounds, ScansRounds, HoldsRounds}
use Rattle.run_report.specs.Scanning.{CanScanAll}
use Rattle.run_report.proofs.Scanning.{scannable}
use Rattle.run_report.specs.Places.{scan_places, plans_places, rounds_places, scans_after_rounds}
use Rattle.run_report.specs.declared.place.ReadPlace.{ReadPlace}

-- ---- plans

abbrev pub plans_from : Net → Holds → ℕ → List ScanPlan → List ReadPlace
plans_from net holds scans ps = plans_places net holds scans (map seen_plan ps)

pub record Goes (net : Net) (first : Holds) (ps : List ScanPlan) (start : ℕ) (old : List ReadPlace) (i : ℕ)
    (now : Holds) (scan : ℕ) (new : List ReadPlace) : Type 0 where
  pub places : new ++ plans_from net now scan (drop i ps) ≡ old ++ plans_from net first start ps
  pub count : scan ≡ start + i
  pub holds : holds_after now (map seen_plan (drop i ps)) ≡ holds_after first (map seen_plan ps)
  pub can : CanScanAll net now (map seen_plan (drop i ps))

module _ (net : Net) (first : Holds) (ps : List ScanPlan) (start : ℕ) (old : List ReadPlace) where
  pub begin_plans : CanScanAll net first (map seen_plan ps) → Goes net first ps start old 0 first start old
  begin_plans c = record { places = refl; count = omega arith; holds = refl; can = c }

  module _ (i : ℕ) (now : Holds) (scan : ℕ) (between : List ReadPlace)
      (go : Goes net first ps start old i now scan between) where
    pub can_go : IsScannable net now
    can_go = scannable net now (drop i ps) go.can

    module _ (p : ScanPlan) (l : i < length ps) (is : p ≡ get_or ps i p) where
      next : drop i ps ≡ p ∷ drop (suc i) ps
      next = drop-cons ps i p l ∙ ap (λ (y : ScanPlan). y ∷ drop (suc i) ps) (sym is)

      can : CanScanAll net now (map seen_plan (p ∷ drop (suc i) ps))
      can = subst (λ (qs : List ScanPlan). CanScanAll net now (map seen_plan qs)) next go.can

      pub can_scan : CanScan net now (seen_plan p)
      can_scan = can.1

      abbrev here : List ReadPlace
      here = scan_places net now (suc scan) p.reads.items

      abbrev there : List ReadPlace
      there = plans_from net (write_all now p.writes.items) (suc scan) (drop (suc i) ps)

      pub plan_noted : (j k : ℕ) (after : Holds) (new : List ReadPlace) → j ≡ suc i → k ≡ suc scan
          → after ≡ write_all now p.writes.items → new ≡ between ++ scan_places net now k p.reads.items
          → Goes net first ps start old j after k new
      plan_noted j k after new f n e a =
          let added : new ++ there ≡ old ++ plans_from net first start ps = ap (λ xs. xs ++ there) (a
          ∙ ap (λ m. between ++ scan_places net now m p.reads.items) n) ∙ append_assoc between here there
          ∙ sym (ap (λ qs. between ++ plans_from net now scan qs) next) ∙ go.places in
          let counted : suc scan ≡ start + suc i = omega (arith, go.count) in
          subst (λ m. Goes net first ps start old m after k new) (sym f)
          (subst (λ m. Goes net first ps start old (suc i) after m new) (sym n) (subst (λ h. Goes net
          first ps start old (suc i) h (suc scan) new) (sym e) (record {
            places = added;
            count = counted;
            holds = ap (λ qs. holds_after now (map seen_plan qs)) (sym next) ∙ go.holds;
            can = can.2;
          })))

    module _ (l : length ps ≤ i) where
      pub all_noted : between ≡ old ++ plans_from net first start ps
      all_noted =
          sym (append-nil between)
          ∙ sym (at_drop_all (λ qs. between ++ plans_from net now scan qs) ps i l) ∙ go.places

      pub all_after : now ≡ holds_after first (map seen_plan ps)
      all_after = sym (at_drop_all (λ qs. holds_after now (map seen_plan qs)) ps i l) ∙ go.holds

-- ---- rounds

-- some rounds are noted, and the others go on from the update stages now
pub record GoesOn (net : Net) (form : Items) (i : ℕ) (first now : Holds) (start n : ℕ)
    (old new : List ReadPlace) (rounds : List PlannedGroup) : Type 0 where
  pub places : new ++ rounds_places net now n (drop i rounds) ≡ old ++ rounds_places net first start rounds
  pub scans : scans_after_rounds n (drop i rounds) ≡ scans_after_rounds start rounds
  pub planned : GroupsArePlanned net form now (drop i rounds)
  pub holds : holds_after_rounds now (drop i rounds) ≡ holds_after_rounds first rounds

module _ (net : Net) (form : Items) (first : Holds) (gs : List Group) (start : ℕ) (old : List ReadPlace) where
  -- whatever their plans are
  abbrev pub Go : ℕ → Holds → ℕ → List ReadPlace → Type 0
  Go i now scans new = (rounds : List PlannedGroup) → AreRoundsOf net form first (map seen_group gs) rounds
      → GoesOn net form i first now start scans old new rounds

  pub begin : Go 0 first start old
  begin rounds r = record { places = refl; scans = refl; planned = r.planned; holds = refl }

  module _ (i : ℕ) (now : Holds) (scans : ℕ) (between : List ReadPlace) (go : Go i now scans between)
      (g : Group) (l : i < length gs) (is : g ≡ get_or gs i g) (rounds : List PlannedGroup)
      (r : AreRoundsOf net form first (map seen_group gs) rounds) where
    next_round : NextRound rounds g i
    next_round = at_round rounds gs g i r.groups l is

    abbrev round_here : List ReadPlace
    round_here = plans_places net now scans next_round.round.plans

    abbrev round_there : List ReadPlace
    round_there =
        rounds_places net (holds_after now next_round.round.plans)
        (scans + length next_round.round.plans) (drop (suc i) rounds)

    round_planned : GroupsArePlanned net form now (next_round.round ∷ drop (suc i) rounds)
    round_planned = subst (GroupsArePlanned net form now) next_round.is_next (go rounds r).planned

    round_plans : ArePlansOf net form now (seen_group g) next_round.round.plans
    round_plans =
        subst (λ z. IsPlannedGroup net form now (record { group = z; plans = next_round.round.plans }))
        next_round.of_group round_planned.0

    stepped : (after : Holds) (n : ℕ) (new : List ReadPlace)
        → NotesGroup net form now (seen_group g) scans between new → ScansGroup net form now (seen_group g) n
        → IsAfterGroup net form now (seen_group g) after
        → GoesOn net form (suc i) first after start (scans + n) old new rounds
    stepped after n new w c a =
        let h : after ≡ holds_after now next_round.round.plans = a next_round.round.plans round_plans in
        let m : scans + n ≡ scans + length next_round.round.plans =
        ap (λ k. scans + k) (c next_round.round.plans round_plans) in
        let added : new ++ round_there ≡ old ++ rounds_places net first start rounds =
        ap (λ xs. xs ++ round_there) (w next_round.round.plans round_plans)
        ∙ append_assoc between round_here round_there ∙ sym (ap
        (λ qs. between ++ rounds_places net now scans qs) next_round.is_next) ∙ (go rounds r).places in
        let counted = ap (scans_after_rounds scans) (sym next_round.is_next) ∙ (go rounds r).scans in
        subst (λ k. GoesOn net form (suc i) first k start (scans + n) old new rounds) (sym h)
        (subst (λ k. GoesOn net form (suc i) first (holds_after now next_round.round.plans) start k old
        new rounds) (sym m) (record {
          places = added;
          scans = counted;
          planned = round_planned.1;
          holds = ap (holds_after_rounds now) (sym next_round.is_next) ∙ (go rounds r).holds;
        }))

  pub go_on : (i j scans n after_scans : ℕ) (now after : Holds) (between new : List ReadPlace) (g : Group)
      → Go i now scans between → i < length gs → g ≡ get_or gs i g → j ≡ suc i → after_scans ≡ scans + n
      → NotesGroup net form now (seen_group g) scans between new → ScansGroup net form now (seen_group g) n
      → IsAfterGroup net form now (seen_group g) after → Go j after after_scans new
  go_on i j scans n after_scans now after between new g go l is f e w c a rounds r =
      subst (λ m. GoesOn net form m first after start after_scans old new rounds) (sym f)
      (subst (λ m. GoesOn net form (suc i) first after start m old new rounds) (sym e)
      (stepped i now scans between go g l is rounds r after n new w c a))

  module _ (i : ℕ) (now : Holds) (scans : ℕ) (new : List ReadPlace) (go : Go i now scans new) (l : length gs
      ≤ i) (rounds : List PlannedGroup) (r : AreRoundsOf net form first (map seen_group gs) rounds) where
    none_left : {A : Type 0} (f : List PlannedGroup → A) → f (drop i rounds) ≡ f []
    none_left f =
        at_drop_all f rounds i (omega (
          arith,
          l,
          ap length r.groups,
          length-map rounds (λ (p : PlannedGroup). p.group),
          length-map gs seen_group,
        ))

    noted : new ≡ old ++ rounds_places net first start rounds
    noted = sym (append-nil new)
        ∙ sym (none_left (λ qs. new ++ rounds_places net now scans qs)) ∙ (go rounds r).places

    counted : scans ≡ scans_after_rounds start rounds
    counted = sym (none_left (scans_after_rounds scans)) ∙ (go rounds r).scans

    last : now ≡ holds_after_rounds first rounds
    last = sym (none_left (holds_after_rounds now)) ∙ (go rounds r).holds

  pub rounds_noted : (i : ℕ) (now : Holds) (scans : ℕ) (new : List ReadPlace) → Go i now scans new
      → length gs ≤ i → NotesRounds net form first (map seen_group gs) start old new
  rounds_noted i now scans new go l rounds r = noted i now scans new go l rounds r

  pub rounds_counted : (i : ℕ) (now : Holds) (scans : ℕ) (new : List ReadPlace) → Go i now scans new
      → length gs ≤ i → ScansRounds net form first (map seen_group gs) start scans
  rounds_counted i now scans new go l rounds r = counted i now scans new go l rounds r

  pub rounds_held : (i : ℕ) (now : Holds) (scans : ℕ) (new : List ReadPlace) → Go i now scans new
      → length gs ≤ i → HoldsRounds net form first (map seen_group gs) now
  rounds_held i now scans new go l rounds r = last i now scans new go l rounds r
