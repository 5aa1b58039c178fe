-- Bit steps of a procedure that are gone through, one after the other.
use Rattle.std.proofs.Common.{◌≡◌, ◌⊎◌, inl, inr, Option, ◌<◌, ◌≤◌, ◌+◌, ◌*◌, ◌^◌, ℕ, suc, List, [], ◌∷◌}
use Rattle.std.proofs.Common.{◌++◌, length, refl, sym, ap, ◌∙◌, subst, arith, append-nil}
use Rattle.std.specs.Prelude.{All, map, Result, Ok, Err, IfOk}
use Rattle.merge_order.specs.BitSteps.{BitStepsOf}
use Rattle.net_tree.specs.Routes.{HasRoom}
use Rattle.path_planner.specs.Scannable.{IsScannable}
use Rattle.path_planner.proofs.Starting.{start_scannable}
use Rattle.headline.specs.Rounds.{StepIsPlannable}
use Rattle.run_report.specs.Procedure.{AreReadNames, CanRetarget, Procedure}
use Rattle.run_report.specs.declared.cursor.Cursor.{Cursor}
use Rattle.std.proofs.lemmas.List.Elements.{All-head, All-tail}
use Rattle.net_graph.specs.declared.net.Net.{Net}
use Rattle.bench_report.specs.Report.{Names}
use Rattle.net_graph.specs.declared.step.ReadBit.{ReadBit}
use Rattle.net_graph.specs.Resets.{start_holds}
use Rattle.net_graph.specs.SeenSteps.{SeenStep}
use Rattle.net_graph.specs.Signals.{Holds}
use Rattle.net_tree.specs.Form.{Items}
use Rattle.pdl_targets.specs.Laws.{rounds_in, round_count}
use Rattle.headline.specs.Retargeting.{PlannedStep, seen_of, holds_after_step}
use Rattle.retargeter.specs.Plans.{AreStepsOf}
use Rattle.run_report.specs.Noting.{NotesStep, ScansStep, HoldsStep}
use Rattle.run_report.specs.Places.{places, read_at, step_places, steps_places, scans_after_step}
use Rattle.run_report.specs.Reaching.{CanGoOn, IsCursor, Stands, StandsOn}
use Rattle.run_report.specs.declared.place.ReadPlace.{ReadPlace}
use Rattle.run_report.proofs.Looking.{none_front, none_back}
use Rattle.run_report.proofs.Planning.{first_of, others_of}
use Rattle.run_report.proofs.Within.{none_after, none_before, after_more}
use Rattle.pdl_targets.proofs.Counted.{rounds_first}
use Rattle.ij_bits.proofs.Lists.{no_head}

-- ---- how many

module _ (net : Net) (form : Items) where
  -- before the first step
  pub stands_first : (steps : List SeenStep) (all : List PlannedStep)
      → AreStepsOf net form (start_holds net) steps all → Stands net form steps (start_holds net) 0 1 [] all
  stands_first steps all a =
      record { rest = all; is_left = a; found = λ scan bit l. refl; later = λ scan bit l. refl }

  -- a cursor before the first step
  pub first_cursor : (of : BitStepsOf) (c : Cursor) → c.steps ≡ of → CanRetarget net form of
      → c.holds ≡ start_holds net → HasRoom net c.route → c.places.items ≡ [] → c.first ≡ 0
      → c.scans ≡ 1 → IsCursor net form of.steps c
  first_cursor of c e can h room none f n =
      let same : c.steps.steps ≡ of.steps = ap (λ (b : BitStepsOf). b.steps) e in
      let few = can.few.few_steps in
      let rounds = can.few.few_rounds in
      record {
        can = record {
          no_fault = ap (λ (b : BitStepsOf). b.fault) e ∙ can.no_fault;
          plannable = subst (All (StepIsPlannable net form)) (sym same) can.plannable;
          few = omega (arith, few, rounds, ap length same, ap rounds_in same, n);
          scannable = subst (IsScannable net) (sym h) (start_scannable net form can.network.lawful);
          room = room;
        };
        stands = λ all a. subst (λ ss. Stands net form ss c.holds c.first c.scans c.places.items all)
            (sym same) (subst (λ k. Stands net form of.steps k c.first c.scans c.places.items all) (sym h)
            (subst (λ k. Stands net form of.steps (start_holds net) k c.scans c.places.items all) (sym f)
            (subst (λ k. Stands net form of.steps (start_holds net) 0 k c.places.items all) (sym n)
            (subst (λ ps. Stands net form of.steps (start_holds net) 0 1 ps all)
            (sym none) (stands_first of.steps all a)))));
      }

  module _ (holds : Holds) (scans : ℕ) (first : ℕ) (noted : List ReadPlace) (all : List PlannedStep) where
    module _ (step : SeenStep) (steps : List SeenStep) (after : Holds) (after_scans : ℕ)
        (new : List ReadPlace) (w : NotesStep net form holds step scans [] new)
        (c : ScansStep net form holds step scans after_scans) (h : HoldsStep net form holds step after) where
      next : (xs : List PlannedStep) → AreStepsOf net form holds (step ∷ steps) xs
          → ((scan bit : ℕ) → scans < scan
          → read_at (places net all) scan bit ≡ read_at (steps_places net holds scans xs) scan bit)
          → Stands net form steps after (suc scans) after_scans new all
      next [] a later = absurd (no_head step steps a.of_steps)
      next (x ∷ xs) a later =
          let p = first_of net form holds step steps x xs a in
          let here : new ≡ step_places net holds scans x = w x p in
          let there : after ≡ holds_after_step net holds x = h x p in
          let count : after_scans ≡ scans_after_step scans x = c x p in
          let rest = steps_places net (holds_after_step net holds x) (scans_after_step scans x) xs in
          let stands : Stands net form steps (holds_after_step net holds x) (suc scans)
          (scans_after_step scans x) (step_places net holds scans x) all = record {
            rest = xs;
            is_left = others_of net form holds step steps x xs a;
            found = λ scan bit l. later scan bit l;
            later = λ scan bit l. let more = after_more x scans in
                later scan bit (omega (arith, l, more)) ∙ none_front
                (step_places net holds scans x) rest scan bit (none_after net x holds scans scan bit l);
          } in
          subst (λ (ps : List ReadPlace). Stands net form steps after (suc scans) after_scans ps all)
          (sym here) (subst (λ (k : ℕ). Stands net form steps after (suc scans) k
          (step_places net holds scans x) all) (sym count) (subst (λ (k : Holds). Stands net form steps k
          (suc scans) (scans_after_step scans x) (step_places net holds scans x) all) (sym there) stands))

      pub stands_next : (left : List SeenStep) → left ≡ step ∷ steps
          → Stands net form left holds first scans noted all
          → Stands net form steps after (suc scans) after_scans new all
      stands_next left e s =
          next s.rest (subst (λ z. AreStepsOf net form holds z s.rest) e s.is_left) s.later

    none_left : (xs : List PlannedStep) → map seen_of xs ≡ [] → steps_places net holds scans xs ≡ []
    none_left [] e = refl
    none_left (x ∷ xs) e = absurd (no_head (seen_of x) (map seen_of xs) (sym e))

    -- a read of a scan up to here is noted
    pub found_here : (left : List SeenStep) (scan bit : ℕ) → Stands net form left holds first scans noted all
        → first ≤ scan → scan ≤ scans → read_at noted scan bit ≡ read_at (places net all) scan bit
    found_here left scan bit s f l =
        sym (s.found scan bit f ∙ none_back noted (steps_places net holds scans s.rest) scan bit
        (none_before net s.rest holds scans scan bit l))

    -- and any read at the end
    pub found_last : (left : List SeenStep) (scan bit : ℕ) → left ≡ []
        → Stands net form left holds first scans noted all → first ≤ scan
        → read_at noted scan bit ≡ read_at (places net all) scan bit
    found_last left scan bit e s f =
        sym (s.found scan bit f ∙ ap (λ ps. read_at (noted ++ ps) scan bit)
        (none_left s.rest (s.is_left.of_steps ∙ e)) ∙ ap (λ ps. read_at ps scan bit) (append-nil noted))

-- ---- cursors

-- what a step that was noted leaves
pub record IsNoted (net : Net) (form : Items) (old new : Cursor)
    (step : SeenStep) (later : List SeenStep) : Type 0 where
  pub was : old.steps.steps ≡ step ∷ later
  pub is : new.steps.steps ≡ later
  pub no_fault : new.steps.fault ≡ old.steps.fault
  pub first : new.first ≡ old.scans + 1
  pub places : NotesStep net form old.holds step old.scans [] new.places.items
  pub scans : ScansStep net form old.holds step old.scans new.scans
  pub few : new.scans ≤ old.scans + 17 * round_count step + 1
  pub holds : HoldsStep net form old.holds step new.holds
  pub scannable : IsScannable net new.holds
  pub room : HasRoom net new.route

module _ (net : Net) (form : Items) (old new : Cursor) (step : SeenStep) (later : List SeenStep)
    (n : IsNoted net form old new step later) where
  pub goes_on : CanGoOn net form old → CanGoOn net form new
  goes_on can =
      let some = can.few in
      let more = n.few in
      record {
        no_fault = n.no_fault ∙ can.no_fault;
        plannable = subst (All (StepIsPlannable net form)) (sym n.is) (All-tail (StepIsPlannable net form)
            step later (subst (All (StepIsPlannable net form)) n.was can.plannable));
        few = omega (
          arith,
          some,
          more,
          ap rounds_in n.was,
          rounds_first step later,
          ap length n.was,
          ap length n.is,
          ap rounds_in n.is,
        );
        scannable = n.scannable;
        room = n.room;
      }

  pub stands_on : StandsOn net form old new
  stands_on steps stands all a =
      let next : Stands net form later new.holds (suc old.scans) new.scans new.places.items all =
      stands_next net form old.holds old.scans old.first old.places.items all step later new.holds
      new.scans new.places.items n.places n.scans n.holds old.steps.steps n.was (stands all a) in
      let one : new.first ≡ suc old.scans = omega (arith, n.first) in
      subst (λ ss. Stands net form ss new.holds new.first new.scans new.places.items all) (sym n.is)
      (subst (λ k. Stands net form later new.holds k new.scans new.places.items all) (sym one) next)

  pub one_less : length new.steps.steps < length old.steps.steps
  one_less = omega (arith, ap length n.was, ap length n.is)

-- a step that is to be noted
module _ (net : Net) (form : Items) (old : Cursor) (step : SeenStep) (later : List SeenStep)
    (was : old.steps.steps ≡ step ∷ later) (can : CanGoOn net form old) where
  pub next_plannable : StepIsPlannable net form step
  next_plannable = All-head (StepIsPlannable net form) step later
      (subst (All (StepIsPlannable net form)) was can.plannable)

  pub next_few : old.scans + 17 * round_count step + 1 < 2 ^ 32
  next_few =
      let some = can.few in omega (arith, some, ap rounds_in was, rounds_first step later, ap length was)

-- ---- a read that is looked up

module _ (p : Procedure) (before after : Cursor) (is : IsCursor p.net p.form p.steps before)
    (on : StandsOn p.net p.form before after) where
  pub cursor_after : CanGoOn p.net p.form after → IsCursor p.net p.form p.steps after
  cursor_after can = record { can = can; stands = on p.steps is.stands }

  module _ (names : Names) (scan bit : ℕ) (read : Option ReadBit) (first : after.first ≤ scan)
      (found : read ≡ read_at after.places.items scan bit) (are : AreReadNames p names) where
    stands : Stands p.net p.form after.steps.steps after.holds after.first
        after.scans after.places.items are.plans
    stands = on p.steps is.stands are.plans are.planned

    reached : (scan ≤ after.scans) ⊎ (after.steps.steps ≡ [])
        → read_at after.places.items scan bit ≡ read_at (places p.net are.plans) scan bit
    reached (inl l) =
        found_here p.net p.form after.holds after.scans after.first after.places.items are.plans
        after.steps.steps scan bit stands first l
    reached (inr e) =
        found_last p.net p.form after.holds after.scans after.first after.places.items are.plans
        after.steps.steps scan bit e stands first

    pub read_found : (scan ≤ after.scans) ⊎ (after.steps.steps ≡ []) → read ≡ names scan bit
    read_found there = found ∙ reached there ∙ sym (are.named scan bit)

-- a cursor at the begin comes before any scan
pub first_zero : {E : Type 0} (r : Result Cursor E) (scan : ℕ)
    → IfOk r (λ c. c.first ≡ 0) → IfOk r (λ c. c.first ≤ scan)
first_zero (Ok c) scan e = omega (arith, e)
first_zero (Err x) scan e = tt
