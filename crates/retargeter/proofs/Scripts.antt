-- Bit steps that are written one after the other, and the script of all.
use Rattle.std.proofs.Common.{◌≡◌, ◌≤◌, ◌<◌, ◌+◌, ◌^◌, ℕ, suc, Option, List, [], ◌∷◌, length, get_or, drop}
use Rattle.std.proofs.Common.{refl, sym, ap, ◌∙◌, subst, arith, length-append}
use Rattle.std.specs.Prelude.{All, map}
use Rattle.std.proofs.lemmas.List.{length-map}
use Rattle.std.proofs.lemmas.List.Elements.{All-head, All-tail}
use Rattle.ij_io.specs.Bytes.{Adds, AddsPart}
use Rattle.ij_io.proofs.Adding.{adds_both, adds_front, adds_none, adds_then_part}
use Rattle.svf_writer.specs.Written.{preface}
use Rattle.ij_io.proofs.Fronts.{AddsFront, front_start, front_next, front_part, front_all}
use Rattle.net_graph.specs.declared.device.Device.{Device}
use Rattle.net_graph.specs.declared.net.Net.{Net}
use Rattle.net_graph.specs.Devices.{IsDevice}
use Rattle.net_graph.specs.Resets.{start_holds}
use Rattle.net_graph.specs.SeenSteps.{SeenStep, Apply, Run, Reset}
use Rattle.net_graph.specs.Signals.{Holds}
use Rattle.net_tree.specs.Form.{Items}
use Rattle.path_planner.specs.Scannable.{IsScannable}
use Rattle.path_planner.proofs.Starting.{start_scannable}
use Rattle.pdl_targets.specs.Laws.{rounds_in, cycles_in, round_count}
use Rattle.headline.specs.Script.{ScannedStep, Applied, Ran, WasReset, step_text, steps_text, script_text}
use Rattle.headline.specs.Script.{applies_after}
use Rattle.headline.specs.Retargeting.{PlannedGroup, PlannedStep, Applies, Runs, Resets, seen_of, scanned_of}
use Rattle.headline.specs.Retargeting.{script_of, holds_after_step, StepsArePlanned, IsRetargetable}
use Rattle.headline.specs.Retargeting.{DoesSteps, IsWithinLimits, groups_in, cycles_of, PlansAreRight}
use Rattle.headline.specs.Rounds.{StepIsPlannable}
use Rattle.retargeter.specs.Plans.{IsPlanOf, AreStepsOf}
use Rattle.retargeter.specs.Scripts.{WritesSteps, WritesStepsPart, WritesScript, WritesScriptPart, AreFew}
use Rattle.retargeter.specs.Scripts.{HasScript, ScriptIsRight}
use Rattle.retargeter.specs.Session.{Session}
use Rattle.retargeter.specs.Writing.{HasPlan, WritesStep, WritesStepPart, IsAfterStep}
use Rattle.retargeter.proofs.Found.{step_listed, step_planned}
use Rattle.ij_bits.proofs.Lists.{no_head}

-- ---- the first of some planned steps, and those after it

module _ (net : Net) (form : Items) where
  pub first_planned : (x : PlannedStep) (xs : List PlannedStep) (holds : Holds)
      → StepsArePlanned net form holds (x ∷ xs) → StepsArePlanned net form holds (x ∷ [])
  first_planned (Applies rounds) xs holds a = (a.0, a.1, tt)
  first_planned (Runs n) xs holds a = (a.0, tt)
  first_planned Resets xs holds a = tt

  pub others_planned : (x : PlannedStep) (xs : List PlannedStep) (holds : Holds)
      → StepsArePlanned net form holds (x ∷ xs) → StepsArePlanned net form (holds_after_step net holds x) xs
  others_planned (Applies rounds) xs holds a = a.2
  others_planned (Runs n) xs holds a = a.1
  others_planned Resets xs holds a = a

  both_planned : (x : PlannedStep) (xs : List PlannedStep) (holds : Holds)
      → StepsArePlanned net form holds (x ∷ []) → StepsArePlanned net form (holds_after_step net holds x) xs
      → StepsArePlanned net form holds (x ∷ xs)
  both_planned (Applies rounds) xs holds a b = (a.0, a.1, b)
  both_planned (Runs n) xs holds a b = (a.0, b)
  both_planned Resets xs holds a b = b

  module _ (n : IsRetargetable net form) where
    -- there are plans for each step
    steps_planned : (steps : List SeenStep) (holds : Holds) → IsScannable net holds
        → All (StepIsPlannable net form) steps → (xs : List PlannedStep) × AreStepsOf net form holds steps xs
    steps_planned [] holds s a = ([], record { of_steps = refl; planned = tt })
    steps_planned (step ∷ steps) holds s a =
        let (x, p) = step_planned net form n step holds s
        (All-head (StepIsPlannable net form) step steps a) in
        let (xs, q) = steps_planned steps (holds_after_step net holds x)
        (step_listed net form n x holds s p.planned) (All-tail (StepIsPlannable net form) step steps a) in (
          x ∷ xs,
          record {
            of_steps = ap (λ z. z ∷ map seen_of xs) p.of_step ∙ ap (λ zs. step ∷ zs) q.of_steps;
            planned = both_planned x xs holds p.planned q.planned;
          },
        )

-- ---- steps, one after the other

-- the text of planned steps
abbrev text : Session → List PlannedStep → List ℕ
text s xs = steps_text s.device s.applies (script_of s.net s.holds xs)

-- some planned steps are written, and those that are left go on from here
pub record GoesOn (first s : Session) (left : List SeenStep)
    (old new : Option (List ℕ)) (all : List PlannedStep) : Type 0 where
  pub rest : List PlannedStep
  pub is_left : AreStepsOf s.net s.form s.holds left rest
  pub front : AddsFront old new (text s rest) (text first all)

module _ (first : Session) (steps : List SeenStep) (old : Option (List ℕ)) where
  -- whatever their plans are
  abbrev pub Go : Session → List SeenStep → Option (List ℕ) → Type 0
  Go s left new = (all : List PlannedStep)
      → AreStepsOf first.net first.form first.holds steps all → GoesOn first s left old new all

  pub begin : Go first steps old
  begin all a = record { rest = all; is_left = a; front = front_start old (text first all) }

  module _ (s : Session) (step : SeenStep) (later : List SeenStep) (between new : Option (List ℕ)) where
    abbrev Before : List PlannedStep → List PlannedStep → Type 0
    Before all xs = AreStepsOf s.net s.form s.holds (step ∷ later) xs
        × AddsFront old between (text s xs) (text first all)

    plan_of : (x : PlannedStep) (xs : List PlannedStep)
        → AreStepsOf s.net s.form s.holds (step ∷ later) (x ∷ xs) → IsPlanOf s.net s.form s.holds step x
    plan_of x xs a =
        record {
          of_step = ap (λ zs. get_or zs 0 (seen_of x)) a.of_steps;
          planned = first_planned s.net s.form x xs s.holds a.planned;
        }

    next : (all xs : List PlannedStep) (after : Session) → WritesStep s step between new
        → IsAfterStep s step after → Before all xs → GoesOn first after later old new all
    next all [] after w h b = absurd (no_head step later b.0.of_steps)
    next all (x ∷ xs) after w h b =
        let p = plan_of x xs b.0 in
        let t : Session = record s {
          holds = holds_after_step s.net s.holds x;
          applies = applies_after s.applies (scanned_of s.net s.holds x);
        } in
        let e : after ≡ t = h x p in
        subst (λ z. GoesOn first z later old new all) (sym e)
        (record {
          rest = xs;
          is_left = record {
            of_steps = ap (drop 1) b.0.of_steps;
            planned = others_planned s.net s.form x xs s.holds b.0.planned;
          };
          front =
              front_next (step_text s.device s.applies (scanned_of s.net s.holds x)) (text t xs) b.1 (w x p);
        })

    cut : (all xs : List PlannedStep) → WritesStepPart s step between new
        → Before all xs → AddsPart old new (text first all)
    cut all [] w b = absurd (no_head step later b.0.of_steps)
    cut all (x ∷ xs) w b =
        front_part (step_text s.device s.applies (scanned_of s.net s.holds x))
        (text (record s {
          holds = holds_after_step s.net s.holds x;
          applies = applies_after s.applies (scanned_of s.net s.holds x);
        }) xs) b.1 (w x (plan_of x xs b.0))

    before : (left : List SeenStep) → left ≡ step ∷ later → Go s left between → (all : List PlannedStep)
        → AreStepsOf first.net first.form first.holds steps all → (xs : List PlannedStep) × Before all xs
    before left e go all a =
        let g = go all a in
        (g.rest, (subst (λ z. AreStepsOf s.net s.form s.holds z g.rest) e g.is_left, g.front))

    pub go_on : (left : List SeenStep) (after : Session) → left ≡ step ∷ later → Go s left between
        → WritesStep s step between new → IsAfterStep s step after → Go after later new
    go_on left after e go w h all a = let (xs, b) = before left e go all a in next all xs after w h b

    pub refused : (left : List SeenStep) → left ≡ step ∷ later → Go s left between
        → WritesStepPart s step between new → WritesStepsPart first steps old new
    refused left e go w all a = let (xs, b) = before left e go all a in cut all xs w b

  -- what is written so far is a first part of all
  pub part_so_far : (s : Session) (left : List SeenStep) (new : Option (List ℕ))
      → Go s left new → WritesStepsPart first steps old new
  part_so_far s left new go all a =
      let g = go all a in
      subst (λ (bytes : List ℕ). AddsPart old new bytes) g.front.whole
      (adds_then_part g.front.added (adds_none (text s g.rest) refl))

  none_left : (s : Session) (xs : List PlannedStep) → map seen_of xs ≡ [] → text s xs ≡ []
  none_left s [] e = refl
  none_left s (x ∷ xs) e = absurd (no_head (seen_of x) (map seen_of xs) (sym e))

  pub all_written : (s : Session) (left : List SeenStep) (new : Option (List ℕ)) → left ≡ []
      → Go s left new → WritesSteps first steps old new
  all_written s left new e go all a =
      let g = go all a in
      front_all (subst (λ (bytes : List ℕ). AddsFront old new bytes (text first all))
      (none_left s g.rest (g.is_left.of_steps ∙ e)) g.front)

-- ---- the script of all steps

length-steps : (steps : List SeenStep) (xs : List PlannedStep)
    → map seen_of xs ≡ steps → length xs ≡ length steps
length-steps steps xs e = sym (length-map xs seen_of) ∙ ap length e

rounds_are : (xs : List PlannedStep) → length (groups_in xs) ≡ rounds_in (map seen_of xs)
rounds_are [] = refl
rounds_are (Applies rounds ∷ xs) =
    omega (
      arith,
      length-append rounds (groups_in xs),
      rounds_are xs,
      length-map rounds (λ (p : PlannedGroup). p.group),
    )
rounds_are (Runs n ∷ xs) = omega (arith, rounds_are xs)
rounds_are (Resets ∷ xs) = omega (arith, rounds_are xs)

cycles_are : (xs : List PlannedStep) → cycles_of xs ≡ cycles_in (map seen_of xs)
cycles_are [] = refl
cycles_are (Applies rounds ∷ xs) = omega (arith, cycles_are xs)
cycles_are (Runs n ∷ xs) = omega (arith, cycles_are xs)
cycles_are (Resets ∷ xs) = omega (arith, cycles_are xs)

within_limits : (steps : List SeenStep) (xs : List PlannedStep)
    → map seen_of xs ≡ steps → AreFew steps → IsWithinLimits xs
within_limits steps xs e f =
    record {
      few_steps = omega (arith, length-steps steps xs e, f.few_steps);
      few_rounds = omega (arith, rounds_are xs, ap rounds_in e, f.few_rounds);
      few_cycles = omega (arith, cycles_are xs, ap cycles_in e, f.few_cycles);
    }

module _ (net : Net) (form : Items) (device : Device) (steps : List SeenStep) where
  -- the preface, and then the steps from power-up on
  abbrev at_start : Session
  at_start = record { net = net; form = form; device = device; holds = start_holds net; applies = 0 }

  pub script_written : (s : Session) (old between new : Option (List ℕ)) → s ≡ at_start
      → Adds old between (preface device) → WritesSteps s steps between new
      → WritesScript net form device steps old new
  script_written s old between new e p w bytes b =
      subst (λ (t : List ℕ). Adds old new t) (sym b.text)
      (adds_both p (subst (λ z. WritesSteps z steps between new) e w b.plans b.planned))

  pub script_part : (s : Session) (old between new : Option (List ℕ)) → s ≡ at_start
      → Adds old between (preface device) → WritesStepsPart s steps between new
      → WritesScriptPart net form device steps old new
  script_part s old between new e p w bytes b =
      subst (λ (t : List ℕ). AddsPart old new t) (sym b.text)
      (adds_then_part p (subst (λ z. WritesStepsPart z steps between new) e w b.plans b.planned))

  pub preface_part : (old new : Option (List ℕ)) → AddsPart old new (preface device)
      → WritesScriptPart net form device steps old new
  preface_part old new p bytes b = subst (λ (t : List ℕ). AddsPart old new t) (sym b.text) (adds_front _ p)

  pub nothing_written : (old : Option (List ℕ)) → WritesScriptPart net form device steps old old
  nothing_written old bytes b = adds_none bytes refl

  pub has_script : IsRetargetable net form
      → All (StepIsPlannable net form) steps → HasScript net form device steps
  has_script n a =
      let (xs, p) = steps_planned net form n steps (start_holds net)
      (start_scannable net form n.lawful) a in (
        script_text device (script_of net (start_holds net) xs),
        record { plans = xs; planned = p; text = refl },
      )

  pub script_is_right : PlansAreRight → IsRetargetable net form → IsDevice device
      → AreFew steps → ScriptIsRight net form device steps
  script_is_right law n d f bytes s =
      let same : DoesSteps net form device (map seen_of s.plans)
      (script_text device (script_of net (start_holds net) s.plans)) = law net form device s.plans n d
      s.planned.planned (within_limits steps s.plans s.planned.of_steps f) in
      subst (DoesSteps net form device steps) (sym s.text) (subst (λ z. DoesSteps net form device z
      (script_text device (script_of net (start_holds net) s.plans))) s.planned.of_steps same)

-- ---- the next of the steps that are left

few_first : (step : SeenStep) (later : List SeenStep) → rounds_in (step ∷ later) ≤ 4096
    → (round_count step ≤ 4096) × (rounds_in later ≤ 4096)
few_first (Apply gs) later l = (omega (arith, l), omega (arith, l))
few_first (Run n) later l = (omega arith, omega (arith, l))
few_first Reset later l = (omega arith, omega (arith, l))

applies_few : (applies : ℕ) (d : ScannedStep) → applies_after applies d ≤ suc applies
applies_few applies (Applied rounds) = omega arith
applies_few applies (Ran n) = omega arith
applies_few applies WasReset = omega arith

module _ (left later : List SeenStep) (step : SeenStep) (e : left ≡ step ∷ later) where
  pub few_rounds : rounds_in left ≤ 4096 → round_count step ≤ 4096
  few_rounds l = (few_first step later (subst (λ ss. rounds_in ss ≤ 4096) e l)).0

  pub few_later : rounds_in left ≤ 4096 → rounds_in later ≤ 4096
  few_later l = (few_first step later (subst (λ ss. rounds_in ss ≤ 4096) e l)).1

  pub plannable : (net : Net) (form : Items)
      → All (StepIsPlannable net form) left → StepIsPlannable net form step
  plannable net form a =
      All-head (StepIsPlannable net form) step later (subst (All (StepIsPlannable net form)) e a)

  pub one_less : length left ≡ suc (length later)
  one_less = ap length e

  module _ (s after : Session) (has : HasPlan s step) (h : IsAfterStep s step after) where
    stays : after ≡ record s {
      holds = holds_after_step s.net s.holds has.0;
      applies = applies_after s.applies (scanned_of s.net s.holds has.0);
    }
    stays = h has.0 has.1

    pub plannable_later : All (StepIsPlannable s.net s.form) left
        → All (StepIsPlannable after.net after.form) later
    plannable_later a =
        subst (λ (z : Session). All (StepIsPlannable z.net z.form) later) (sym stays) (All-tail
        (StepIsPlannable s.net s.form) step later (subst (All (StepIsPlannable s.net s.form)) e a))

    pub few_steps : s.applies + length left < 2 ^ 32 → after.applies + length later < 2 ^ 32
    few_steps l =
        omega (
          arith,
          l,
          one_less,
          ap (λ (z : Session). z.applies) stays,
          applies_few s.applies (scanned_of s.net s.holds has.0),
        )
