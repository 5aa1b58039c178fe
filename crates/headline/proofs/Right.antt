-- The text of planned steps is right, short, and read as its commands.
use Rattle.std.proofs.Common.{◌≡◌, ◌≤◌, List, [], ◌∷◌, ◌++◌, length, refl, ap, ◌∙◌, subst, arith}
use Rattle.std.proofs.Common.{length-append}
use Rattle.std.specs.Prelude.{All, map}
use Rattle.std.proofs.lemmas.List.Elements.{All-nil, All-cons, All-head, All-tail}
use Rattle.net_graph.specs.declared.net.Net.{Net}
use Rattle.net_graph.specs.Resets.{reset_holds, start_holds}
use Rattle.net_graph.specs.SeenSteps.{Apply, Run, Reset}
use Rattle.net_graph.specs.Signals.{Holds}
use Rattle.net_tree.specs.Form.{Items}
use Rattle.path_planner.specs.Scannable.{IsScannable}
use Rattle.path_planner.proofs.Depth.{group_shallow}
use Rattle.path_planner.proofs.Starting.{start_scannable, reset_scannable}
use Rattle.headline.specs.Headline.{IsRetargeting}
use Rattle.headline.specs.Script.{Round, steps_of, script_text}
use Rattle.headline.specs.Sizes.{IsLimited, rounds_in, cycles_in}
use Rattle.headline.proofs.PlannedScripts.{planned_scripts_are_right, planned_written}
use Rattle.headline.proofs.PlannedSizes.{planned_scripts_are_short}
use Rattle.headline.proofs.Reading.{written_scripts_are_read}
use Rattle.headline.specs.Scans.{scans_of, holds_after}
use Rattle.headline.specs.Retargeting.{PlannedGroup, PlannedStep, Applies, Runs, Resets, seen_of, rounds_of}
use Rattle.headline.specs.Retargeting.{holds_after_rounds, holds_after_step, script_of, GroupsArePlanned}
use Rattle.headline.specs.Retargeting.{StepsArePlanned, IsRetargetable, groups_in, cycles_of, PlansAreRight}
use Rattle.headline.proofs.GroupPlaying.{length-scans_of, plans_play, selects_drive_nothing}
use Rattle.headline.proofs.Retargeting.{can_open, does, length-rounds_of, rounds_listed, plans_are_scripts}

pub groups_same : (net : Net) (h : Holds) (ps : List PlannedGroup)
    → map (λ r. r.group) (rounds_of net h ps) ≡ map (λ p. p.group) ps
groups_same net h [] = refl
groups_same net h (p ∷ ps) = ap (λ gs. p.group ∷ gs) (groups_same net (holds_after h p.plans) ps)

pub steps_same : (net : Net) (h : Holds) (xs : List PlannedStep)
    → steps_of (script_of net h xs) ≡ map seen_of xs
steps_same net h [] = refl
steps_same net h (Applies rounds ∷ xs) =
    ap (λ gs. Apply gs ∷ steps_of (script_of net (holds_after_rounds h rounds) xs)) (groups_same net h rounds)
    ∙ ap (λ ss. Apply (map (λ p. p.group) rounds) ∷ ss) (steps_same net (holds_after_rounds h rounds) xs)
steps_same net h (Runs n ∷ xs) = ap (λ ss. Run n ∷ ss) (steps_same net h xs)
steps_same net h (Resets ∷ xs) = ap (λ ss. Reset ∷ ss) (steps_same net (reset_holds net h) xs)

steps_count : (net : Net) (h : Holds) (xs : List PlannedStep) → length (script_of net h xs) ≡ length xs
steps_count net h [] = refl
steps_count net h (x ∷ xs) = omega (arith, steps_count net (holds_after_step net h x) xs)

rounds_count : (net : Net) (h : Holds) (xs : List PlannedStep)
    → length (rounds_in (script_of net h xs)) ≡ length (groups_in xs)
rounds_count net h [] = refl
rounds_count net h (Applies rounds ∷ xs) =
    omega (
      arith,
      length-append (rounds_of net h rounds)
          (rounds_in (script_of net (holds_after_rounds h rounds) xs)),
      length-append rounds (groups_in xs),
      length-rounds_of net h rounds,
      rounds_count net (holds_after_rounds h rounds) xs,
    )
rounds_count net h (Runs n ∷ xs) = rounds_count net h xs
rounds_count net h (Resets ∷ xs) = rounds_count net (reset_holds net h) xs

cycles_same : (net : Net) (h : Holds) (xs : List PlannedStep) → cycles_in (script_of net h xs) ≡ cycles_of xs
cycles_same net h [] = refl
cycles_same net h (Applies rounds ∷ xs) = cycles_same net (holds_after_rounds h rounds) xs
cycles_same net h (Runs n ∷ xs) = omega (arith, cycles_same net h xs)
cycles_same net h (Resets ∷ xs) = cycles_same net (reset_holds net h) xs

abbrev IsFew : Round → Type 0
IsFew r = length r.scans ≤ 17

both_few : (rs ts : List Round) → All IsFew rs → All IsFew ts → All IsFew (rs ++ ts)
both_few [] ts a b = b
both_few (r ∷ rs) ts a b =
    All-cons IsFew r (rs ++ ts) (All-head IsFew r rs a) (both_few rs ts (All-tail IsFew r rs a) b)

module _ (net : Net) (form : Items) (c : IsRetargetable net form) where
  rounds_few : (h : Holds) (ps : List PlannedGroup) → IsScannable net h
      → GroupsArePlanned net form h ps → All IsFew (rounds_of net h ps)
  rounds_few h [] s a = All-nil IsFew
  rounds_few h (p ∷ ps) s a =
      let here = does net form c h p s a.0 in
      let few : length (scans_of net h p.plans) ≤ 17 = omega (
        arith,
        length-scans_of net h p.plans,
        here.short,
        group_shallow net form p.group h (can_open net form c h p s a.0),
      ) in
      All-cons IsFew (record { group = p.group; scans = scans_of net h p.plans }) (rounds_of net
      (holds_after h p.plans) ps) few (rounds_few (holds_after h p.plans) ps here.listed a.1)

  steps_few : (h : Holds) (xs : List PlannedStep) → IsScannable net h → StepsArePlanned net form h xs
      → All IsFew (rounds_in (script_of net h xs))
  steps_few h [] s a = All-nil IsFew
  steps_few h (Applies rounds ∷ xs) s a =
      both_few (rounds_of net h rounds)
      (rounds_in (script_of net (holds_after_rounds h rounds) xs)) (rounds_few h rounds s a.1)
      (steps_few (holds_after_rounds h rounds) xs (rounds_listed net form c h rounds s a.1) a.2)
  steps_few h (Runs n ∷ xs) s a = steps_few h xs s a.1
  steps_few h (Resets ∷ xs) s a = steps_few (reset_holds net h) xs (reset_scannable net form c.lawful h s) a

pub plans_are_right : PlansAreRight
plans_are_right net form device xs c d a w =
    let h = start_holds net in
    let script = script_of net h xs in
    let bytes = script_text device script in
    let s = start_scannable net form c.lawful in
    let u = selects_drive_nothing net form c in
    let planned = plans_are_scripts net form xs c a in
    let right : IsRetargeting net device (steps_of script) script bytes =
    planned_scripts_are_right net device script c.well_formed u d planned in
    let limits : IsLimited script = record {
      few_steps = omega (arith, steps_count net h xs, w.few_steps);
      few_rounds = omega (arith, rounds_count net h xs, w.few_rounds);
      few_scans =
          steps_few net form c h xs s a;
      few_cycles = omega (arith, cycles_same net h xs, w.few_cycles);
    } in
    let short = planned_scripts_are_short net device h script c.well_formed d s.widths planned limits in
    record {
      network = c;
      plans = xs;
      planned = a;
      right = subst (λ steps. IsRetargeting net device steps script bytes)
          (steps_same net h xs) right;
      read = written_scripts_are_read device script d
          (planned_written net h script planned) short.0.few_clocks;
      short = short.0;
      few_bytes = short.1;
      least = λ machines. (plans_play net form device machines xs c d a).1;
    }
