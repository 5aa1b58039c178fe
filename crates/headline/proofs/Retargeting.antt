-- Steps with plans give a planned script.
use Rattle.std.proofs.Common.{◌≡◌, ◌≤◌, List, [], ◌∷◌, length, refl, arith}
use Rattle.net_graph.specs.declared.net.Net.{Net}
use Rattle.net_graph.specs.Resets.{reset_holds, start_holds}
use Rattle.net_graph.specs.Signals.{Holds}
use Rattle.net_tree.specs.Form.{Items}
use Rattle.path_planner.specs.Opening.{CanOpen}
use Rattle.path_planner.specs.Scannable.{IsScannable}
use Rattle.path_planner.proofs.Starting.{start_scannable, reset_scannable}
use Rattle.headline.specs.Planned.{RoundsArePlanned, IsPlanned}
use Rattle.headline.specs.Scans.{DoGroup, holds_after}
use Rattle.headline.specs.Retargeting.{PlannedGroup, PlannedStep, Applies, Runs, Resets, rounds_of}
use Rattle.headline.specs.Retargeting.{holds_after_rounds, script_of, IsPlannedGroup, GroupsArePlanned}
use Rattle.headline.specs.Retargeting.{StepsArePlanned, IsRetargetable, PlansAreScripts}
use Rattle.headline.proofs.Scanned.{plans_do_groups}

pub length-rounds_of : (net : Net) (holds : Holds) (ps : List PlannedGroup)
    → length (rounds_of net holds ps) ≡ length ps
length-rounds_of net holds [] = refl
length-rounds_of net holds (p ∷ ps) = omega (arith, length-rounds_of net (holds_after holds p.plans) ps)

module _ (net : Net) (form : Items) (c : IsRetargetable net form) where
  pub can_open : (holds : Holds) (p : PlannedGroup) → IsScannable net holds
      → IsPlannedGroup net form holds p → CanOpen net form p.group holds
  can_open holds p s a =
      record {
        well_formed = c.well_formed;
        describes = c.describes;
        lawful = c.lawful;
        group = a.valid;
        together = a.together;
        listed = s;
      }

  pub does : (holds : Holds) (p : PlannedGroup) → IsScannable net holds → IsPlannedGroup net form holds p
      → DoGroup net form holds p.group p.plans
  does holds p s a = plans_do_groups net form p.group holds p.plans (can_open holds p s a) a.named a.plans

  pub rounds_planned : (holds : Holds) (ps : List PlannedGroup)
      → IsScannable net holds → GroupsArePlanned net form holds ps
      → RoundsArePlanned net holds (rounds_of net holds ps) (holds_after_rounds holds ps)
  rounds_planned holds [] s a = refl
  rounds_planned holds (p ∷ ps) s a =
      let here = does holds p s a.0 in
      (holds_after holds p.plans, here.planned, rounds_planned (holds_after holds p.plans) ps here.listed a.1)

  pub rounds_listed : (holds : Holds) (ps : List PlannedGroup) → IsScannable net holds
      → GroupsArePlanned net form holds ps → IsScannable net (holds_after_rounds holds ps)
  rounds_listed holds [] s a = s
  rounds_listed holds (p ∷ ps) s a =
      rounds_listed (holds_after holds p.plans) ps (does holds p s a.0).listed a.1

  steps_planned : (holds : Holds) (xs : List PlannedStep) → IsScannable net holds
      → StepsArePlanned net form holds xs → IsPlanned net holds (script_of net holds xs)
  steps_planned holds [] s a = tt
  steps_planned holds (Applies rounds ∷ xs) s a =
      let some : 1 ≤ length (rounds_of net holds rounds) =
      omega (arith, length-rounds_of net holds rounds, a.0) in (
        some,
        (
          holds_after_rounds holds rounds,
          rounds_planned holds rounds s a.1,
          steps_planned (holds_after_rounds holds rounds) xs (rounds_listed holds rounds s a.1) a.2,
        ),
      )
  steps_planned holds (Runs n ∷ xs) s a = (a.0, steps_planned holds xs s a.1)
  steps_planned holds (Resets ∷ xs) s a =
      steps_planned (reset_holds net holds) xs (reset_scannable net form c.lawful holds s) a

pub plans_are_scripts : PlansAreScripts
plans_are_scripts net form xs c a =
    steps_planned net form c (start_holds net) xs (start_scannable net form c.lawful) a
