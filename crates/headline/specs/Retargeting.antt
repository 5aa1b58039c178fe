-- A procedure's bit steps with the plans of their rounds, and the script that they give
-- (IEEE 1687-2014, PDL level 0, retargeted to Serial Vector Format, revision E).
use Rattle.std.specs.Prelude.{◌≡◌, ◌≤◌, ◌<◌, ℕ, suc, ◌+◌, List, [], ◌∷◌, ◌++◌, length, map, Ok}
use Rattle.net_graph.specs.declared.device.Device.{Device}
use Rattle.net_graph.specs.declared.net.Net.{Net}
use Rattle.net_graph.specs.Devices.{IsDevice}
use Rattle.net_graph.specs.Groups.{IsEmpty}
use Rattle.net_graph.specs.Nets.{IsNet}
use Rattle.net_graph.specs.Resets.{reset_holds, start_holds}
use Rattle.net_graph.specs.SeenSteps.{SeenGroup, SeenStep, Apply, Run, Reset}
use Rattle.net_graph.specs.Signals.{Holds}
use Rattle.net_graph.specs.Steps.{IsGroup}
use Rattle.net_tree.specs.Form.{Items, Describes}
use Rattle.net_tree.specs.Lawful.{IsLawful}
use Rattle.net_tree.specs.Needs.{needs, group_depth, IsExclusive}
use Rattle.path_planner.specs.Least.{IsLeast}
use Rattle.path_planner.specs.Plans.{ArePlans}
use Rattle.tap_machine.specs.Play.{scans_in}
use Rattle.instruments.specs.Machine.{Machine, whole_log}
use Rattle.net_bench.specs.Bench.{Chip, State, fault_free}
use Rattle.net_bench.specs.Playing.{play_from}
use Rattle.headline.specs.Agreement.{after_round}
use Rattle.headline.specs.Headline.{PlaysOn, IsRetargeting, after_preface, first_scans}
use Rattle.headline.specs.Planned.{IsPlanned}
use Rattle.headline.specs.Sizes.{IsShort}
use Rattle.svf_reader.specs.Meaning.{svf}
use Rattle.headline.specs.Script.{Round, ScannedStep, Applied, Ran, WasReset, commands_of, script_commands}
use Rattle.headline.specs.Script.{script_text}
use Rattle.headline.specs.Scans.{scans_of, holds_after}

-- one round of an iApply with the plans of its scans
pub record PlannedGroup : Type 0 where
  pub group : SeenGroup
  pub plans : List SeenGroup

-- a bit step, an iApply with the plans of its rounds
pub data PlannedStep : Type 0 where
  Applies : (rounds : List PlannedGroup) → PlannedStep
  Runs : (cycles : ℕ) → PlannedStep
  Resets : PlannedStep

-- the bit step that is planned
abbrev pub seen_of : PlannedStep → SeenStep
seen_of (Applies rounds) = Apply (map (λ p. p.group) rounds)
seen_of (Runs n) = Run n
seen_of Resets = Reset

-- the rounds with their scans, where the update stages are these before them
abbrev pub rounds_of : Net → Holds → List PlannedGroup → List Round
rounds_of net holds [] = []
rounds_of net holds (p ∷ ps) = record { group = p.group; scans = scans_of net holds p.plans }
    ∷ rounds_of net (holds_after holds p.plans) ps

abbrev pub holds_after_rounds : Holds → List PlannedGroup → Holds
holds_after_rounds holds [] = holds
holds_after_rounds holds (p ∷ ps) = holds_after_rounds (holds_after holds p.plans) ps

abbrev pub scanned_of : Net → Holds → PlannedStep → ScannedStep
scanned_of net holds (Applies rounds) = Applied (rounds_of net holds rounds)
scanned_of net holds (Runs n) = Ran n
scanned_of net holds Resets = WasReset

abbrev pub holds_after_step : Net → Holds → PlannedStep → Holds
holds_after_step net holds (Applies rounds) = holds_after_rounds holds rounds
holds_after_step net holds (Runs n) = holds
holds_after_step net holds Resets = reset_holds net holds

-- the script of all steps
abbrev pub script_of : Net → Holds → List PlannedStep → List ScannedStep
script_of net holds [] = []
script_of net holds (x ∷ xs) = scanned_of net holds x ∷ script_of net (holds_after_step net holds x) xs

-- a group that names a bit, and needs one row of each mux at most, with its plans
pub record IsPlannedGroup (net : Net) (form : Items) (holds : Holds) (p : PlannedGroup) : Type 0 where
  pub named : ¬ IsEmpty p.group
  pub valid : IsGroup net p.group
  pub together : ¬ IsExclusive (needs form p.group)
  pub plans : ArePlans net form p.group holds p.plans

abbrev pub GroupsArePlanned : Net → Items → Holds → List PlannedGroup → Type 0
GroupsArePlanned net form holds [] = Unit {0}
GroupsArePlanned net form holds (p ∷ ps) = IsPlannedGroup net form holds p
    × GroupsArePlanned net form (holds_after holds p.plans) ps

abbrev pub StepsArePlanned : Net → Items → Holds → List PlannedStep → Type 0
StepsArePlanned net form holds [] = Unit {0}
StepsArePlanned net form holds (Applies rounds ∷ xs) =
    (1 ≤ length rounds) × GroupsArePlanned net form holds rounds
    × StepsArePlanned net form (holds_after_rounds holds rounds) xs
StepsArePlanned net form holds (Runs n ∷ xs) = (n ≤ 999999999) × StepsArePlanned net form holds xs
StepsArePlanned net form holds (Resets ∷ xs) = StepsArePlanned net form (reset_holds net holds) xs

-- a network that can be compiled for: its form describes it, and its selects are lawful
pub record IsRetargetable (net : Net) (form : Items) : Type 0 where
  pub well_formed : IsNet net
  pub describes : Describes net form
  pub lawful : IsLawful net form

-- The scans of a round, where the update stages are these before it: they are those of plans of its group, of
-- which each but the last opens what the group needs, and the last one writes and reads. There are as few as
-- can be, and at most as many as the group is deep, and one more.
pub record IsOpened (net : Net) (form : Items) (holds : Holds) (r : Round) : Type 0 where
  pub plans : List SeenGroup
  pub planned : ArePlans net form r.group holds plans
  pub scans : r.scans ≡ scans_of net holds plans
  pub least : IsLeast net r.group holds (length r.scans)
  pub short : length r.scans ≤ suc (group_depth form r.group)

module _ {L : Type 0} (chip : Chip L) (form : Items) where
  -- so each round is done from the update stages that the bench has at its beginning
  abbrev pub RoundsAreLeast : ℕ → State L → List Round → Type 0
  RoundsAreLeast scans s [] = Unit {0}
  RoundsAreLeast scans s (r ∷ rs) =
      IsOpened chip.net form s.holds r
      × RoundsAreLeast (scans + length r.scans) (after_round chip scans s r) rs

  abbrev pub StepIsLeast : ℕ → State L → ScannedStep → Type 0
  StepIsLeast scans s (Applied rounds) = RoundsAreLeast scans s rounds
  StepIsLeast scans s (Ran n) = Unit {0}
  StepIsLeast scans s WasReset = Unit {0}

  abbrev pub AreLeast : ℕ → State L → List ScannedStep → Type 0
  AreLeast scans s [] = Unit {0}
  AreLeast scans s (x ∷ xs) =
      let cs = commands_of chip.device x in
      StepIsLeast scans s x × AreLeast (scans + scans_in cs) (play_from chip scans cs s) xs

-- steps with plans give a planned script
abbrev pub PlansAreScripts : Type 0
PlansAreScripts =
    (net : Net) (form : Items) (xs : List PlannedStep) → IsRetargetable net form
    → StepsArePlanned net form (start_holds net) xs
    → IsPlanned net (start_holds net) (script_of net (start_holds net) xs)

-- played from power-up on any fitting bench, the script does what its steps mean, with as few scans in each
-- round as can be
abbrev pub PlansPlay : Type 0
PlansPlay =
    (net : Net) (form : Items) (device : Device) (machines : List Machine) (xs : List PlannedStep)
    → IsRetargetable net form → IsDevice device → StepsArePlanned net form (start_holds net) xs
    → PlaysOn net device machines (script_of net (start_holds net) xs)
    × AreLeast (fault_free whole_log net device machines) form
    (first_scans (fault_free whole_log net device machines))
    (after_preface (fault_free whole_log net device machines)) (script_of net (start_holds net) xs)

-- all rounds, and the cycles of all runs
abbrev pub groups_in : List PlannedStep → List PlannedGroup
groups_in [] = []
groups_in (Applies rounds ∷ xs) = rounds ++ groups_in xs
groups_in (Runs n ∷ xs) = groups_in xs
groups_in (Resets ∷ xs) = groups_in xs

abbrev pub cycles_of : List PlannedStep → ℕ
cycles_of [] = 0
cycles_of (Applies rounds ∷ xs) = cycles_of xs
cycles_of (Runs n ∷ xs) = n + cycles_of xs
cycles_of (Resets ∷ xs) = cycles_of xs

-- within this compiler's limits
pub record IsWithinLimits (xs : List PlannedStep) : Type 0 where
  pub few_steps : length xs ≤ 100000
  pub few_rounds : length (groups_in xs) ≤ 4096
  pub few_cycles : cycles_of xs ≤ 4000000

-- On a network with its lawful form, the bytes are the text of the script of plans for these bit steps, and a
-- reader of SVF finds the script's commands in them: these, played clock by clock from power-up, do the bit
-- steps, whatever the instruments are, and each round's scans are the opening of its group and then its one
-- scan, as few as can be.
pub record DoesSteps (net : Net) (form : Items) (device : Device)
    (steps : List SeenStep) (bytes : List ℕ) : Type 0 where
  pub network : IsRetargetable net form
  pub plans : List PlannedStep
  pub planned : StepsArePlanned net form (start_holds net) plans
  pub right : IsRetargeting net device steps (script_of net (start_holds net) plans) bytes
  pub read : svf bytes ≡ Ok (script_commands device (script_of net (start_holds net) plans))
  pub short : IsShort device (script_of net (start_holds net) plans)
  pub few_bytes : length bytes < 90000000
  pub least : (machines : List Machine) → AreLeast (fault_free whole_log net device machines) form
      (first_scans (fault_free whole_log net device machines))
      (after_preface (fault_free whole_log net device machines)) (script_of net (start_holds net) plans)

-- so is the text of planned steps within the limits
abbrev pub PlansAreRight : Type 0
PlansAreRight =
    (net : Net) (form : Items) (device : Device) (xs : List PlannedStep) → IsRetargetable net form
    → IsDevice device → StepsArePlanned net form (start_holds net) xs → IsWithinLimits xs
    → DoesSteps net form device (map seen_of xs) (script_text device (script_of net (start_holds net) xs))

-- bit steps have one script, whatever plans were found: so the text is a function of the network and the
-- steps
abbrev pub ScriptsAreOne : Type 0
ScriptsAreOne =
    (net : Net) (form : Items) (holds : Holds) (xs ys : List PlannedStep) → StepsArePlanned net form holds xs
    → StepsArePlanned net form holds ys → map seen_of xs ≡ map seen_of ys
    → script_of net holds xs ≡ script_of net holds ys

-- so network, device and bit steps have one text that is right
abbrev pub TextsAreOne : Type 0
TextsAreOne =
    (net : Net) (form : Items) (device : Device) (steps : List SeenStep) (a b : List ℕ)
    → DoesSteps net form device steps a → DoesSteps net form device steps b
    → a ≡ b
