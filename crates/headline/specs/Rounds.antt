-- Registers and groups that can be on one path of a network with its form (IEEE 1687-2014: ScanMux, active
-- scan path; PDL level 0: iApply).
use Rattle.std.specs.Prelude.{ℕ, ◌≤◌, List, length, All}
use Rattle.net_graph.specs.declared.net.Net.{Net}
use Rattle.net_graph.specs.declared.net.Point.TheVariants.{Reg}
use Rattle.net_graph.specs.declared.step.WriteBit.{WriteBit}
use Rattle.net_graph.specs.declared.step.ReadBit.{ReadBit}
use Rattle.net_graph.specs.Groups.{IsEmpty}
use Rattle.net_graph.specs.SeenSteps.{SeenGroup, SeenStep, Apply, Run, Reset}
use Rattle.net_graph.specs.Steps.{IsGroup, IsStep}
use Rattle.net_tree.specs.Form.{Items, Describes}
use Rattle.net_tree.specs.Needs.{needs, IsExclusive}
use Rattle.net_tree.specs.Places.{place_of}
use Rattle.pdl_targets.specs.Rounds.{groups}
use Rattle.pdl_targets.specs.Laws.{HasPaths}
use Rattle.pdl_targets.specs.SeenPlaces.{places_in}

-- no register is in two rows of one mux
abbrev pub RegistersNeedOneRow : Type 0
RegistersNeedOneRow = (net : Net) (form : Items) (r : ℕ)
    → Describes net form → ¬ IsExclusive (place_of form (Reg r))

-- no group of an iApply needs two rows of one mux, whatever its queue is
abbrev pub GroupsNeedOneRowEach : Type 0
GroupsNeedOneRowEach = (net : Net) (form : Items) (writes : List WriteBit) (reads : List ReadBit)
    (registers : List ℕ) → Describes net form
    → All (λ g. ¬ IsExclusive (needs form g)) (groups (places_in form) writes reads registers)

-- what is asked of a group that is planned: it names a bit, it is one of the network, and it needs one row of
-- each mux at most
pub record IsPlannable (net : Net) (form : Items) (g : SeenGroup) : Type 0 where
  pub named : ¬ IsEmpty g
  pub valid : IsGroup net g
  pub together : ¬ IsExclusive (needs form g)

-- and of a bit step
abbrev pub StepIsPlannable : Net → Items → SeenStep → Type 0
StepIsPlannable net form (Apply rounds) = (1 ≤ length rounds) × All (IsPlannable net form) rounds
StepIsPlannable net form (Run n) = n ≤ 999999999
StepIsPlannable net form Reset = Unit {0}

-- so are bit steps of the network, where the registers of each round can be on one path
abbrev pub ProceduresArePlannable : Type 0
ProceduresArePlannable = (net : Net) (form : Items) (steps : List SeenStep) → All (IsStep net) steps
    → All (HasPaths (places_in form)) steps → Describes net form → All (StepIsPlannable net form) steps
