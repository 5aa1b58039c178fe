-- The SVF of a procedure's bit steps (Serial Vector Format, revision E).
use Rattle.std.specs.Prelude.{◌≡◌, ◌≤◌, ℕ, List, length, Option}
use Rattle.ij_io.specs.Bytes.{Adds, AddsPart}
use Rattle.net_graph.specs.declared.device.Device.{Device}
use Rattle.net_graph.specs.declared.net.Net.{Net}
use Rattle.net_graph.specs.Resets.{start_holds}
use Rattle.net_graph.specs.SeenSteps.{SeenStep}
use Rattle.net_tree.specs.Form.{Items}
use Rattle.pdl_targets.specs.Laws.{rounds_in, cycles_in}
use Rattle.headline.specs.Script.{steps_text, script_text}
use Rattle.headline.specs.Retargeting.{PlannedStep, script_of, DoesSteps}
use Rattle.retargeter.specs.Plans.{AreStepsOf}
use Rattle.retargeter.specs.Session.{Session}

-- ---- bit steps after others, whatever their plans are

module _ (s : Session) (steps : List SeenStep) where
  -- exactly their text is added
  abbrev pub WritesSteps : Option (List ℕ) → Option (List ℕ) → Type 0
  WritesSteps old new = (xs : List PlannedStep) → AreStepsOf s.net s.form s.holds steps xs
      → Adds old new (steps_text s.device s.applies (script_of s.net s.holds xs))

  -- some first bytes of their text are added
  abbrev pub WritesStepsPart : Option (List ℕ) → Option (List ℕ) → Type 0
  WritesStepsPart old new = (xs : List PlannedStep) → AreStepsOf s.net s.form s.holds steps xs
      → AddsPart old new (steps_text s.device s.applies (script_of s.net s.holds xs))

-- ---- all bit steps of a procedure, from power-up on

-- within this compiler's limits: steps, rounds of all iApplys, and cycles of all iRunLoops
pub record AreFew (steps : List SeenStep) : Type 0 where
  pub few_steps : length steps ≤ 100000
  pub few_rounds : rounds_in steps ≤ 4096
  pub few_cycles : cycles_in steps ≤ 4000000

-- these bytes are the text of the script of plans for the bit steps
pub record IsScript (net : Net) (form : Items) (device : Device)
    (steps : List SeenStep) (bytes : List ℕ) : Type 0 where
  pub plans : List PlannedStep
  pub planned : AreStepsOf net form (start_holds net) steps plans
  pub text : bytes ≡ script_text device (script_of net (start_holds net) plans)

module _ (net : Net) (form : Items) (device : Device) (steps : List SeenStep) where
  -- there is such a text
  abbrev pub HasScript : Type 0
  HasScript = (bytes : List ℕ) × IsScript net form device steps bytes

  -- exactly such a text is added
  abbrev pub WritesScript : Option (List ℕ) → Option (List ℕ) → Type 0
  WritesScript old new = (bytes : List ℕ) → IsScript net form device steps bytes → Adds old new bytes

  -- some first bytes of such a text are added
  abbrev pub WritesScriptPart : Option (List ℕ) → Option (List ℕ) → Type 0
  WritesScriptPart old new = (bytes : List ℕ) → IsScript net form device steps bytes → AddsPart old new bytes

  -- such a text does the bit steps
  abbrev pub ScriptIsRight : Type 0
  ScriptIsRight = (bytes : List ℕ) → IsScript net form device steps bytes
      → DoesSteps net form device steps bytes
