-- The SVF text that is made of an accepted procedure.
use Rattle.std.proofs.Common.{sym, subst, ℕ, List, [], Some}
use Rattle.std.specs.Prelude.{All}
use Rattle.net_graph.specs.declared.device.Device.{Device}
use Rattle.net_graph.specs.declared.net.Net.{Net}
use Rattle.net_graph.specs.Nets.{IsNet}
use Rattle.net_graph.specs.SeenSteps.{SeenStep}
use Rattle.net_tree.specs.Form.{Items, Describes}
use Rattle.pdl_parser.specs.Values.{AProc}
use Rattle.headline.specs.Retargeting.{DoesSteps}
use Rattle.headline.specs.Rounds.{StepIsPlannable, ProceduresArePlannable}
use Rattle.merge_order.specs.BitSteps.{bit_steps}
use Rattle.merge_order.specs.StepLaws.{BitStepsAreOfTheNetwork, BitStepsHavePaths}
use Rattle.retargeter.specs.Scripts.{HasScript, WritesScript, ScriptIsRight}
use Rattle.std.proofs.lemmas.Option.{same_Some}

-- each bit step of a procedure can be planned
pub plannable : BitStepsAreOfTheNetwork → BitStepsHavePaths → ProceduresArePlannable
    → (procs : List AProc) (net : Net) (form : Items) (name : List ℕ) → IsNet net → Describes net form
    → All (StepIsPlannable net form) (bit_steps procs net form name).steps
plannable valid paths plan procs net form name is d = plan net form (bit_steps procs net form name).steps
    (valid procs net form name is) (paths procs net form name) d

-- a sink that was empty holds exactly the text, which is right
pub made : (net : Net) (form : Items) (device : Device) (steps : List SeenStep) (svf : List ℕ)
    → HasScript net form device steps → WritesScript net form device steps (Some []) (Some svf)
    → ScriptIsRight net form device steps → DoesSteps net form device steps svf
made net form device steps svf (bytes, is) writes right =
    subst (λ (b : List ℕ). DoesSteps net form device steps b)
    (sym (same_Some svf bytes (writes bytes is).added)) (right bytes is)
