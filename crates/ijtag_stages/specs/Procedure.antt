-- The stage of the procedure: its steps one after the other, each bound to register bits, up to its end
-- (IEEE 1687-2014, PDL level 0).
use Rattle.std.specs.Prelude.{◌≡◌, ℕ, List, [], ◌∷◌, Option, Some, None, codes}
use Rattle.std.specs.Option.{option_map}
use Rattle.merge_order.specs.declared.step_fault.StepFault.{StepFault}
use Rattle.net_graph.specs.declared.net.Net.{Net}
use Rattle.merge_order.specs.declared.step_fault.StepFault.TheVariants.{OutOfMemory as StepMemory, Expand}
use Rattle.merge_order.specs.declared.step_fault.StepFault.TheVariants.{Feed}
use Rattle.merge_order.specs.Seen.{expand_fault, feed_fault}
use Rattle.merge_order.specs.BitSteps.{AFault, Expands, Feeds, bit_steps}
use Rattle.merge_order.specs.Feeding.{AFault as FeedFault, IsMergeInside, IsMergeReset, Targets}
use Rattle.net_graph.specs.SeenSteps.{SeenStep}
use Rattle.pdl_expand.specs.Expansion.{AFault as ExpandFault, IsNoProc, IsArgCount, IsTooManySteps, IsNoName}
use Rattle.pdl_expand.specs.Expansion.{IsCallDepth}
use Rattle.pdl_parser.specs.Values.{AProc}
use Rattle.pdl_targets.specs.Targets.{AFault as TargetFault, IsNoTarget, IsNoValue, IsValueWide}
use Rattle.pdl_targets.specs.Targets.{IsNotWritable, IsNotReadable, IsSelectTarget, IsBadCount, IsLimit}
use Rattle.pdl_targets.specs.Targets.{IsUnapplied}
use Rattle.ijtag_stages.specs.Elaborated.{which_name}
use Rattle.ijtag_stages.specs.NetNames.{bit_arg}
use Rattle.ijtag_stages.specs.declared.network.Network.{Network}
use Rattle.ijtag_stages.specs.Refusals.{Part, Refusal, At, Num, Said, refused_at, refused_word}
use Rattle.ijtag_stages.specs.declared.refusal.Stage.TheVariants.{Pdl}

-- how a fault of calls and prefixes is reported
abbrev pub expand_refusal : ExpandFault → Refusal
expand_refusal (IsNoProc at name) = refused_word Pdl (codes "NoProc") at name
expand_refusal (IsArgCount at) = refused_at Pdl (codes "ArgCount") at
expand_refusal (IsTooManySteps at) = refused_at Pdl (codes "TooManySteps") at
expand_refusal (IsNoName at name) = refused_word Pdl (codes "NoName") at name
expand_refusal (IsCallDepth at) = refused_at Pdl (codes "CallDepth") at

-- how a fault of targets is reported
abbrev pub target_refusal : Net → TargetFault → Refusal
target_refusal net (IsNoTarget at) = refused_at Pdl (codes "NoTarget") at
target_refusal net (IsNoValue at) = refused_at Pdl (codes "NoValue") at
target_refusal net (IsValueWide at) = refused_at Pdl (codes "ValueWide") at
target_refusal net (IsNotWritable at) = refused_at Pdl (codes "NotWritable") at
target_refusal net (IsNotReadable at) = refused_at Pdl (codes "NotReadable") at
target_refusal net (IsSelectTarget at bit) =
    record { stage = Pdl; kind = codes "SelectTarget"; args = At at ∷ bit_arg net bit ∷ [] }
target_refusal net (IsBadCount at) = refused_at Pdl (codes "BadCount") at
target_refusal net (IsLimit at which number) =
    record { stage = Pdl; kind = codes "Limit"; args = At at ∷ Said (which_name which) ∷ Num number ∷ [] }
target_refusal net (IsUnapplied at) = refused_at Pdl (codes "Unapplied") at

-- how a fault of a step is reported
abbrev pub feed_refusal : Net → FeedFault → Refusal
feed_refusal net (IsMergeInside at) = refused_at Pdl (codes "MergeInside") at
feed_refusal net (IsMergeReset at) = refused_at Pdl (codes "MergeReset") at
feed_refusal net (Targets fault) = target_refusal net fault

abbrev pub step_refusal : Net → AFault → Refusal
step_refusal net (Expands fault) = expand_refusal fault
step_refusal net (Feeds fault) = feed_refusal net fault

-- the fault that a refusal of the call says, unless memory ran out
abbrev pub fault_of : StepFault → Option AFault
fault_of StepMemory = None
fault_of (Expand e) = option_map Expands (expand_fault e)
fault_of (Feed e) = option_map Feeds (feed_fault e)

-- the bit steps of a procedure that comes to its end, or its first fault
unfoldable pub procedure : List AProc → Network → List ℕ → Part (List SeenStep)
procedure procs network name = record {
  gives = λ steps. bit_steps procs network.net network.form name ≡ record { steps = steps; fault = None };
  refuses = λ r. (fault : AFault) × ((bit_steps procs network.net network.form name).fault ≡ Some fault)
      × (r ≡ step_refusal network.net fault);
}
