-- What the stage of the procedure refuses for, from the fault of the call.
use Rattle.std.specs.Prelude.{Option, None}
use Rattle.std.specs.Option.{option_map}
use Rattle.std.proofs.Common.{◌≡◌, sym, Some}
use Rattle.merge_order.specs.BitSteps.{AFault, Expands, Feeds}
use Rattle.merge_order.specs.Seen.{Ends, EndsIn, expand_fault, feed_fault}
use Rattle.merge_order.specs.declared.step_fault.StepFault.{StepFault}
use Rattle.net_graph.specs.declared.net.Net.{Net}
use Rattle.merge_order.specs.declared.step_fault.StepFault.TheVariants.{OutOfMemory, Expand, Feed}
use Rattle.ijtag_stages.specs.Procedure.{fault_of, step_refusal}
use Rattle.ijtag_stages.specs.Refusals.{Refusal}
use Rattle.std.proofs.lemmas.Option.{same_Some}

no_refusal : (r : Refusal) → None ≡ Some r → ⊥
no_refusal r e = cc

-- the fault in which the bit steps end is the one that is told
said : (end at : Option AFault) (net : Net) (r : Refusal) → Ends end at
    → option_map (step_refusal net) at ≡ Some r
    → (fault : AFault) × (end ≡ Some fault) × (r ≡ step_refusal net fault)
said end None net r ends told = absurd ends
said end (Some fault) net r ends told = (fault, ends, sym (same_Some (step_refusal net fault) r told))

pub ends_told : (end : Option AFault) (net : Net) (e : StepFault) (r : Refusal) → EndsIn end e
    → option_map (step_refusal net) (fault_of e) ≡ Some r
    → (fault : AFault) × (end ≡ Some fault) × (r ≡ step_refusal net fault)
ends_told end net OutOfMemory r ends told = absurd (no_refusal r told)
ends_told end net (Expand x) r ends told = said end (option_map Expands (expand_fault x)) net r ends told
ends_told end net (Feed x) r ends told = said end (option_map Feeds (feed_fault x)) net r ends told
