-- The faults of the calls, as the definitions say them.
use Rattle.std.specs.Prelude.{◌≡◌, Option, Some, None}
use Rattle.std.specs.Option.{option_map}
use Rattle.pdl_targets.specs.Seen.{fault_of as target_fault}
use Rattle.pdl_targets.specs.declared.fault.TargetFault.{TargetFault}
use Rattle.pdl_targets.specs.declared.fault.TargetFault.TheVariants as target
use Rattle.merge_order.specs.Feeding.{AFault, IsMergeInside, IsMergeReset, Targets, Fed, Fails}
use Rattle.merge_order.specs.declared.fault.FeedFault.{FeedFault}
use Rattle.merge_order.specs.declared.fault.FeedFault.TheVariants as fault

-- a step comes to this fault, if it is one
abbrev pub FailsBy : Fed → Option AFault → Type 0
FailsBy fed None = ⊥
FailsBy fed (Some f) = fed ≡ Fails f

-- A refusal says the fault that a step comes to. Want of memory alone is free; it is `OutOfMemory`, and no
-- refusal holds the want of memory of another crate.
abbrev pub Refuses : Fed → FeedFault → Type 0
Refuses fed fault.OutOfMemory = Unit {0}
Refuses fed (fault.MergeInside at) = fed ≡ Fails (IsMergeInside at)
Refuses fed (fault.MergeReset at) = fed ≡ Fails (IsMergeReset at)
Refuses fed (fault.Target e) = FailsBy fed (option_map Targets (target_fault e))

-- want of memory has one name
abbrev pub of_target : TargetFault → FeedFault
of_target target.OutOfMemory = fault.OutOfMemory
of_target (target.NoTarget at) = fault.Target (target.NoTarget at)
of_target (target.NoValue at) = fault.Target (target.NoValue at)
of_target (target.ValueWide at) = fault.Target (target.ValueWide at)
of_target (target.NotWritable at) = fault.Target (target.NotWritable at)
of_target (target.NotReadable at) = fault.Target (target.NotReadable at)
of_target (target.SelectTarget at bit) = fault.Target (target.SelectTarget at bit)
of_target (target.BadCount at) = fault.Target (target.BadCount at)
of_target (target.Limit at which number) = fault.Target (target.Limit at which number)
of_target (target.Unapplied at) = fault.Target (target.Unapplied at)
