-- The faults of the calls, as the definitions say them.
use Rattle.std.specs.Prelude.{◌≡◌, [], Option, Some, None}
use Rattle.std.specs.Option.{option_map}
use Rattle.pdl_expand.specs.Expansion.{AFault as AnExpandFault, IsNoProc, IsArgCount, IsTooManySteps}
use Rattle.pdl_expand.specs.Expansion.{IsNoName, IsCallDepth}
use Rattle.pdl_expand.specs.declared.fault.ExpandFault.{ExpandFault}
use Rattle.pdl_expand.specs.declared.fault.ExpandFault.TheVariants as expand
use Rattle.pdl_targets.specs.Seen.{fault_of as target_fault}
use Rattle.merge_order.specs.Feeding.{AFault as AFeedFault, IsMergeInside, IsMergeReset, Targets}
use Rattle.merge_order.specs.declared.fault.FeedFault.{FeedFault}
use Rattle.merge_order.specs.declared.fault.FeedFault.TheVariants as feed
use Rattle.merge_order.specs.BitSteps.{AFault, Expands, Feeds, BitStepsOf}
use Rattle.merge_order.specs.declared.step_fault.StepFault.{StepFault}
use Rattle.merge_order.specs.declared.step_fault.StepFault.TheVariants as fault

-- the fault that a refusal of the expansion says, unless memory ran out
abbrev pub expand_fault : ExpandFault → Option AnExpandFault
expand_fault expand.OutOfMemory = None
expand_fault (expand.NoProc at name) = Some (IsNoProc at name.items)
expand_fault (expand.ArgCount at) = Some (IsArgCount at)
expand_fault (expand.TooManySteps at) = Some (IsTooManySteps at)
expand_fault (expand.NoName at name) = Some (IsNoName at name.items)
expand_fault (expand.CallDepth at) = Some (IsCallDepth at)

-- the fault that a refusal of a step says, unless memory ran out
abbrev pub feed_fault : FeedFault → Option AFeedFault
feed_fault feed.OutOfMemory = None
feed_fault (feed.MergeInside at) = Some (IsMergeInside at)
feed_fault (feed.MergeReset at) = Some (IsMergeReset at)
feed_fault (feed.Target e) = option_map Targets (target_fault e)

-- a procedure ends in this fault, if it is one
abbrev pub Ends : Option AFault → Option AFault → Type 0
Ends end None = ⊥
Ends end (Some fault) = end ≡ Some fault

-- A procedure ends in the fault that a refusal says. Want of memory alone is free; it is `OutOfMemory`, and
-- no refusal holds the want of memory of another crate.
abbrev pub EndsIn : Option AFault → StepFault → Type 0
EndsIn end fault.OutOfMemory = Unit {0}
EndsIn end (fault.Expand e) = Ends end (option_map Expands (expand_fault e))
EndsIn end (fault.Feed e) = Ends end (option_map Feeds (feed_fault e))

-- no bit step is left, and a refusal says the fault that is, unless memory ran out
abbrev pub Refuses : BitStepsOf → StepFault → Type 0
Refuses left fault.OutOfMemory = Unit {0}
Refuses left (fault.Expand e) = (left.steps ≡ []) × EndsIn left.fault (fault.Expand e)
Refuses left (fault.Feed e) = (left.steps ≡ []) × EndsIn left.fault (fault.Feed e)

-- ---- want of memory has one name

abbrev pub of_expand : ExpandFault → StepFault
of_expand expand.OutOfMemory = fault.OutOfMemory
of_expand (expand.NoProc at name) = fault.Expand (expand.NoProc at name)
of_expand (expand.ArgCount at) = fault.Expand (expand.ArgCount at)
of_expand (expand.TooManySteps at) = fault.Expand (expand.TooManySteps at)
of_expand (expand.NoName at name) = fault.Expand (expand.NoName at name)
of_expand (expand.CallDepth at) = fault.Expand (expand.CallDepth at)

abbrev pub of_feed : FeedFault → StepFault
of_feed feed.OutOfMemory = fault.OutOfMemory
of_feed (feed.MergeInside at) = fault.Feed (feed.MergeInside at)
of_feed (feed.MergeReset at) = fault.Feed (feed.MergeReset at)
of_feed (feed.Target e) = fault.Feed (feed.Target e)
