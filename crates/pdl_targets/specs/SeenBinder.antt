-- A binder, as contracts see it.
use Rattle.std.specs.Prelude.{Option, None, Some}
use Rattle.net_graph.specs.declared.net.Net.{Net}
use Rattle.net_tree.specs.Form.{Items}
use Rattle.pdl_targets.specs.declared.binder.Made.{Made}
use Rattle.pdl_targets.specs.Binding.{Queue, empty}
use Rattle.pdl_targets.specs.Index.{IsIndex}
use Rattle.pdl_targets.specs.SeenGathered.{IsKept, seen_gathered}

-- the network, its nested form, and what came since the last iApply
pub record ABinder : Type 0 where
  pub net : Net
  pub form : Items
  pub queue : Queue

-- what is made at the first step is an index of the network, and marks of the queue
pub record IsMade (net : Net) (made : Made) : Type 0 where
  pub index : IsIndex net made.index
  pub kept : IsKept net made.gathered

-- the queue, which is empty before the first step
abbrev pub queue_in : Option Made → Queue
queue_in None = empty
queue_in (Some made) = seen_gathered made.gathered
