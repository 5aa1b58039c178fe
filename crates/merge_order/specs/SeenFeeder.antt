-- A feeder, as contracts see it.
use Rattle.std.specs.Prelude.{◌≡◌, List, ◌++◌, Result, Ok, Err}
use Rattle.std.specs.Option.{option_map}
use Rattle.net_graph.specs.declared.net.Net.{Net}
use Rattle.net_graph.specs.SeenSteps.{SeenStep}
use Rattle.net_tree.specs.Form.{Items}
use Rattle.merge_order.specs.Feeding.{Merging, State, Fed, Is, Fails}
use Rattle.merge_order.specs.SeenTurns.{seen_lists, seen_steps}
use Rattle.merge_order.specs.SeenFaults.{Refuses}
use Rattle.merge_order.specs.declared.fault.FeedFault.{FeedFault}
use Rattle.merge_order.specs.declared.feeding.Begun.{Begun}
use Rattle.merge_order.specs.declared.feeding.Feed.{Feed}

-- the network, its nested form, what was taken in, and the bit steps that are ready
pub record AFeeder : Type 0 where
  pub net : Net
  pub form : Items
  pub state : State
  pub ready : List SeenStep

-- what a step comes to, after bit steps that are ready
abbrev pub following : List SeenStep → Fed → Fed
following ready (Is s more) = Is s (ready ++ more)
following ready (Fails fault) = Fails fault

-- a step is taken in, or the fault that it comes to is said
abbrev pub Feeds : Fed → AFeeder → AFeeder → Result (Unit {0}) FeedFault → Type 0
Feeds fed old new (Ok u) = following old.ready fed ≡ Is new.state new.ready
Feeds fed old new (Err e) = Refuses fed e

abbrev pub seen_begun : Begun → Merging
seen_begun b = record { branches = seen_lists b.branches.items; next = seen_steps b.next.items }

abbrev pub seen_feed : Feed → AFeeder
seen_feed f = record {
  net = f.binder.net;
  form = f.binder.form;
  state = record {
    queue = f.binder.queue;
    merging = option_map seen_begun f.merging;
  };
  ready = seen_steps f.ready.items;
}

-- the binder is one of the tree
abbrev pub HasItsTree : Feed → Type 0
HasItsTree f = f.binder.form ≡ f.tree.now
