use Rattle.std.proofs.Common.{◌≡◌, ◌++◌, map}
use Rattle.net_wave.specs.Vars.{up_to, node_items}
use Rattle.instruments.specs.Seen.{seen_model}
use Rattle.net_wave.proofs.items.add_nodes.Given as goal

abbrev pub invariant-loop-node : goal.invariant-loop-node
invariant-loop-node l = l.items.items
    ≡ l.fn.items.items ++ up_to (node_items l.kind l.net (map seen_model l.models.items)) l.node
