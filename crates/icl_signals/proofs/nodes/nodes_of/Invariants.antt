use Rattle.std.proofs.Common.{◌≡◌, [], map, take, drop}
use Rattle.net_graph.specs.Nets.{path_of}
use Rattle.icl_references.specs.Roles.{seen_cell, seen_hier}
use Rattle.icl_signals.specs.Connecting.{paths_from}
use Rattle.icl_signals.proofs.nodes.nodes_of.Given as goal

abbrev pub invariant-loop-cell : goal.invariant-loop-cell
invariant-loop-cell l = record {
  paths : paths_from (map path_of l.nodes.items)
      (map seen_cell (drop l.cell-index l.cell-items)) ≡ paths_from [] (seen_hier l.fn.hier);
  modules : map (λ node. node.«module».items) l.nodes.items
      ≡ map (λ c. c.module_name) (map seen_cell (take l.cell-index l.cell-items));
}
