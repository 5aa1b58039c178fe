use Rattle.std.proofs.Common.{map, sym, ap, ◌∙◌}
use Rattle.std.proofs.lemmas.List.{drop_all, take_all}
use Rattle.net_graph.specs.Nets.{path_of}
use Rattle.icl_references.specs.Roles.{seen_cell, seen_hier}
use Rattle.icl_signals.specs.Connecting.{paths_from}
use Rattle.icl_signals.proofs.NodesByPaths.{nodes_are}
use Rattle.icl_signals.proofs.nodes.nodes_of.Goals as goal

pub returns : goal.returns
returns c =
    let items = c.as_slice-cell-items.result.now in
    let i = c.loop-cell.cell-index in
    let nodes = c.loop-cell.nodes.items in
    let paths = sym (ap (λ l. paths_from (map path_of nodes) (map seen_cell l))
    (drop_all i items c.loop-cell-test.false)) ∙ c.loop-cell.invariant.paths in
    let modules = c.loop-cell.invariant.modules ∙ ap (λ l. map (λ d. d.module_name) (map seen_cell l))
    (take_all i items c.loop-cell-test.false ∙ c.as_slice-cell-items.ensures) in
    nodes_are nodes (seen_hier c.args.hier.now) paths modules
