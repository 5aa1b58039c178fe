use Rattle.std.proofs.Common.{[], map, length, sym, ap, ◌∙◌}
use Rattle.std.proofs.lemmas.Bool.{ltb-true}
use Rattle.std.proofs.lemmas.List.{get_or-map}
use Rattle.net_graph.specs.Nets.{path_of}
use Rattle.icl_signals.proofs.nodes.path_at.Goals as goal

pub returns-in-Some : goal.returns-in-Some
returns-in-Some c =
    let nodes = c.args.nodes.now in
    let within = ltb-true c.args.node (length nodes) (sym c.in-Some.ensures.lookup.0) in
    ap (map (λ name. name.items)) c.as_slice.ensures
    ∙ ap path_of c.in-Some.ensures.lookup.1
    ∙ sym (get_or-map path_of nodes c.args.node c.in-Some.node.now [] within)
