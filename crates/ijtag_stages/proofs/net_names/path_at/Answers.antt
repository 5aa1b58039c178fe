use Rattle.std.proofs.Common.{◌∙◌, ap, map, [], arith}
use Rattle.net_graph.specs.Nets.{path_of}
use Rattle.ijtag_stages.proofs.Parts.{got}
use Rattle.ijtag_stages.proofs.net_names.path_at.Goals as goal

pub returns-then-node-len : goal.returns-then-node-len
returns-then-node-len c =
    ap (map (λ name. name.items)) c.as_slice.ensures
    ∙ got path_of c.args.net.now.nodes.items c.args.node c.get.result.now []
    (omega (arith, c.if-node-len.true, c.len.ensures)) c.get.ensures
