use Rattle.std.proofs.Common.{◌++◌, subst}
use Rattle.std.specs.Prelude.{Option, Some}
use Rattle.ij_io.proofs.Adding.{adds_both}
use Rattle.ij_io.specs.Bytes.{Adds}
use Rattle.net_graph.specs.Resets.{start_holds}
use Rattle.net_graph.specs.Signals.{Holds}
use Rattle.net_graph.specs.declared.net.Point.{Point}
use Rattle.net_picture.specs.Dot.{dot_text}
use Rattle.ijtag_tools.specs.Order.{comment, graph_text}
use Rattle.ijtag_tools.specs.SeenGraphs.{seen_graph}
use Rattle.ijtag_tools.proofs.graph.put_graph.Goals as goal

pub returns : goal.returns
unfolding graph_text
returns c =
    let net = c.args.graph.now.net in
    let g = seen_graph c.args.graph.now in
    subst (λ (m : Option Point). Adds (Some c.args.text.now) (Some c.put_dot.new.k)
    (comment g.unnested ++ dot_text net (start_holds net) m)) c.marked.ensures
    (subst (λ (h : Holds). Adds (Some c.args.text.now) (Some c.put_dot.new.k)
    (comment g.unnested ++ dot_text net h c.marked.result)) c.in_ok-holds.ensures
    (adds_both c.in_ok-put_comment.ensures c.in_ok-put_dot.ensures.whole))
