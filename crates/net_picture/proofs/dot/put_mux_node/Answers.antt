use Rattle.std.proofs.Common.{Bool, ℕ, List, ap, ◌∙◌}
use Rattle.std.specs.Prelude.{codes}
use Rattle.ij_io.proofs.Adding.{part_as}
use Rattle.net_graph.specs.PathNames.{mux_path}
use Rattle.net_graph.specs.declared.net.Point.TheVariants.{Mux}
use Rattle.net_picture.specs.Dot.{node_style, node_text}
use Rattle.net_picture.specs.Met.{is_marked}
use Rattle.net_picture.proofs.dot.put_mux_node.Goals as goal

pub returns-clause-part : goal.returns-clause-part
returns-clause-part g c =
    let m = c.args.mux in
    let form = codes "\", shape=trapezium, orientation=270" in
    part_as c.put_node.result (g.K.Sink.taken c.args.k.now) (g.K.Sink.taken c.put_node.new.k)
    (ap (λ (label : List ℕ). node_text (codes "  m") m label form c.node_style-style.result.now)
    (c.bytes.ensures ∙ c.in_ok-label.ensures)
    ∙ ap (node_text (codes "  m") m (mux_path c.args.net.now m) form)
    (c.node_style-style.ensures ∙ ap (λ (b : Bool). node_style b c.is_on_path.result) c.is_marked.ensures
    ∙ ap (node_style (is_marked c.args.marks.marked (Mux m))) c.is_on_path.ensures))
    c.put_node.ensures.part
