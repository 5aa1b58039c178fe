use Rattle.ij_io.proofs.Adding.{adds_both, adds_front, adds_then_part, at_refusal}
use Rattle.net_picture.proofs.dot.put_graph.Goals as goal

pub returns-in_err-put_head-clause-part : goal.returns-in_err-put_head-clause-part
returns-in_err-put_head-clause-part g c =
    at_refusal c.from_residual.result (adds_front _ c.in_err-put_head.ensures.part)

pub returns-in_err-put_register_nodes-clause-part : goal.returns-in_err-put_register_nodes-clause-part
returns-in_err-put_register_nodes-clause-part g c =
    at_refusal c.from_residual-in_err-put_register_nodes.result
    (adds_then_part c.in_ok-put_head.ensures.whole (adds_front _ c.in_err-put_register_nodes.ensures.part))

pub returns-in_err-put_mux_nodes-clause-part : goal.returns-in_err-put_mux_nodes-clause-part
returns-in_err-put_mux_nodes-clause-part g c = at_refusal c.from_residual-in_err-put_mux_nodes.result
    (adds_then_part c.in_ok-put_head.ensures.whole (adds_then_part c.in_ok-put_register_nodes.ensures.whole
    (adds_front _ c.in_err-put_mux_nodes.ensures.part)))

pub returns-in_err-put_register_edges-clause-part : goal.returns-in_err-put_register_edges-clause-part
returns-in_err-put_register_edges-clause-part g c =
    at_refusal c.from_residual-in_err-put_register_edges.result (adds_then_part c.in_ok-put_head.ensures.whole
    (adds_then_part c.in_ok-put_register_nodes.ensures.whole (adds_then_part
    c.in_ok-put_mux_nodes.ensures.whole (adds_front _ c.in_err-put_register_edges.ensures.part))))

pub returns-in_err-put_all_mux_edges-clause-part : goal.returns-in_err-put_all_mux_edges-clause-part
returns-in_err-put_all_mux_edges-clause-part g c = at_refusal c.from_residual-in_err-put_all_mux_edges.result
    (adds_then_part c.in_ok-put_head.ensures.whole (adds_then_part c.in_ok-put_register_nodes.ensures.whole
    (adds_then_part c.in_ok-put_mux_nodes.ensures.whole (adds_then_part
    c.in_ok-put_register_edges.ensures.whole (adds_front _ c.in_err-put_all_mux_edges.ensures.part)))))

pub returns-in_err-put_output_edge-clause-part : goal.returns-in_err-put_output_edge-clause-part
returns-in_err-put_output_edge-clause-part g c =
    at_refusal c.from_residual-in_err-put_output_edge.result (adds_then_part c.in_ok-put_head.ensures.whole
    (adds_then_part c.in_ok-put_register_nodes.ensures.whole (adds_then_part
    c.in_ok-put_mux_nodes.ensures.whole (adds_then_part c.in_ok-put_register_edges.ensures.whole
    (adds_then_part c.in_ok-put_all_mux_edges.ensures.whole c.in_err-put_output_edge.ensures.part)))))

pub returns-clause-whole : goal.returns-clause-whole
returns-clause-whole g c =
    adds_both c.in_ok-put_head.ensures.whole (adds_both c.in_ok-put_register_nodes.ensures.whole
    (adds_both c.in_ok-put_mux_nodes.ensures.whole (adds_both c.in_ok-put_register_edges.ensures.whole
    (adds_both c.in_ok-put_all_mux_edges.ensures.whole c.in_ok-put_output_edge.ensures.whole))))
