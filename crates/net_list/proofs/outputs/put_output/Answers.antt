use Rattle.ij_io.proofs.Adding.{adds_both, adds_front, adds_then_part, at_refusal, adds_as, adds_part_as}
use Rattle.std.specs.Prelude.{ℕ, List, ◌++◌, codes}
use Rattle.std.proofs.Common.{ap, ◌∙◌}
use Rattle.net_graph.specs.PathNames.{instance_path}
use Rattle.net_graph.specs.Named.{node_of}
use Rattle.net_list.specs.Outputs.{port_name}
use Rattle.net_list.proofs.outputs.put_output.Goals as goal

pub returns-in_err-put_instance_path-clause-part : goal.returns-in_err-put_instance_path-clause-part
returns-in_err-put_instance_path-clause-part g c =
    let net = c.args.net.now in
    at_refusal c.from_residual.result (adds_part_as
    (ap (λ (n : ℕ). instance_path net n ++ (codes "." ++ port_name net c.args.inst c.args.port))
    c.node_of.ensures.node) (adds_front _ c.in_err-put_instance_path.ensures.part))

pub returns-in_err-write-clause-part : goal.returns-in_err-write-clause-part
returns-in_err-write-clause-part g c =
    let net = c.args.net.now in
    at_refusal c.from_residual-in_err-write.result
    (adds_part_as (ap (λ (n : ℕ). instance_path net n
    ++ (codes "." ++ port_name net c.args.inst c.args.port)) c.node_of.ensures.node)
    (adds_then_part c.in_ok-put_instance_path.ensures.whole (adds_front _ c.in_err-write.ensures.part)))

pub returns-in_err-write-2-clause-part : goal.returns-in_err-write-2-clause-part
returns-in_err-write-2-clause-part g c =
    let net = c.args.net.now in
    let path = instance_path net (node_of net c.args.inst) in
    at_refusal c.from_residual-in_err-write-2.result
    (adds_part_as (ap (λ (n : ℕ). instance_path net n ++ (codes "." ++ c.port_name.result.now))
    c.node_of.ensures.node ∙ ap (λ (l : List ℕ). path ++ (codes "." ++ l)) c.port_name.ensures)
    (adds_then_part c.in_ok-put_instance_path.ensures.whole
    (adds_then_part c.in_ok-write.ensures.whole c.in_err-write-2.ensures.part)))

pub returns-clause-whole : goal.returns-clause-whole
returns-clause-whole g c =
    let net = c.args.net.now in
    let path = instance_path net (node_of net c.args.inst) in
    adds_as (ap (λ (n : ℕ). instance_path net n ++ (codes "." ++ c.port_name.result.now))
    c.node_of.ensures.node ∙ ap (λ (l : List ℕ). path ++ (codes "." ++ l)) c.port_name.ensures)
    (adds_both c.in_ok-put_instance_path.ensures.whole
    (adds_both c.in_ok-write.ensures.whole c.in_ok-write-2.ensures.whole))
