use Rattle.ij_io.proofs.Adding.{adds_both, adds_front, adds_then_part, at_refusal, adds_part_as, adds_as}
use Rattle.path_names.proofs.Parts.{thing_is}
use Rattle.path_names.proofs.paths.put_thing_path.Goals as goal

pub returns-in_err-put_all_with_dots-clause-part : goal.returns-in_err-put_all_with_dots-clause-part
returns-in_err-put_all_with_dots-clause-part g c = at_refusal c.from_residual.result (adds_part_as
    (thing_is c.args.net.now c.args.thing c.names_of-names.result.now c.name_of_thing-name.result.now.items
    c.node_of_thing.result c.node_of_thing.ensures.node c.names_of-names.ensures c.name_of_thing-name.ensures)
    (adds_front _ c.in_err-put_all_with_dots.ensures.part))

pub returns-in_err-put_name-clause-part : goal.returns-in_err-put_name-clause-part
returns-in_err-put_name-clause-part g c = at_refusal c.from_residual-in_err-put_name.result (adds_part_as
    (thing_is c.args.net.now c.args.thing c.names_of-names.result.now c.name_of_thing-name.result.now.items
    c.node_of_thing.result c.node_of_thing.ensures.node c.names_of-names.ensures c.name_of_thing-name.ensures)
    (adds_then_part c.in_ok-put_all_with_dots.ensures.whole c.in_err-put_name.ensures.part))

pub returns-clause-whole : goal.returns-clause-whole
returns-clause-whole g c = adds_as
    (thing_is c.args.net.now c.args.thing c.names_of-names.result.now c.name_of_thing-name.result.now.items
    c.node_of_thing.result c.node_of_thing.ensures.node c.names_of-names.ensures c.name_of_thing-name.ensures)
    (adds_both c.in_ok-put_all_with_dots.ensures.whole c.in_ok-put_name.ensures.whole)
