use Rattle.net_graph.proofs.Lists.{agreed}
use Rattle.net_graph.proofs.select.lists_number.Goals as goal

pub returns : goal.returns
returns c =
    let value = c.args.value.now in
    agreed value.value.items value.care.items c.args.width c.args.number c.lists_number.result
    value.same_length c.requires.wide c.lists_number.ensures
