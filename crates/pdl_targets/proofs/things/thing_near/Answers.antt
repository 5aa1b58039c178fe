use Rattle.std.proofs.Common.{◌<◌, Some, length, sym, ap, ◌∙◌, arith}
use Rattle.net_graph.specs.declared.net.Thing.{Thing}
use Rattle.pdl_targets.proofs.Named.{is_it, named_there}
use Rattle.pdl_targets.proofs.things.thing_near.Goals as goal

pub returns-then-is_named : goal.returns-then-is_named
returns-then-is_named c =
    let things = c.args.net.now.things.items in
    let thing = c.get-thing.result.now in
    let node = c.args.node in
    let name = c.args.name.now in
    let there : c.args.number < length things = omega (arith, c.if-number-len.true, c.len.ensures) in
    ap (λ (t : Thing). Some t) c.get-thing.ensures
    ∙ named_there things c.args.number thing node name c.requires.thing_names there
    (ap (is_it node name) (sym c.get-thing.ensures) ∙ sym c.is_named.ensures ∙ c.if-is_named.true)
