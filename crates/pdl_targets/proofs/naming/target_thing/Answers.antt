use Rattle.std.proofs.Common.{map, sym, ap, ◌∙◌}
use Rattle.std.specs.Option.{option_map}
use Rattle.pdl_parser.specs.Views.{bytes_of, seen_target}
use Rattle.pdl_targets.specs.Targets.{thing_at}
use Rattle.pdl_targets.proofs.Formed.{thing_formed}
use Rattle.pdl_targets.proofs.naming.target_thing.Goals as goal

pub returns-in-Some-clause-formed : goal.returns-in-Some-clause-formed
returns-in-Some-clause-formed c =
    let net = c.args.net.now in
    thing_formed net c.requires.net c.args.node (seen_target c.args.target.now).path c.in-Some.thing.now
    (ap (option_map (λ t. t.now)) (sym c.in-Some.is) ∙ c.in_ok-thing.ensures
    ∙ ap (λ l. thing_at net c.args.node (map bytes_of l)) c.as_slice.ensures)
