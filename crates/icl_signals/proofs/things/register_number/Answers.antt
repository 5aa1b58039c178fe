use Rattle.std.proofs.Common.{map, ap, ◌∙◌}
use Rattle.icl_references.specs.Roles.{seen_part}
use Rattle.icl_signals.specs.declared.parts.Kind.TheVariants.{Register}
use Rattle.icl_signals.specs.Kinds.{number_at}
use Rattle.icl_signals.specs.Wirings.{cells_of}
use Rattle.icl_signals.proofs.CountedParts.{number_at_is}
use Rattle.icl_signals.proofs.things.register_number.Goals as goal

pub returns : goal.returns
returns c =
    let cells = cells_of c.args.wiring.now in
    c.number_at.ensures
    ∙ ap (λ t. number_at (map (λ row. row.items) t) c.args.cell c.args.part) c.as_slice.ensures.value
    ∙ ap (λ t. number_at t c.args.cell c.args.part) c.requires.wiring.registers
    ∙ number_at_is Register cells c.args.cell c.args.part
    (seen_part c.args.what.now) c.requires.placed c.requires.register
