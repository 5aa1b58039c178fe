use Rattle.std.proofs.Common.{map, ap, ◌∙◌}
use Rattle.icl_references.specs.Roles.{seen_part}
use Rattle.icl_signals.specs.declared.parts.Kind.TheVariants.{Thing}
use Rattle.icl_signals.specs.Kinds.{number_at}
use Rattle.icl_signals.specs.Wirings.{cells_of}
use Rattle.icl_signals.proofs.CountedParts.{number_at_is}
use Rattle.icl_signals.proofs.registers.thing_number.Goals as goal

pub returns : goal.returns
returns c =
    let cells = cells_of c.args.wiring.now in
    let e = c.args.e in
    c.number_at.ensures
    ∙ ap (λ t. number_at (map (λ row. row.items) t) e.cell e.part) c.as_slice.ensures.value
    ∙ ap (λ t. number_at t e.cell e.part) c.requires.wiring.things
    ∙ number_at_is Thing cells e.cell e.part (seen_part e.what.now) c.requires.placed c.requires.thing
