use Rattle.std.proofs.Common.{map, subst, ap, ◌∙◌}
use Rattle.icl_references.specs.Roles.{part_at}
use Rattle.icl_signals.specs.declared.parts.Kind.TheVariants.{Mux}
use Rattle.icl_signals.specs.Kinds.{number_at}
use Rattle.icl_signals.specs.Moves.{is_instrument_cell}
use Rattle.icl_signals.specs.Wirings.{cells_of}
use Rattle.icl_signals.proofs.Standing.{IsAtSome, stands_at}
use Rattle.icl_signals.proofs.CountedParts.{number_at_is}
use Rattle.icl_signals.proofs.ends.mux_number.Goals as goal

pub returns : goal.returns
returns c =
    let cells = cells_of c.args.wiring.now in
    let w = c.args.wire in
    let there = subst (λ s. IsAtSome s (is_instrument_cell cells w.cell) (part_at cells w.cell w.part))
    c.requires.stands (stands_at cells c.args.wiring.now.entry w) in
    let number = c.number_at.ensures ∙ ap (λ t. number_at (map (λ row. row.items) t) w.cell w.part)
    c.as_slice.ensures.value ∙ ap (λ t. number_at t w.cell w.part) c.requires.wiring.muxes
    ∙ number_at_is Mux cells w.cell w.part there.part there.there there.role in
    number
