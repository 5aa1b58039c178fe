use Rattle.std.proofs.Common.{◌≡◌, true, false, subst, ap, sym, ◌∙◌}
use Rattle.std.specs.Prelude.{get_or}
use Rattle.icl_elab.specs.WellFormed.{is_instrument}
use Rattle.icl_references.specs.Roles.{part_at}
use Rattle.icl_signals.specs.Moves.{is_instrument_cell}
use Rattle.icl_signals.specs.Wirings.{cells_of}
use Rattle.icl_signals.proofs.Standing.{IsAtSome, stands_at, in_cell}
use Rattle.icl_signals.proofs.CountedParts.{instrument_number_is}
use Rattle.ij_bits.proofs.Lists.{get_mapped}
use Rattle.icl_signals.proofs.ends.instrument_number.Goals as goal

pub returns : goal.returns
returns c =
    let cells = cells_of c.args.wiring.now in
    let w = c.args.wire in
    let there = subst (λ s. IsAtSome s (is_instrument_cell cells w.cell) (part_at cells w.cell w.part))
    c.requires.stands (stands_at cells c.args.wiring.now.entry w) in
    let inside = in_cell cells w.cell w.part there.part there.there in
    let is : is_instrument inside.inside ≡ true =
    sym (get_mapped is_instrument false cells w.cell inside.inside inside.cell_is) ∙ there.role.1 in
    c.number_of.ensures
    ∙ ap (λ l. get_or l w.cell 0) c.as_slice.ensures.value
    ∙ ap (λ l. get_or l w.cell 0) c.requires.wiring.instrument_numbers
    ∙ instrument_number_is cells w.cell inside.inside inside.cell_is is
