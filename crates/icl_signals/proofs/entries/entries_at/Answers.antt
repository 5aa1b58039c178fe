use Rattle.std.proofs.Common.{◌++◌, map, ap, ◌∙◌}
use Rattle.std.specs.Prelude.{filter}
use Rattle.icl_references.specs.Roles.{seen_cell}
use Rattle.icl_signals.specs.Moves.{Entry, entries_in}
use Rattle.icl_signals.specs.Kinds.{test_of}
use Rattle.icl_signals.specs.Inside.{numbered}
use Rattle.icl_signals.specs.TrueEnds.{seen_entry}
use Rattle.icl_signals.proofs.Placed.{numbered_are, numbered_each}
use Rattle.icl_signals.proofs.entries.entries_at.Goals as goal

pub returns : goal.returns
returns c =
    let found = filter (λ (e : Entry). test_of c.args.kind e.what.role)
    (entries_in (c.args.number, seen_cell c.args.cell.now)) in
    numbered_each c.in_ok-all.all.items
    ∙ ap (map numbered) (c.in_ok-all.ensures ∙ ap (λ l. map seen_entry l ++ found) c.new.ensures.items)
    ∙ numbered_are (test_of c.args.kind) c.args.number 0 (seen_cell c.args.cell.now).parts
