use Rattle.std.proofs.Common.{◌≡◌, map, drop}
use Rattle.icl_declarations.specs.Faults.{each}
use Rattle.icl_signals.specs.Refusals.{after}
use Rattle.icl_signals.specs.Wirings.{cells_of}
use Rattle.icl_references.specs.Roles.{seen_row as seen_choice}
use Rattle.icl_signals.specs.Connecting.{row_from}
use Rattle.icl_signals.proofs.muxes.rows.Given as goal

abbrev pub invariant-loop-row : goal.invariant-loop-row
invariant-loop-row l = after l.all.items
    (each (row_from (cells_of l.wiring) l.wiring.entry l.at) (map seen_choice (drop l.row-index l.rows)))
    ≡ each (row_from (cells_of l.wiring) l.wiring.entry l.at) (map seen_choice l.rows)
