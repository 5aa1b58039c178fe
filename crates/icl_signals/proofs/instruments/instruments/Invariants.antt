use Rattle.std.proofs.Common.{◌≡◌, map, drop}
use Rattle.std.specs.Prelude.{filter}
use Rattle.std.specs.List.{enumerate_from}
use Rattle.icl_declarations.specs.Faults.{each}
use Rattle.icl_elab.specs.WellFormed.{is_instrument}
use Rattle.icl_references.specs.Roles.{seen_cell}
use Rattle.icl_signals.specs.Refusals.{after}
use Rattle.icl_signals.specs.Wirings.{cells_of}
use Rattle.icl_signals.specs.Connecting.{instrument_of, instruments}
use Rattle.icl_signals.proofs.instruments.instruments.Given as goal

abbrev pub invariant-loop-cell : goal.invariant-loop-cell
invariant-loop-cell l =
    after l.all.items (each (instrument_of (cells_of l.wiring) l.wiring.entry) (filter
    (λ c. is_instrument c.1) (enumerate_from l.number (map seen_cell (drop l.cell-index l.cell-items)))))
    ≡ each (instrument_of (cells_of l.wiring) l.wiring.entry) (instruments (cells_of l.wiring))
