use Rattle.std.proofs.Common.{◌≡◌, ◌+◌, map, drop}
use Rattle.icl_references.specs.Roles.{seen_cell}
use Rattle.icl_signals.proofs.SignalBits.{bits_of_cells}
use Rattle.icl_signals.proofs.wiring.count_bits.Given as goal

abbrev pub invariant-loop-cell : goal.invariant-loop-cell
invariant-loop-cell l = l.sum + bits_of_cells (map seen_cell (drop l.cell-index l.cells))
    ≡ bits_of_cells (map seen_cell l.cells)
