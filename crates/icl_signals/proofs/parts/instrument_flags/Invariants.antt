use Rattle.std.proofs.Common.{◌≡◌, map, take}
use Rattle.icl_elab.specs.WellFormed.{is_instrument}
use Rattle.icl_references.specs.Roles.{seen_cell}
use Rattle.icl_signals.proofs.parts.instrument_flags.Given as goal

abbrev pub invariant-loop-cell : goal.invariant-loop-cell
invariant-loop-cell l = l.flags.items ≡ map is_instrument (map seen_cell (take l.cell-index l.cells))
