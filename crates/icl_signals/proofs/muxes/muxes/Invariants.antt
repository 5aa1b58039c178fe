use Rattle.std.proofs.Common.{◌≡◌, map, drop}
use Rattle.icl_declarations.specs.Faults.{each}
use Rattle.icl_signals.specs.Refusals.{after}
use Rattle.icl_signals.specs.Wirings.{cells_of}
use Rattle.icl_signals.specs.Connecting.{mux_of}
use Rattle.icl_signals.specs.TrueEnds.{seen_entry}
use Rattle.icl_signals.proofs.muxes.muxes.Given as goal

abbrev pub invariant-loop-e : goal.invariant-loop-e
invariant-loop-e l = after l.all.items
    (each (mux_of (cells_of l.wiring) l.wiring.entry) (map seen_entry (drop l.e-index l.parts)))
    ≡ each (mux_of (cells_of l.wiring) l.wiring.entry) (map seen_entry l.parts)
