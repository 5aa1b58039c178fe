use Rattle.std.proofs.Common.{◌≡◌, map, drop}
use Rattle.icl_declarations.specs.Faults.{each}
use Rattle.icl_signals.specs.Refusals.{after}
use Rattle.icl_signals.specs.Wirings.{cells_of}
use Rattle.icl_signals.specs.Connecting.{input_of}
use Rattle.icl_signals.specs.TrueEnds.{seen_entry}
use Rattle.icl_signals.specs.Inside.{numbered}
use Rattle.icl_signals.proofs.instruments.inputs.Given as goal

abbrev pub invariant-loop-e : goal.invariant-loop-e
invariant-loop-e l = after l.all.items (each (input_of
    (cells_of l.wiring) l.wiring.entry l.cell) (map (λ e. numbered (seen_entry e)) (drop l.e-index l.parts)))
    ≡ each (input_of (cells_of l.wiring) l.wiring.entry l.cell) (map (λ e. numbered (seen_entry e)) l.parts)
