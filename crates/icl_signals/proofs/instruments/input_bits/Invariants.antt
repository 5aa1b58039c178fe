use Rattle.std.proofs.Common.{◌≡◌, drop}
use Rattle.icl_declarations.specs.Faults.{each}
use Rattle.icl_signals.specs.Refusals.{after}
use Rattle.icl_signals.specs.Wirings.{cells_of}
use Rattle.icl_signals.specs.Connecting.{input_from}
use Rattle.icl_signals.proofs.instruments.input_bits.Given as goal

abbrev pub invariant-loop-r : goal.invariant-loop-r
invariant-loop-r l =
    after l.all.items (each (input_from (cells_of l.wiring) l.wiring.entry l.at) (drop l.r-index l.refs))
    ≡ each (input_from (cells_of l.wiring) l.wiring.entry l.at) l.refs
