use Rattle.icl_signals.specs.Wirings.{cells_of}
use Rattle.icl_signals.specs.Found.{AreFound}
use Rattle.icl_signals.proofs.finding.add_from_part.Given as goal

abbrev pub invariant-loop-bit : goal.invariant-loop-bit
invariant-loop-bit l = AreFound (cells_of l.wiring) l.wiring.entry l.ends.items
