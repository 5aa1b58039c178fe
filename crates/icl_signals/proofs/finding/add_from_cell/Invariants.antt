use Rattle.icl_signals.specs.Wirings.{cells_of}
use Rattle.icl_signals.specs.Found.{AreFound}
use Rattle.icl_signals.proofs.finding.add_from_cell.Given as goal

abbrev pub invariant-loop-what : goal.invariant-loop-what
invariant-loop-what l = AreFound (cells_of l.wiring) l.wiring.entry l.ends.items
