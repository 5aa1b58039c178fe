use Rattle.icl_signals.specs.Wirings.{cells_of}
use Rattle.icl_signals.specs.Found.{AreFound}
use Rattle.icl_signals.proofs.finding.all_ends.Given as goal

abbrev pub invariant-loop-cell : goal.invariant-loop-cell
invariant-loop-cell l = AreFound (cells_of l.wiring) l.wiring.entry l.ends.items
