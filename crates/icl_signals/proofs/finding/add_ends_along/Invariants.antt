use Rattle.icl_signals.specs.Wirings.{cells_of}
use Rattle.icl_signals.specs.Found.{AreFoundFrom, AreFound}
use Rattle.icl_signals.proofs.finding.add_ends_along.Given as goal

abbrev pub invariant-loop-bit : goal.invariant-loop-bit
invariant-loop-bit l = record {
  ends : AreFound (cells_of l.wiring) l.wiring.entry l.ends.items;
  run : AreFoundFrom (cells_of l.wiring) l.wiring.entry l.wire l.run;
}
