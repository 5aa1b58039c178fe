use Rattle.std.proofs.Common.{take}
use Rattle.net_graph.specs.Numbered.{AreNumbered, first_bits}
use Rattle.svf_audit.proofs.numbered.number_registers.Given as goal

abbrev pub invariant-loop-i : goal.invariant-loop-i
invariant-loop-i l = AreNumbered l.net l.marks (take l.i (first_bits l.path))
