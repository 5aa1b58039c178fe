use Rattle.std.proofs.Common.{◌≡◌, drop}
use Rattle.std.specs.Prelude.{map}
use Rattle.ij_bits.specs.BitLists.{number_of}
use Rattle.net_graph.specs.Signals.{hold_at}
use Rattle.net_graph.proofs.select.held_number.Given as goal

abbrev pub invariant-loop-i : goal.invariant-loop-i
invariant-loop-i l = l.number ≡ number_of (drop l.i (map (hold_at l.holds) l.select))
