use Rattle.std.proofs.Common.{take}
use Rattle.std.specs.Prelude.{All}
use Rattle.net_tree.specs.Lawful.{IsUndriven}
use Rattle.nest_check.proofs.selects.first_driven_instrument.Given as goal

abbrev pub invariant-loop-i : goal.invariant-loop-i
invariant-loop-i l = All (IsUndriven l.bit) (take l.i l.net.insts.items)
