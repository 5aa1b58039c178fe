use Rattle.std.proofs.Common.{◌≡◌, drop}
use Rattle.net_graph.specs.Path.{is_in}
use Rattle.net_graph.proofs.paths.is_in.Given as goal

abbrev pub invariant-loop-other : goal.invariant-loop-other
invariant-loop-other l = is_in (drop l.other-index l.registers) l.reg ≡ is_in l.registers l.reg
