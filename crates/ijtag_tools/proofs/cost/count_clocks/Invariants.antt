use Rattle.std.proofs.Common.{◌≡◌, ◌+◌, true, drop}
use Rattle.svf_writer.specs.Clocks.{clocks_from}
use Rattle.ijtag_tools.proofs.cost.count_clocks.Given as goal

abbrev pub invariant-loop-i : goal.invariant-loop-i
invariant-loop-i l = l.clocks + clocks_from l.in_reset (drop l.i l.commands) ≡ clocks_from true l.commands
