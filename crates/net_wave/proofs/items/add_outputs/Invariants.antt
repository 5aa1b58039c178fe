use Rattle.std.proofs.Common.{◌≡◌, ◌++◌}
use Rattle.net_wave.specs.Vars.{up_to, output_item}
use Rattle.net_wave.proofs.items.add_outputs.Given as goal

abbrev pub invariant-loop-port : goal.invariant-loop-port
invariant-loop-port l = l.items.items ≡ l.fn.items.items ++ up_to (output_item l.inst) l.port
