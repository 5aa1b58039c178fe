use Rattle.std.proofs.Common.{◌≡◌, ◌++◌}
use Rattle.net_wave.specs.Vars.{up_to, register_item}
use Rattle.net_wave.proofs.items.add_registers.Given as goal

abbrev pub invariant-loop-reg : goal.invariant-loop-reg
invariant-loop-reg l = l.items.items ≡ l.fn.items.items ++ up_to (register_item l.kind l.net l.node) l.reg
