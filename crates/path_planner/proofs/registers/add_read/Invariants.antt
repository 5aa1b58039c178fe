use Rattle.std.proofs.Common.{◌≡◌, drop}
use Rattle.std.specs.Prelude.{map}
use Rattle.path_planner.specs.Registers.{add_registers}
use Rattle.path_planner.proofs.registers.add_read.Given as goal

abbrev pub invariant-loop-r : goal.invariant-loop-r
invariant-loop-r l = add_registers l.regs.items (map (λ x. x.bit.reg) (drop l.r-index l.bits))
    ≡ add_registers l.fn.regs.items (map (λ x. x.bit.reg) l.bits)
