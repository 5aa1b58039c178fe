use Rattle.std.proofs.Common.{◌≡◌, drop}
use Rattle.std.specs.Prelude.{map}
use Rattle.path_planner.specs.Registers.{add_registers}
use Rattle.path_planner.proofs.registers.add_written.Given as goal

abbrev pub invariant-loop-w : goal.invariant-loop-w
invariant-loop-w l = add_registers l.regs.items (map (λ x. x.bit.reg) (drop l.w-index l.bits))
    ≡ add_registers l.fn.regs.items (map (λ x. x.bit.reg) l.bits)
