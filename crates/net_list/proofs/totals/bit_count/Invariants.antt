use Rattle.std.proofs.Common.{◌≡◌, ◌+◌, drop}
use Rattle.std.specs.Prelude.{map, sum}
use Rattle.net_graph.specs.declared.net.Reg.{Reg}
use Rattle.net_list.proofs.totals.bit_count.Given as goal

abbrev pub invariant-loop-i : goal.invariant-loop-i
invariant-loop-i l =
    l.bits + sum (map (λ (reg : Reg). reg.width) (drop l.i l.net.regs.items))
    ≡ sum (map (λ (reg : Reg). reg.width) l.net.regs.items)
