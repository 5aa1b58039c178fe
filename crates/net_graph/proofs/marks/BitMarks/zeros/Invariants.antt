use Rattle.std.proofs.Common.{◌≡◌, map, take}
use Rattle.net_graph.specs.Marks.{zeros}
use Rattle.net_graph.proofs.marks.BitMarks.zeros.Given as goal

abbrev pub invariant-loop-reg : goal.invariant-loop-reg
invariant-loop-reg l = map (λ marks. marks.items) l.regs.items
    ≡ map (λ reg. zeros reg.width) (take l.reg-index l.reg-items)
