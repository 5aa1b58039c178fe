use Rattle.std.proofs.Common.{◌≡◌, drop}
use Rattle.std.specs.Prelude.{◌==◌}
use Rattle.std.specs.List.{list_any}
use Rattle.net_graph.specs.declared.net.BitId.{BitId}
use Rattle.net_list.proofs.register.names_register.Given as goal

abbrev pub invariant-loop-bit : goal.invariant-loop-bit
invariant-loop-bit l =
    list_any (λ (b : BitId). b.reg == l.reg) (drop l.bit-index l.bits)
    ≡ list_any (λ (b : BitId). b.reg == l.reg) l.bits
