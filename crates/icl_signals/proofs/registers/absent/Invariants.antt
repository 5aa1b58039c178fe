use Rattle.std.proofs.Common.{◌≡◌}
use Rattle.std.specs.Prelude.{replicate}
use Rattle.net_graph.specs.declared.net.Sig.TheVariants.{Absent}
use Rattle.icl_signals.proofs.registers.absent.Given as goal

abbrev pub invariant-loop-bit : goal.invariant-loop-bit
invariant-loop-bit l = l.all.items ≡ replicate l._bit Absent
