use Rattle.std.proofs.Common.{◌≡◌, drop}
use Rattle.ij_text.specs.Options.{or_else}
use Rattle.net_graph.specs.declared.net.Sig.{Sig}
use Rattle.pdl_targets.specs.Targets.{captured_from}
use Rattle.pdl_targets.specs.Captors.{captured}
use Rattle.pdl_targets.proofs.captors.slots_of.Given as goal

abbrev pub invariant-loop-reg : goal.invariant-loop-reg
invariant-loop-reg l = (s : Sig) → or_else (captured l.slots.items s)
    (captured_from l.reg (drop l.reg l.regs) s) ≡ captured_from 0 l.regs s
