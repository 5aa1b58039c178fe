use Rattle.std.proofs.Common.{◌≡◌, drop}
use Rattle.ij_text.specs.Options.{or_else}
use Rattle.net_graph.specs.declared.net.Sig.{Sig}
use Rattle.pdl_targets.specs.Targets.{capturing}
use Rattle.pdl_targets.specs.Captors.{captured}
use Rattle.pdl_targets.proofs.captors.add_register.Given as goal

abbrev pub invariant-loop-pos : goal.invariant-loop-pos
invariant-loop-pos l = (s : Sig)
    → or_else (captured l.slots.items s) (capturing l.reg l.pos (drop l.pos l.captures) s)
    ≡ or_else (captured l.fn.slots.items s) (capturing l.reg 0 l.captures s)
