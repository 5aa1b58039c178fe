use Rattle.std.proofs.Common.{◌≡◌, drop}
use Rattle.ij_text.specs.Numbers.{tern_bits}
use Rattle.icl_references.specs.Muxes.{meet}
use Rattle.icl_references.proofs.overlaps.meet.Given as goal

abbrev pub invariant-loop-k : goal.invariant-loop-k
invariant-loop-k l = meet (drop l.k (tern_bits l.a)) (drop l.k (tern_bits l.b))
    ≡ meet (tern_bits l.a) (tern_bits l.b)
