use Rattle.std.proofs.Common.{◌≡◌, map, take}
use Rattle.ij_text.specs.Numbers.{tern_bits}
use Rattle.icl_references.specs.Overlaps.{digit}
use Rattle.icl_references.proofs.overlaps.key_of.Given as goal

abbrev pub invariant-loop-k : goal.invariant-loop-k
invariant-loop-k l = l.key.items ≡ map digit (take l.k (tern_bits l.v))
