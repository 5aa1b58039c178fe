use Rattle.std.proofs.Common.{◌≡◌, ◌++◌, take}
use Rattle.ij_text.specs.Numbers.{tern_bits}
use Rattle.icl_declarations.proofs.widths.append.Given as goal

abbrev pub invariant-loop-k : goal.invariant-loop-k
invariant-loop-k l = l.bits ≡ l.fn.bits ++ take l.k (tern_bits l.t)
