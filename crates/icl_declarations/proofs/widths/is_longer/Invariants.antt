use Rattle.std.proofs.Common.{◌≡◌, ◌+◌, length, drop}
use Rattle.ij_text.specs.Numbers.{tern_bits}
use Rattle.icl_declarations.proofs.Joins.{joins}
use Rattle.icl_declarations.proofs.widths.is_longer.Given as goal

abbrev pub invariant-loop-part : goal.invariant-loop-part
invariant-loop-part l = l.width + length (joins tern_bits (drop l.part-index l.parts))
    ≡ l.left + length (joins tern_bits l.parts)
