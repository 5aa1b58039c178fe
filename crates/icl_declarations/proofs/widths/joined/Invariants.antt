use Rattle.std.proofs.Common.{◌≡◌, ◌-◌, length, drop}
use Rattle.ij_text.specs.Numbers.{tern_bits}
use Rattle.icl_declarations.proofs.Joins.{joins}
use Rattle.icl_declarations.proofs.widths.joined.Given as goal

abbrev pub invariant-loop-i : goal.invariant-loop-i
invariant-loop-i l = l.bits ≡ joins tern_bits (drop (length l.parts - l.i) l.parts)
