use Rattle.std.proofs.Common.{◌≡◌, ◌-◌, ◌++◌, length, map, Some}
use Rattle.ij_bits.specs.BitLists.{bits_of}
use Rattle.icl_declarations.proofs.digits.number_bits.Given as goal

abbrev pub invariant-loop-i : goal.invariant-loop-i
invariant-loop-i l = record {
  long : length l.bits ≡ l._i;
  so_far : l.bits ++ map (λ b. Some b) (bits_of (l.width - l._i) l.rest)
      ≡ map (λ b. Some b) (bits_of l.width l.fn.n);
}
