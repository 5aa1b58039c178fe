use Rattle.std.proofs.Common.{◌≡◌, ◌≤◌, ◌-◌, ◌+◌, ◌*◌, ◌++◌, length, min}
use Rattle.ij_bits.specs.BitLists.{bits_of}
use Rattle.ij_text.proofs.fitting.decimal_in_width.Given as goal

abbrev pub invariant-loop-i : goal.invariant-loop-i
invariant-loop-i l = record {
  room : l.width ≤ length l.value.items + l.value.spare;
  long : length l.value.items ≡ min (64 * l.i) l.width;
  so_far : l.value.items ++ bits_of (l.width - 64 * l.i) l.rest ≡ bits_of l.width l.fn.n;
}
