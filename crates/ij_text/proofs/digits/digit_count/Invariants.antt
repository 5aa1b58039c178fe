use Rattle.std.proofs.Common.{◌≡◌, ◌≤◌, ◌+◌, ◌*◌, drop, length}
use Rattle.ij_text.specs.declared.digits.Radix.TheVariants.{Two, Sixteen}
use Rattle.ij_text.specs.Numbers.{text_bits}
use Rattle.ij_text.proofs.digits.digit_count.Given as goal

abbrev pub invariant-loop-b : goal.invariant-loop-b
invariant-loop-b l = record {
  within : l.count ≤ l.b-index;
  two : l.count + length (text_bits Two (drop l.b-index l.text)) ≡ length (text_bits Two l.text);
  sixteen : 4 * l.count + length (text_bits Sixteen (drop l.b-index l.text))
      ≡ length (text_bits Sixteen l.text);
}
