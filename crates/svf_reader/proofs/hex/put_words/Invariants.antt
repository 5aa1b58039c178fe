use Rattle.std.proofs.Common.{◌≡◌, ◌+◌, ◌-◌, ◌≤◌, length, drop}
use Rattle.svf_reader.specs.Values.{hex_bits, fitted}
use Rattle.svf_reader.proofs.hex.put_words.Given as goal

abbrev pub invariant-loop-parts : goal.invariant-loop-parts
invariant-loop-parts l = record {
  items : l.bits.items ≡ fitted (length l.bits.items) (hex_bits l.digits);
  left : drop (length l.bits.items) (hex_bits l.digits) ≡ hex_bits l.rest;
  within : length l.bits.items ≤ l.len;
  room : l.len ≤ length l.bits.items + l.bits.spare;
}

abbrev pub decreases-loop-parts : goal.decreases-loop-parts
decreases-loop-parts l = l.len - length l.bits.items
