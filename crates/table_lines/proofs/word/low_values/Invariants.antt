use Rattle.std.proofs.Common.{◌≡◌, ◌-◌, ◌<◌, ◌^◌, map, drop}
use Rattle.table_lines.specs.Words.{is_one}
use Rattle.ij_bits.specs.BitLists.{number_of}
use Rattle.ij_text.specs.Numbers.{InBits, bits_in, tern_bits}
use Rattle.table_lines.proofs.word.low_values.Given as goal

abbrev pub invariant-loop-k : goal.invariant-loop-k
invariant-loop-k l = record {
  value : l.n ≡ number_of (map is_one (drop (l.width - l.k) (bits_in l.width (InBits (tern_bits l.t)))));
  small : l.n < 2 ^ l.k;
}
