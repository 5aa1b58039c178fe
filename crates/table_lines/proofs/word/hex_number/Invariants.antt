use Rattle.std.proofs.Common.{◌≡◌, ◌<◌, ◌*◌, ◌^◌, drop}
use Rattle.table_lines.specs.Words.{hex_from}
use Rattle.table_lines.proofs.word.hex_number.Given as goal

abbrev pub invariant-loop-b : goal.invariant-loop-b
invariant-loop-b l = record {
  so_far : hex_from l.n (drop l.b-index l.text)
      ≡ hex_from 0 l.text;
  small : l.n < 2 ^ (4 * l.b-index);
}
