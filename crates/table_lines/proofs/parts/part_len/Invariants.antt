use Rattle.std.proofs.Common.{◌≡◌, ◌+◌, ◌-◌, ◌≤◌, length, drop}
use Rattle.table_lines.specs.Reading.{texts}
use Rattle.table_lines.specs.Parted.{part_length}
use Rattle.table_lines.proofs.parts.part_len.Given as goal

abbrev pub invariant-loop-n : goal.invariant-loop-n
invariant-loop-n l = record {
  within : l.n ≤ length l.words;
  so_far : l.n + part_length (texts (drop l.n l.words)) ≡ part_length (texts l.words);
}

abbrev pub decreases-loop-n : goal.decreases-loop-n
decreases-loop-n l = length l.words - l.n
