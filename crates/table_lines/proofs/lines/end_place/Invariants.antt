use Rattle.std.proofs.Common.{◌≡◌, ◌≤◌, ◌+◌, length}
use Rattle.table_lines.specs.Lines.{end_from, lines}
use Rattle.table_lines.proofs.lines.end_place.Given as goal

abbrev pub invariant-loop-after : goal.invariant-loop-after
invariant-loop-after l = record {
  so_far : end_from l.line (lines l.rest) ≡ end_from 1 (lines l.text);
  fits : l.line + length l.rest ≤ 1 + length l.text;
}

abbrev pub decreases-loop-after : goal.decreases-loop-after
decreases-loop-after l = length l.rest
