use Rattle.std.proofs.Common.{◌≡◌, ◌+◌, ◌<◌, ◌≤◌, ◌^◌, length}
use Rattle.table_lines.specs.Reading.{lines_left}
use Rattle.table_file.specs.Answers.{IsSoFar, seen_so_far}
use Rattle.table_file.specs.Tables.{read_lines, no_tables}
use Rattle.table_file.proofs.read.read_lines.Given as goal

abbrev pub invariant-loop-line : goal.invariant-loop-line
invariant-loop-line l = record {
  same : read_lines l.second l.end (seen_so_far l.so_far) (lines_left l.number l.rest)
      ≡ read_lines l.second l.end no_tables (lines_left l.fn.number l.fn.text);
  still : IsSoFar l.so_far;
  fits : l.number + length l.rest + 1 < 2 ^ 32;
  few : length l.so_far.paths + length l.rest ≤ length l.fn.text;
}

abbrev pub decreases-loop-line : goal.decreases-loop-line
decreases-loop-line l = length l.rest
