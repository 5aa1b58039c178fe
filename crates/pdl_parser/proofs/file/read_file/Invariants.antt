use Rattle.std.proofs.Common.{◌≡◌, ◌≤◌, ◌+◌, length}
use Rattle.pdl_parser.specs.Seen.{words}
use Rattle.pdl_parser.specs.SeenFile.{seen_file, Knows}
use Rattle.pdl_parser.specs.Reading.{read_file}
use Rattle.pdl_parser.proofs.Verdicts.{more_file}
use Rattle.pdl_parser.proofs.file.read_file.Given as goal

abbrev pub invariant-loop-left : goal.invariant-loop-left
invariant-loop-left l = record {
  room : length l.file.known + length l.left.rest.now ≤ length l.lexemes;
  known : Knows l.file;
  goes_on : more_file (seen_file l.file) (words l.left.rest.now) ≡ read_file (words l.lexemes);
}

abbrev pub decreases-loop-left : goal.decreases-loop-left
decreases-loop-left l = length l.left.rest.now
