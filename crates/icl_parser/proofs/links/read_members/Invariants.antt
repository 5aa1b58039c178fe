use Rattle.std.proofs.Common.{◌≡◌, ◌≤◌, length}
use Rattle.ij_bits.specs.Room.{seen_list}
use Rattle.icl_lexer.specs.Views.{bytes_of}
use Rattle.icl_parser.specs.Reading.{read_members}
use Rattle.icl_parser.proofs.More.{more_members}
use Rattle.icl_parser.proofs.links.read_members.Given as goal

abbrev pub invariant-loop-alloc : goal.invariant-loop-alloc
invariant-loop-alloc l = record {
  shorter : length l.names.rest ≤ length l.fn.tokens;
  goes_on : more_members (seen_list bytes_of l.names.value) l.names.rest ≡ read_members l.fn.tokens;
}

abbrev pub decreases-loop-alloc : goal.decreases-loop-alloc
decreases-loop-alloc l = length l.names.rest
