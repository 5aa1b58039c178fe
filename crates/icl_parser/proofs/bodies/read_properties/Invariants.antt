use Rattle.std.proofs.Common.{◌≡◌, ◌≤◌, length}
use Rattle.ij_bits.specs.Room.{seen_list}
use Rattle.ij_text.specs.Reading.{read_repeat}
use Rattle.icl_lexer.specs.Grammar.{with_property}
use Rattle.icl_lexer.specs.Views.{seen_prop}
use Rattle.icl_expressions.specs.Reading.{no_close}
use Rattle.icl_parser.specs.Reading.{read_property, read_properties}
use Rattle.icl_parser.proofs.bodies.read_properties.Given as goal

abbrev pub invariant-loop-alloc : goal.invariant-loop-alloc
invariant-loop-alloc l = record {
  shorter : length l.props.rest ≤ length l.fn.tokens;
  goes_on : read_repeat no_close (read_property l.owner) with_property
      (seen_list seen_prop l.props.value) l.props.rest ≡ read_properties l.owner l.fn.tokens;
}

abbrev pub decreases-loop-alloc : goal.decreases-loop-alloc
decreases-loop-alloc l = length l.props.rest
