use Rattle.std.proofs.Common.{sym, ◌∙◌, arith}
use Rattle.ij_bits.specs.Room.{seen_list}
use Rattle.icl_lexer.specs.Grammar.{with_property}
use Rattle.icl_lexer.specs.Views.{seen_prop}
use Rattle.icl_expressions.specs.Seen.{seen_read}
use Rattle.icl_expressions.specs.Reading.{no_close}
use Rattle.icl_parser.specs.Reading.{read_property}
use Rattle.icl_expressions.proofs.Steps.{reads_shrink, go_on}
use Rattle.icl_parser.proofs.BodyLaws.{property_reads}
use Rattle.icl_parser.proofs.bodies.read_properties.Goals as goal

pub loop-alloc-preserved : goal.loop-alloc-preserved
loop-alloc-preserved c = record {
  shorter = omega (arith, c.in_ok-props.ensures.shorter, c.loop-alloc.invariant.shorter);
  goes_on =
      go_on with_property no_close (read_property c.args.owner)
      (λ ps. reads_shrink (property_reads c.args.owner ps)) (seen_list seen_prop c.loop-alloc.props.value)
      c.loop-alloc.props.rest (seen_read (seen_list seen_prop) c.in_ok-props.props)
      (sym c.is_next_not_close.ensures ∙ c.loop-alloc-test.true) c.in_ok-props.ensures.gives
      ∙ c.loop-alloc.invariant.goes_on;
}
