use Rattle.std.proofs.Common.{ℕ, List, sym, ◌∙◌, arith}
use Rattle.ij_bits.specs.Room.{seen_list}
use Rattle.icl_lexer.specs.Modules.{with_member}
use Rattle.icl_lexer.specs.Views.{bytes_of}
use Rattle.icl_expressions.specs.Seen.{seen_read}
use Rattle.icl_expressions.specs.Reading.{no_close}
use Rattle.icl_parser.specs.Reading.{read_member}
use Rattle.icl_expressions.proofs.Steps.{reads_shrink, go_on}
use Rattle.icl_parser.proofs.DesignLaws.{member_reads}
use Rattle.icl_parser.proofs.links.read_members.Goals as goal

pub loop-alloc-preserved : goal.loop-alloc-preserved
loop-alloc-preserved c = record {
  shorter = omega (arith, c.in_ok-names.ensures.shorter, c.loop-alloc.invariant.shorter);
  goes_on =
      go_on with_member no_close (λ (ys : List (List ℕ)). read_member) (λ ys. reads_shrink member_reads)
      (seen_list bytes_of c.loop-alloc.names.value) c.loop-alloc.names.rest
      (seen_read (seen_list bytes_of) c.in_ok-names.names)
      (sym c.is_next_not_close.ensures ∙ c.loop-alloc-test.true) c.in_ok-names.ensures.gives
      ∙ c.loop-alloc.invariant.goes_on;
}
