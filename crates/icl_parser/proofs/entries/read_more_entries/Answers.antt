use Rattle.std.proofs.Common.{sym, ◌∙◌, arith}
use Rattle.ij_bits.specs.Room.{seen_list}
use Rattle.ij_text.specs.Symbol.{appended}
use Rattle.icl_expressions.specs.Reading.{no_close}
use Rattle.icl_expressions.proofs.Steps.{go_on}
use Rattle.icl_parser.proofs.entries.read_more_entries.Goals as goal

pub loop-alloc-preserved : goal.loop-alloc-preserved
loop-alloc-preserved g c = record {
  shorter = omega (arith, c.in_ok-entries.ensures.shorter, c.loop-alloc.invariant.shorter);
  goes_on =
      go_on appended no_close (λ xs. g.T.Entry.reader) (λ xs. c.requires)
      (seen_list g.T.Entry.view c.loop-alloc.entries.value) c.loop-alloc.entries.rest _
      (sym c.is_next_not_close.ensures ∙ c.loop-alloc-test.true) c.in_ok-entries.ensures.gives
      ∙ c.loop-alloc.invariant.goes_on;
}
