use Rattle.std.proofs.Common.{sym, ◌∙◌, arith}
use Rattle.icl_lexer.specs.Seen.{is_mark}
use Rattle.ij_text.specs.Symbol.{appended}
use Rattle.icl_lexer.specs.Views.{seen_few}
use Rattle.icl_expressions.specs.Reading.{read_after}
use Rattle.icl_expressions.proofs.Steps.{after_shrinks, go_on}
use Rattle.icl_expressions.proofs.parts.read_following.Goals as goal

pub loop-alloc-preserved : goal.loop-alloc-preserved
loop-alloc-preserved g c =
    let r = g.T.Parted.reader in
    record {
      shorter = omega (arith, c.in_ok-parts.ensures.shorter, c.loop-alloc.invariant.shorter);
      goes_on =
          go_on appended (is_mark c.args.mark) (λ xs. read_after c.args.mark r)
          (λ xs. after_shrinks c.args.mark r c.requires)
          (seen_few g.T.Parted.view c.loop-alloc.parts.value) c.loop-alloc.parts.rest _
          (sym c.begins_mark.ensures ∙ c.loop-alloc-test.true) c.in_ok-parts.ensures.gives
          ∙ c.loop-alloc.invariant.goes_on;
    }
