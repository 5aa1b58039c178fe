use Rattle.std.proofs.Common.{◌∷◌, ◌++◌, [], List, ap, sym}
use Rattle.std.specs.Option.{option_map}
use Rattle.ij_io.proofs.Adding.{at_refusal}
use Rattle.icl_lexer.specs.declared.tree.Ends.{Ends}
use Rattle.icl_lexer.specs.Views.{seen_expr}
use Rattle.icl_printer.specs.Layout.{Spelling, mark}
use Rattle.icl_printer.specs.Canonical.{after, formula_tokens, if_there}
use Rattle.icl_printer.proofs.Laid.{laid_both, laid_front, laid_then_part, part_as, whole_as}
use Rattle.icl_printer.proofs.expressions.RangePut.put.Goals as goal

abbrev in_brackets : Ends → List Spelling
in_brackets ends = mark 91 ∷ (formula_tokens (seen_expr ends.left)
    ++ (if_there (after 58 formula_tokens) (option_map seen_expr ends.right) ++ (mark 93 ∷ [])))

pub returns-in_err-put_tokens-clause-part : goal.returns-in_err-put_tokens-clause-part
returns-in_err-put_tokens-clause-part g c =
    at_refusal c.from_residual.result (laid_front _ _ c.in_err-put_tokens.ensures.part)

pub returns-in_err-put-clause-part : goal.returns-in_err-put-clause-part
returns-in_err-put-clause-part g c =
    at_refusal c.from_residual-in_err-put.result
    (part_as (ap in_brackets (sym c.deref-ends.ensures))
    (laid_then_part _ _ c.in_ok-put_tokens.ensures.whole (laid_front _ _ c.in_err-put.ensures.part)))

pub returns-in_err-put_if_there_after-clause-part : goal.returns-in_err-put_if_there_after-clause-part
returns-in_err-put_if_there_after-clause-part g c =
    at_refusal c.from_residual-in_err-put_if_there_after.result
    (part_as (ap in_brackets (sym c.deref-ends.ensures))
    (laid_then_part _ _ c.in_ok-put_tokens.ensures.whole (laid_then_part _ _ c.in_ok-put.ensures.whole
    (laid_front _ _ c.in_err-put_if_there_after.ensures.part))))

pub returns-in_err-put_tokens-2-clause-part : goal.returns-in_err-put_tokens-2-clause-part
returns-in_err-put_tokens-2-clause-part g c =
    at_refusal c.from_residual-in_err-put_tokens-2.result
    (part_as (ap in_brackets (sym c.deref-ends.ensures))
    (laid_then_part _ _ c.in_ok-put_tokens.ensures.whole (laid_then_part _ _ c.in_ok-put.ensures.whole
    (laid_then_part _ _ c.in_ok-put_if_there_after.ensures.whole c.in_err-put_tokens-2.ensures.part))))

pub returns-clause-whole : goal.returns-clause-whole
returns-clause-whole g c =
    whole_as (ap in_brackets (sym c.deref-ends.ensures))
    (laid_both _ _ c.in_ok-put_tokens.ensures.whole (laid_both _ _ c.in_ok-put.ensures.whole
    (laid_both _ _ c.in_ok-put_if_there_after.ensures.whole c.in_ok-put_tokens-2.ensures.whole)))
