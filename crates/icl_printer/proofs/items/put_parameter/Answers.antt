use Rattle.std.proofs.Common.{[]}
use Rattle.icl_printer.specs.Layout.{mark}
use Rattle.icl_printer.specs.Canonical.{formula_tokens}
use Rattle.icl_lexer.specs.Views.{seen_expr}
use Rattle.ij_io.proofs.Adding.{at_refusal}
use Rattle.std.proofs.Common.{◌∷◌, ◌++◌, List, ℕ, ap, sym}
use Rattle.icl_printer.specs.Layout.{word}
use Rattle.icl_printer.proofs.Laid.{laid_both, laid_front, laid_then_part, part_as, whole_as}
use Rattle.icl_printer.proofs.items.put_parameter.Goals as goal

pub returns-in_err-put_named-clause-part : goal.returns-in_err-put_named-clause-part
returns-in_err-put_named-clause-part g c = at_refusal c.from_residual.result
    (part_as (ap (λ (w : List ℕ). word w ∷ (word c.args.name.now.items ∷ mark 61
    ∷ (formula_tokens (seen_expr c.args.value.now) ++ (mark 59 ∷ [])))) (sym c.parameter_word_of.ensures))
    (laid_front _ _ c.in_err-put_named.ensures.part))

pub returns-in_err-put_tokens-clause-part : goal.returns-in_err-put_tokens-clause-part
returns-in_err-put_tokens-clause-part g c = at_refusal c.from_residual-in_err-put_tokens.result
    (part_as (ap (λ (w : List ℕ). word w ∷ (word c.args.name.now.items ∷ mark 61
    ∷ (formula_tokens (seen_expr c.args.value.now) ++ (mark 59 ∷ [])))) (sym c.parameter_word_of.ensures))
    (laid_then_part _ _ c.in_ok-put_named.ensures.whole (laid_front _ _ c.in_err-put_tokens.ensures.part)))

pub returns-in_err-put-clause-part : goal.returns-in_err-put-clause-part
returns-in_err-put-clause-part g c = at_refusal c.from_residual-in_err-put.result
    (part_as (ap (λ (w : List ℕ). word w ∷ (word c.args.name.now.items ∷ mark 61
    ∷ (formula_tokens (seen_expr c.args.value.now) ++ (mark 59 ∷ [])))) (sym c.parameter_word_of.ensures))
    (laid_then_part _ _ c.in_ok-put_named.ensures.whole
    (laid_then_part _ _ c.in_ok-put_tokens.ensures.whole (laid_front _ _ c.in_err-put.ensures.part))))

pub returns-in_err-put_tokens-2-clause-part : goal.returns-in_err-put_tokens-2-clause-part
returns-in_err-put_tokens-2-clause-part g c = at_refusal c.from_residual-in_err-put_tokens-2.result
    (part_as (ap (λ (w : List ℕ). word w ∷ (word c.args.name.now.items ∷ mark 61
    ∷ (formula_tokens (seen_expr c.args.value.now) ++ (mark 59 ∷ [])))) (sym c.parameter_word_of.ensures))
    (laid_then_part _ _ c.in_ok-put_named.ensures.whole (laid_then_part _ _ c.in_ok-put_tokens.ensures.whole
    (laid_then_part _ _ c.in_ok-put.ensures.whole c.in_err-put_tokens-2.ensures.part))))

pub returns-clause-whole : goal.returns-clause-whole
returns-clause-whole g c = whole_as (ap (λ (w : List ℕ). word w ∷ (word c.args.name.now.items ∷ mark 61
    ∷ (formula_tokens (seen_expr c.args.value.now) ++ (mark 59 ∷ [])))) (sym c.parameter_word_of.ensures))
    (laid_both _ _ c.in_ok-put_named.ensures.whole (laid_both _ _ c.in_ok-put_tokens.ensures.whole
    (laid_both _ _ c.in_ok-put.ensures.whole c.in_ok-put_tokens-2.ensures.whole)))
