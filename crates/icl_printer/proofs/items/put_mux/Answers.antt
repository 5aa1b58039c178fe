use Rattle.ij_io.proofs.Adding.{at_refusal}
use Rattle.icl_printer.proofs.Laid.{laid_both, laid_front, laid_then_part}
use Rattle.icl_printer.proofs.items.put_mux.Goals as goal

pub returns-in_err-put_tokens-clause-part : goal.returns-in_err-put_tokens-clause-part
returns-in_err-put_tokens-clause-part g c =
    at_refusal c.from_residual.result (laid_front _ _ c.in_err-put_tokens.ensures.part)

pub returns-in_err-put-clause-part : goal.returns-in_err-put-clause-part
returns-in_err-put-clause-part g c = at_refusal c.from_residual-in_err-put.result
    (laid_then_part _ _ c.in_ok-put_tokens.ensures.whole (laid_front _ _ c.in_err-put.ensures.part))

pub returns-in_err-put_tokens-2-clause-part : goal.returns-in_err-put_tokens-2-clause-part
returns-in_err-put_tokens-2-clause-part g c =
    at_refusal c.from_residual-in_err-put_tokens-2.result (laid_then_part _ _ c.in_ok-put_tokens.ensures.whole
    (laid_then_part _ _ c.in_ok-put.ensures.whole (laid_front _ _ c.in_err-put_tokens-2.ensures.part)))

pub returns-in_err-put_all-clause-part : goal.returns-in_err-put_all-clause-part
returns-in_err-put_all-clause-part g c = at_refusal c.from_residual-in_err-put_all.result
    (laid_then_part _ _ c.in_ok-put_tokens.ensures.whole (laid_then_part _ _ c.in_ok-put.ensures.whole
    (laid_then_part _ _ c.in_ok-put_tokens-2.ensures.whole (laid_front _ _ c.in_err-put_all.ensures.part))))

pub returns-in_err-put_tokens-3-clause-part : goal.returns-in_err-put_tokens-3-clause-part
returns-in_err-put_tokens-3-clause-part g c =
    at_refusal c.from_residual-in_err-put_tokens-3.result (laid_then_part _ _ c.in_ok-put_tokens.ensures.whole
    (laid_then_part _ _ c.in_ok-put.ensures.whole (laid_then_part _ _ c.in_ok-put_tokens-2.ensures.whole
    (laid_then_part _ _ c.in_ok-put_all.ensures.whole c.in_err-put_tokens-3.ensures.part))))

pub returns-clause-whole : goal.returns-clause-whole
returns-clause-whole g c = laid_both _ _ c.in_ok-put_tokens.ensures.whole
    (laid_both _ _ c.in_ok-put.ensures.whole (laid_both _ _ c.in_ok-put_tokens-2.ensures.whole
    (laid_both _ _ c.in_ok-put_all.ensures.whole c.in_ok-put_tokens-3.ensures.whole)))
