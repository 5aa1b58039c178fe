use Rattle.ij_io.proofs.Adding.{at_refusal}
use Rattle.icl_printer.proofs.Laid.{laid_both, laid_front, laid_then_part}
use Rattle.icl_printer.proofs.bodies.put_register.Goals as goal

pub returns-in_err-put_named-clause-part : goal.returns-in_err-put_named-clause-part
returns-in_err-put_named-clause-part g c =
    at_refusal c.from_residual.result (laid_front _ _ c.in_err-put_named.ensures.part)

pub returns-in_err-put-clause-part : goal.returns-in_err-put-clause-part
returns-in_err-put-clause-part g c = at_refusal c.from_residual-in_err-put.result
    (laid_then_part _ _ c.in_ok-put_named.ensures.whole (laid_front _ _ c.in_err-put.ensures.part))

pub returns-in_err-put_braced-clause-part : goal.returns-in_err-put_braced-clause-part
returns-in_err-put_braced-clause-part g c =
    at_refusal c.from_residual-in_err-put_braced.result (laid_then_part _ _ c.in_ok-put_named.ensures.whole
    (laid_then_part _ _ c.in_ok-put.ensures.whole c.in_err-put_braced.ensures.part))

pub returns-clause-whole : goal.returns-clause-whole
returns-clause-whole g c = laid_both _ _ c.in_ok-put_named.ensures.whole
    (laid_both _ _ c.in_ok-put.ensures.whole c.in_ok-put_braced.ensures.whole)
