use Rattle.ij_io.proofs.Adding.{at_refusal}
use Rattle.icl_printer.proofs.Laid.{laid_both, laid_front, laid_then_part}
use Rattle.icl_printer.proofs.signals.SigWhatPut.put.Goals as goal

pub returns-in_err-put-in-Named-clause-part : goal.returns-in_err-put-in-Named-clause-part
returns-in_err-put-in-Named-clause-part g c = at_refusal c.from_residual-in_err-put-in-Named.result
    (rw c.in-Named.is (laid_front _ _ c.in_err-put-in-Named.ensures.part))

pub returns-in_err-put-in-Named-2-clause-part : goal.returns-in_err-put-in-Named-2-clause-part
returns-in_err-put-in-Named-2-clause-part g c =
    at_refusal c.from_residual-in_err-put-in-Named-2.result (rw c.in-Named.is
    (laid_then_part _ _ c.in_ok-put-in-Named.ensures.whole c.in_err-put-in-Named-2.ensures.part))

pub returns-in_ok-put-in-Named-2-clause-whole : goal.returns-in_ok-put-in-Named-2-clause-whole
returns-in_ok-put-in-Named-2-clause-whole g c =
    rw c.in-Named.is (laid_both _ _ c.in_ok-put-in-Named.ensures.whole c.in_ok-put-in-Named-2.ensures.whole)
