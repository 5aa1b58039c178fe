use Rattle.ij_io.proofs.Adding.{adds_both, adds_front, adds_then_part, at_refusal}
use Rattle.report.proofs.differ.put_compare.Goals as goal

pub returns-in_err-write-clause-part : goal.returns-in_err-write-clause-part
returns-in_err-write-clause-part g c =
    at_refusal c.from_residual.result (adds_front _ c.in_err-write.ensures.part)

pub returns-in_err-put_scan-clause-part : goal.returns-in_err-put_scan-clause-part
returns-in_err-put_scan-clause-part g c = at_refusal c.from_residual-in_err-put_scan.result
    (adds_then_part c.in_ok-write.ensures.whole (adds_front _ c.in_err-put_scan.ensures.part))

pub returns-in_err-put_found-clause-part : goal.returns-in_err-put_found-clause-part
returns-in_err-put_found-clause-part g c =
    at_refusal c.from_residual-in_err-put_found.result (adds_then_part c.in_ok-write.ensures.whole
    (adds_then_part c.in_ok-put_scan.ensures.whole (adds_front _ c.in_err-put_found.ensures.part)))

pub returns-in_err-put_maybe_iread-clause-part : goal.returns-in_err-put_maybe_iread-clause-part
returns-in_err-put_maybe_iread-clause-part g c = at_refusal c.from_residual-in_err-put_maybe_iread.result
    (adds_then_part c.in_ok-write.ensures.whole (adds_then_part c.in_ok-put_scan.ensures.whole
    (adds_then_part c.in_ok-put_found.ensures.whole (adds_front _ c.in_err-put_maybe_iread.ensures.part))))

pub returns-in_err-write-2-clause-part : goal.returns-in_err-write-2-clause-part
returns-in_err-write-2-clause-part g c =
    at_refusal c.from_residual-in_err-write-2.result (adds_then_part c.in_ok-write.ensures.whole
    (adds_then_part c.in_ok-put_scan.ensures.whole (adds_then_part c.in_ok-put_found.ensures.whole
    (adds_then_part c.in_ok-put_maybe_iread.ensures.whole c.in_err-write-2.ensures.part))))

pub returns-clause-whole : goal.returns-clause-whole
returns-clause-whole g c = adds_both c.in_ok-write.ensures.whole
    (adds_both c.in_ok-put_scan.ensures.whole (adds_both c.in_ok-put_found.ensures.whole
    (adds_both c.in_ok-put_maybe_iread.ensures.whole c.in_ok-write-2.ensures.whole)))
