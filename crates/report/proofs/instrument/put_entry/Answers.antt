use Rattle.ij_io.proofs.Adding.{adds_both, adds_front, adds_then_part, at_refusal}
use Rattle.report.proofs.instrument.put_entry.Goals as goal

pub returns-in_err-write-clause-part : goal.returns-in_err-write-clause-part
returns-in_err-write-clause-part g c =
    at_refusal c.from_residual.result (adds_front _ c.in_err-write.ensures.part)

pub returns-in_err-put_name-clause-part : goal.returns-in_err-put_name-clause-part
returns-in_err-put_name-clause-part g c = at_refusal c.from_residual-in_err-put_name.result
    (adds_then_part c.in_ok-write.ensures.whole (adds_front _ c.in_err-put_name.ensures.part))

pub returns-in_err-put_index-clause-part : goal.returns-in_err-put_index-clause-part
returns-in_err-put_index-clause-part g c =
    at_refusal c.from_residual-in_err-put_index.result (adds_then_part c.in_ok-write.ensures.whole
    (adds_then_part c.in_ok-put_name.ensures.whole (adds_front _ c.in_err-put_index.ensures.part)))

pub returns-in_err-put_hex_number-clause-part : goal.returns-in_err-put_hex_number-clause-part
returns-in_err-put_hex_number-clause-part g c = at_refusal c.from_residual-in_err-put_hex_number.result
    (adds_then_part c.in_ok-write.ensures.whole (adds_then_part c.in_ok-put_name.ensures.whole
    (adds_then_part c.in_ok-put_index.ensures.whole c.in_err-put_hex_number.ensures.part)))

pub returns-clause-whole : goal.returns-clause-whole
returns-clause-whole g c = adds_both c.in_ok-write.ensures.whole (adds_both c.in_ok-put_name.ensures.whole
    (adds_both c.in_ok-put_index.ensures.whole c.in_ok-put_hex_number.ensures.whole))
