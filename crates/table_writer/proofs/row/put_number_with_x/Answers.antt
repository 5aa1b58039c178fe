use Rattle.ij_io.proofs.Adding.{adds_both, adds_front, adds_then_part, at_refusal}
use Rattle.table_writer.proofs.row.put_number_with_x.Goals as goal

pub returns-in_err-write-clause-part : goal.returns-in_err-write-clause-part
returns-in_err-write-clause-part g c =
    at_refusal c.from_residual.result (adds_front _ c.in_err-write.ensures.part)

pub returns-in_err-put_digits-clause-part : goal.returns-in_err-put_digits-clause-part
returns-in_err-put_digits-clause-part g c = at_refusal c.from_residual-in_err-put_digits.result
    (adds_then_part c.in_ok-write.ensures.whole c.in_err-put_digits.ensures.part)

pub returns-clause-whole : goal.returns-clause-whole
returns-clause-whole g c = adds_both c.in_ok-write.ensures.whole c.in_ok-put_digits.ensures.whole
