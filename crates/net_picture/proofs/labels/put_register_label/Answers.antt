use Rattle.ij_io.proofs.Adding.{adds_both, adds_front, adds_then_part, at_refusal}
use Rattle.net_picture.proofs.labels.put_register_label.Goals as goal

pub returns-in_err-put_register_path-clause-part : goal.returns-in_err-put_register_path-clause-part
returns-in_err-put_register_path-clause-part g c =
    at_refusal c.from_residual.result (adds_front _ c.in_err-put_register_path.ensures.part)

pub returns-in_err-put_range_if-clause-part : goal.returns-in_err-put_range_if-clause-part
returns-in_err-put_range_if-clause-part g c = at_refusal c.from_residual-in_err-put_range_if.result
    (adds_then_part c.in_ok-put_register_path.ensures.whole c.in_err-put_range_if.ensures.part)

pub returns-clause-whole : goal.returns-clause-whole
returns-clause-whole g c =
    adds_both c.in_ok-put_register_path.ensures.whole c.in_ok-put_range_if.ensures.whole
