use Rattle.ij_io.proofs.Adding.{adds_front, adds_then_part, at_refusal}
use Rattle.path_names.proofs.paths.put_after_dot.Goals as goal

pub returns-in_err-write-clause-part : goal.returns-in_err-write-clause-part
returns-in_err-write-clause-part g c =
    at_refusal c.from_residual.result (adds_front _ c.in_err-write.ensures.part)

pub returns-in_err-put_name-clause-part : goal.returns-in_err-put_name-clause-part
returns-in_err-put_name-clause-part g c = at_refusal c.from_residual-in_err-put_name.result
    (adds_then_part c.in_ok-write.ensures.whole c.in_err-put_name.ensures.part)
