use Rattle.ij_io.proofs.Adding.{adds_front, adds_then_part, at_refusal}
use Rattle.report.proofs.totals.put_made.Goals as goal

pub returns-in_err-put_size-clause-part : goal.returns-in_err-put_size-clause-part
returns-in_err-put_size-clause-part g c =
    at_refusal c.from_residual.result (adds_front _ c.in_err-put_size.ensures.part)

pub returns-in_err-put_play-clause-part : goal.returns-in_err-put_play-clause-part
returns-in_err-put_play-clause-part g c = at_refusal c.from_residual-in_err-put_play.result
    (adds_then_part c.in_ok-put_size.ensures.whole c.in_err-put_play.ensures.part)
