use Rattle.ij_io.proofs.Adding.{adds_both, adds_front, adds_then_part, at_refusal}
use Rattle.report.proofs.state.put_state.Goals as goal

pub returns-in_err-put_registers-clause-part : goal.returns-in_err-put_registers-clause-part
returns-in_err-put_registers-clause-part g c =
    at_refusal c.from_residual.result (adds_front _ c.in_err-put_registers.ensures.part)

pub returns-in_err-put_instruments-clause-part : goal.returns-in_err-put_instruments-clause-part
returns-in_err-put_instruments-clause-part g c =
    at_refusal c.from_residual-in_err-put_instruments.result
    (adds_then_part c.in_ok-put_registers.ensures.whole c.in_err-put_instruments.ensures.part)

pub returns-clause-whole : goal.returns-clause-whole
returns-clause-whole g c =
    adds_both c.in_ok-put_registers.ensures.whole c.in_ok-put_instruments.ensures.whole
