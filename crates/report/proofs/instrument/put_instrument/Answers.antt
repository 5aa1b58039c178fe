use Rattle.ij_io.proofs.Adding.{adds_both, adds_front, adds_then_part, at_refusal}
use Rattle.report.proofs.instrument.put_instrument.Goals as goal

pub returns-in_err-write-clause-part : goal.returns-in_err-write-clause-part
returns-in_err-write-clause-part g c =
    at_refusal c.from_residual.result (adds_front _ c.in_err-write.ensures.part)

pub returns-in_err-put_instrument_path-clause-part : goal.returns-in_err-put_instrument_path-clause-part
returns-in_err-put_instrument_path-clause-part g c =
    at_refusal c.from_residual-in_err-put_instrument_path.result
    (adds_then_part c.in_ok-write.ensures.whole (adds_front _ c.in_err-put_instrument_path.ensures.part))

pub returns-in_err-put_numbers-clause-part : goal.returns-in_err-put_numbers-clause-part
returns-in_err-put_numbers-clause-part g c = at_refusal c.from_residual-in_err-put_numbers.result
    (adds_then_part c.in_ok-write.ensures.whole (adds_then_part c.in_ok-put_instrument_path.ensures.whole
    (adds_front _ c.in_err-put_numbers.ensures.part)))

pub returns-in_err-put_memory-clause-part : goal.returns-in_err-put_memory-clause-part
returns-in_err-put_memory-clause-part g c = at_refusal c.from_residual-in_err-put_memory.result
    (adds_then_part c.in_ok-write.ensures.whole (adds_then_part c.in_ok-put_instrument_path.ensures.whole
    (adds_then_part c.in_ok-put_numbers.ensures.whole (adds_front _ c.in_err-put_memory.ensures.part))))

pub returns-in_err-put_counts-clause-part : goal.returns-in_err-put_counts-clause-part
returns-in_err-put_counts-clause-part g c = at_refusal c.from_residual-in_err-put_counts.result
    (adds_then_part c.in_ok-write.ensures.whole (adds_then_part c.in_ok-put_instrument_path.ensures.whole
    (adds_then_part c.in_ok-put_numbers.ensures.whole
    (adds_then_part c.in_ok-put_memory.ensures.whole c.in_err-put_counts.ensures.part))))

pub returns-clause-whole : goal.returns-clause-whole
returns-clause-whole g c = adds_both c.in_ok-write.ensures.whole
    (adds_both c.in_ok-put_instrument_path.ensures.whole (adds_both c.in_ok-put_numbers.ensures.whole
    (adds_both c.in_ok-put_memory.ensures.whole c.in_ok-put_counts.ensures.whole)))
