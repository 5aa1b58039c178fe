use Rattle.ij_io.proofs.Adding.{adds_both, adds_front, adds_then_part, at_refusal}
use Rattle.mux_test.proofs.report.put_lines.Goals as goal

pub returns-in_err-put_all_unseen-clause-part : goal.returns-in_err-put_all_unseen-clause-part
returns-in_err-put_all_unseen-clause-part g c =
    at_refusal c.from_residual.result (adds_front _ c.in_err-put_all_unseen.ensures.part)

pub returns-in_err-put_counts-clause-part : goal.returns-in_err-put_counts-clause-part
returns-in_err-put_counts-clause-part g c =
    at_refusal c.from_residual-in_err-put_counts.result
    (adds_then_part c.in_ok-put_all_unseen.ensures.whole c.in_err-put_counts.ensures.part)

pub returns-clause-whole : goal.returns-clause-whole
returns-clause-whole g c = adds_both c.in_ok-put_all_unseen.ensures.whole c.in_ok-put_counts.ensures.whole
