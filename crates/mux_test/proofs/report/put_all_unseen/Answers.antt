use Rattle.ij_io.proofs.Adding.{at_refusal, words_part}
use Rattle.std.proofs.lemmas.List.{get_or_default}
use Rattle.mux_test.specs.Reported.{unseen_line}
use Rattle.mux_test.proofs.report.put_all_unseen.Goals as goal

pub returns-in_err-put_unseen-clause-part : goal.returns-in_err-put_unseen-clause-part
returns-in_err-put_unseen-clause-part g c =
    at_refusal c.from_residual.result (words_part (unseen_line c.args.net.now) c.args.unseen.now
    c.loop-row.row-index c.loop-row-test.true (get_or_default _ _ _ _ c.loop-row-test.true)
    c.loop-row.invariant.so_far c.in_err-put_unseen.ensures.part)
