use Rattle.ij_io.proofs.Adding.{at_refusal, words_part}
use Rattle.instruments.specs.Seen.{seen_model}
use Rattle.table_writer.specs.Pieces.{next_cond}
use Rattle.std.proofs.lemmas.List.{get_or_default}
use Rattle.table_writer.proofs.row.put_more_conds.Goals as goal

pub returns-in_err-put_next_cond-clause-part : goal.returns-in_err-put_next_cond-clause-part
returns-in_err-put_next_cond-clause-part g c =
    at_refusal c.from_residual.result (words_part (next_cond (seen_model c.args.m.now)) c.args.conds.now
    c.loop-c.c-index c.loop-c-test.true (get_or_default _ _ _ _ c.loop-c-test.true)
    c.loop-c.invariant.so_far c.in_err-put_next_cond.ensures.part)
