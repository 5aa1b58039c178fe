use Rattle.ij_io.proofs.Adding.{at_refusal, words_part}
use Rattle.instruments.specs.Seen.{seen_model}
use Rattle.table_writer.specs.Pieces.{next_set}
use Rattle.std.proofs.lemmas.List.{get_or_default}
use Rattle.table_writer.proofs.row.put_more_sets.Goals as goal

pub returns-in_err-put_next_set-clause-part : goal.returns-in_err-put_next_set-clause-part
returns-in_err-put_next_set-clause-part g c =
    at_refusal c.from_residual.result (words_part (next_set (seen_model c.args.m.now)) c.args.sets.now
    c.loop-x.x-index c.loop-x-test.true (get_or_default _ _ _ _ c.loop-x-test.true)
    c.loop-x.invariant.so_far c.in_err-put_next_set.ensures.part)
