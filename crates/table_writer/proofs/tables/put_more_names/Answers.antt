use Rattle.ij_io.proofs.Adding.{at_refusal, words_part}
use Rattle.table_writer.specs.Pieces.{next_name}
use Rattle.table_writer.proofs.tables.put_more_names.Goals as goal

pub returns-in_err-put_next_name-clause-part : goal.returns-in_err-put_next_name-clause-part
returns-in_err-put_next_name-clause-part g c =
    at_refusal c.from_residual.result
    (words_part (λ name. next_name name.items) c.args.names.now c.loop-name.name-index
    c.loop-name-test.true c.name-item.is c.loop-name.invariant.so_far c.in_err-put_next_name.ensures.part)
