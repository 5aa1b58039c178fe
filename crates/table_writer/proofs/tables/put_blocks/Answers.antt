use Rattle.ij_io.proofs.Adding.{at_refusal, words_part}
use Rattle.table_file.specs.Tables.{seen_table}
use Rattle.bench_file.specs.Written.{table_text}
use Rattle.table_writer.proofs.tables.put_blocks.Goals as goal

pub returns-in_err-put_table-clause-part : goal.returns-in_err-put_table-clause-part
returns-in_err-put_table-clause-part g c =
    at_refusal c.from_residual.result
    (words_part (λ t. table_text (seen_table t)) c.args.tables.now c.loop-t.t-index c.loop-t-test.true
    c.t-item.is c.loop-t.invariant.so_far c.in_err-put_table.ensures.part)
