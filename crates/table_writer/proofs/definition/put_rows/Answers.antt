use Rattle.ij_io.proofs.Adding.{at_refusal, words_part}
use Rattle.instruments.specs.Seen.{seen_model, seen_row}
use Rattle.bench_file.specs.Written.{row_text}
use Rattle.table_writer.proofs.definition.put_rows.Goals as goal

pub returns-in_err-put_row-clause-part : goal.returns-in_err-put_row-clause-part
returns-in_err-put_row-clause-part g c =
    at_refusal c.from_residual.result (words_part (λ row. row_text (seen_model c.args.m.now) c.args.kind.now
    (seen_row row)) c.args.rows.now c.loop-row.row-index c.loop-row-test.true c.row-item.is
    c.loop-row.invariant.so_far c.in_err-put_row.ensures.part)
