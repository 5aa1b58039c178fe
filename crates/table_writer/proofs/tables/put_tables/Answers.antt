use Rattle.ij_io.proofs.Adding.{adds_both, adds_front, adds_then_part, at_refusal}
use Rattle.bench_file.specs.Written.{tables_text}
use Rattle.table_writer.proofs.tables.put_tables.Goals as goal

pub returns-in_err-write-clause-part : goal.returns-in_err-write-clause-part
unfolding tables_text
returns-in_err-write-clause-part g c =
    at_refusal c.from_residual.result (adds_front _ c.in_err-write.ensures.part)

pub returns-in_err-put_all_blocks-clause-part : goal.returns-in_err-put_all_blocks-clause-part
unfolding tables_text
returns-in_err-put_all_blocks-clause-part g c = at_refusal c.from_residual-in_err-put_all_blocks.result
    (adds_then_part c.in_ok-write.ensures.whole c.in_err-put_all_blocks.ensures.part)

pub returns-clause-whole : goal.returns-clause-whole
unfolding tables_text
returns-clause-whole g c = adds_both c.in_ok-write.ensures.whole c.in_ok-put_all_blocks.ensures.whole
