use Rattle.std.proofs.Common.{ap, map}
use Rattle.ij_io.proofs.Adding.{adds_both, adds_front, adds_then_part, at_refusal, adds_part_as, adds_as}
use Rattle.table_file.specs.Tables.{seen_table}
use Rattle.table_writer.proofs.Pieced.{table_pieces}
use Rattle.table_writer.proofs.tables.put_table.Goals as goal

pub returns-in_err-put_instrument-clause-part : goal.returns-in_err-put_instrument-clause-part
returns-in_err-put_instrument-clause-part g c =
    at_refusal c.from_residual.result (adds_part_as (table_pieces (seen_table c.args.t.now) _ (ap
    (map (λ name. name.items)) c.as_slice.ensures)) (adds_front _ c.in_err-put_instrument.ensures.part))

pub returns-in_err-put_model-clause-part : goal.returns-in_err-put_model-clause-part
returns-in_err-put_model-clause-part g c =
    at_refusal c.from_residual-in_err-put_model.result
    (adds_part_as
    (table_pieces (seen_table c.args.t.now) _ (ap (map (λ name. name.items)) c.as_slice.ensures))
    (adds_then_part c.in_ok-put_instrument.ensures.whole (adds_front _ c.in_err-put_model.ensures.part)))

pub returns-in_err-write-clause-part : goal.returns-in_err-write-clause-part
returns-in_err-write-clause-part g c =
    at_refusal c.from_residual-in_err-write.result
    (adds_part_as
    (table_pieces (seen_table c.args.t.now) _ (ap (map (λ name. name.items)) c.as_slice.ensures))
    (adds_then_part c.in_ok-put_instrument.ensures.whole
    (adds_then_part c.in_ok-put_model.ensures.whole c.in_err-write.ensures.part)))

pub returns-clause-whole : goal.returns-clause-whole
returns-clause-whole g c =
    adds_as (table_pieces (seen_table c.args.t.now) _ (ap (map (λ name. name.items)) c.as_slice.ensures))
    (adds_both c.in_ok-put_instrument.ensures.whole
    (adds_both c.in_ok-put_model.ensures.whole c.in_ok-write.ensures.whole))
