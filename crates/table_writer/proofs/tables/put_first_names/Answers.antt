use Rattle.std.specs.List.{flat_map}
use Rattle.ij_io.proofs.Adding.{adds_both, adds_front, adds_then_part, at_refusal, adds_part_as, adds_as}
use Rattle.table_writer.specs.Pieces.{next_name}
use Rattle.table_writer.proofs.Pieced.{front_as}
use Rattle.table_writer.proofs.tables.put_first_names.Goals as goal

pub returns-in_err-write-clause-part : goal.returns-in_err-write-clause-part
returns-in_err-write-clause-part g c =
    at_refusal c.from_residual.result
    (adds_part_as (front_as (flat_map (λ name. next_name name.items) c.args.rest.now) c.as_slice.ensures)
    (adds_front _ c.in_err-write.ensures.part))

pub returns-in_err-put_more_names-clause-part : goal.returns-in_err-put_more_names-clause-part
returns-in_err-put_more_names-clause-part g c =
    at_refusal c.from_residual-in_err-put_more_names.result
    (adds_part_as (front_as (flat_map (λ name. next_name name.items) c.args.rest.now) c.as_slice.ensures)
    (adds_then_part c.in_ok-write.ensures.whole c.in_err-put_more_names.ensures.part))

pub returns-clause-whole : goal.returns-clause-whole
returns-clause-whole g c =
    adds_as (front_as (flat_map (λ name. next_name name.items) c.args.rest.now) c.as_slice.ensures)
    (adds_both c.in_ok-write.ensures.whole c.in_ok-put_more_names.ensures.whole)
