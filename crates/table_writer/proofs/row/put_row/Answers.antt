use Rattle.std.proofs.Common.{refl}
use Rattle.ij_io.proofs.Adding.{adds_both, adds_front, adds_then_part, at_refusal, adds_part_as, adds_as}
use Rattle.instruments.specs.Seen.{seen_model, seen_row}
use Rattle.table_writer.proofs.Pieced.{row_pieces}
use Rattle.table_writer.proofs.row.put_row.Goals as goal

pub returns-in_err-write-clause-part : goal.returns-in_err-write-clause-part
returns-in_err-write-clause-part g c =
    at_refusal c.from_residual.result (adds_part_as (row_pieces (seen_model c.args.m.now) c.args.kind.now
    (seen_row c.args.row.now) c.args.row.now.conds.items c.args.row.now.sets.items refl refl)
    (adds_front _ c.in_err-write.ensures.part))

pub returns-in_err-put_when-clause-part : goal.returns-in_err-put_when-clause-part
returns-in_err-put_when-clause-part g c =
    at_refusal c.from_residual-in_err-put_when.result
    (adds_part_as (row_pieces (seen_model c.args.m.now) c.args.kind.now
    (seen_row c.args.row.now) c.as_slice.result.now c.args.row.now.sets.items c.as_slice.ensures refl)
    (adds_then_part c.in_ok-write.ensures.whole (adds_front _ c.in_err-put_when.ensures.part)))

pub returns-in_err-write-2-clause-part : goal.returns-in_err-write-2-clause-part
returns-in_err-write-2-clause-part g c =
    at_refusal c.from_residual-in_err-write-2.result
    (adds_part_as (row_pieces (seen_model c.args.m.now) c.args.kind.now
    (seen_row c.args.row.now) c.as_slice.result.now c.args.row.now.sets.items c.as_slice.ensures refl)
    (adds_then_part c.in_ok-write.ensures.whole
    (adds_then_part c.in_ok-put_when.ensures.whole (adds_front _ c.in_err-write-2.ensures.part))))

pub returns-in_err-put_sets-clause-part : goal.returns-in_err-put_sets-clause-part
returns-in_err-put_sets-clause-part g c =
    at_refusal c.from_residual-in_err-put_sets.result
    (adds_part_as (row_pieces (seen_model c.args.m.now) c.args.kind.now (seen_row c.args.row.now)
    c.as_slice.result.now c.as_slice-2.result.now c.as_slice.ensures c.as_slice-2.ensures)
    (adds_then_part c.in_ok-write.ensures.whole (adds_then_part c.in_ok-put_when.ensures.whole
    (adds_then_part c.in_ok-write-2.ensures.whole (adds_front _ c.in_err-put_sets.ensures.part)))))

pub returns-in_err-write-3-clause-part : goal.returns-in_err-write-3-clause-part
returns-in_err-write-3-clause-part g c =
    at_refusal c.from_residual-in_err-write-3.result
    (adds_part_as (row_pieces (seen_model c.args.m.now) c.args.kind.now (seen_row c.args.row.now)
    c.as_slice.result.now c.as_slice-2.result.now c.as_slice.ensures c.as_slice-2.ensures)
    (adds_then_part c.in_ok-write.ensures.whole
    (adds_then_part c.in_ok-put_when.ensures.whole (adds_then_part c.in_ok-write-2.ensures.whole
    (adds_then_part c.in_ok-put_sets.ensures.whole c.in_err-write-3.ensures.part)))))

pub returns-clause-whole : goal.returns-clause-whole
returns-clause-whole g c =
    adds_as (row_pieces (seen_model c.args.m.now) c.args.kind.now (seen_row c.args.row.now)
    c.as_slice.result.now c.as_slice-2.result.now c.as_slice.ensures c.as_slice-2.ensures)
    (adds_both c.in_ok-write.ensures.whole
    (adds_both c.in_ok-put_when.ensures.whole (adds_both c.in_ok-write-2.ensures.whole
    (adds_both c.in_ok-put_sets.ensures.whole c.in_ok-write-3.ensures.whole))))
