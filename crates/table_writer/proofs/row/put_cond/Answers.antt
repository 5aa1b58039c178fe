use Rattle.ij_io.proofs.Adding.{adds_both, adds_front, adds_then_part, at_refusal, adds_part_as, adds_as}
use Rattle.instruments.specs.Seen.{seen_model}
use Rattle.table_writer.proofs.Pieced.{cond_pieces}
use Rattle.table_writer.proofs.row.put_cond.Goals as goal

pub returns-in_err-put_operand-clause-part : goal.returns-in_err-put_operand-clause-part
returns-in_err-put_operand-clause-part g c =
    at_refusal c.from_residual.result (adds_front _ c.in_err-put_operand.ensures.part)

pub returns-in_err-write-clause-part : goal.returns-in_err-write-clause-part
returns-in_err-write-clause-part g c = at_refusal c.from_residual-in_err-write.result
    (adds_then_part c.in_ok-put_operand.ensures.whole (adds_front _ c.in_err-write.ensures.part))

pub returns-in_err-put_compared-clause-part : goal.returns-in_err-put_compared-clause-part
returns-in_err-put_compared-clause-part g c = at_refusal c.from_residual-in_err-put_compared.result
    (adds_part_as (cond_pieces (seen_model c.args.m.now) c.args.c.now c.operand_width.result
    c.operand_width.ensures.value) (adds_then_part c.in_ok-put_operand.ensures.whole
    (adds_then_part c.in_ok-write.ensures.whole c.in_err-put_compared.ensures.part)))

pub returns-clause-whole : goal.returns-clause-whole
returns-clause-whole g c = adds_as (cond_pieces (seen_model c.args.m.now) c.args.c.now c.operand_width.result
    c.operand_width.ensures.value) (adds_both c.in_ok-put_operand.ensures.whole
    (adds_both c.in_ok-write.ensures.whole c.in_ok-put_compared.ensures.whole))
