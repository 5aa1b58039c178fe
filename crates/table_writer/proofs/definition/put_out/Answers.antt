use Rattle.std.proofs.Common.{refl}
use Rattle.ij_io.proofs.Adding.{adds_both, adds_front, adds_then_part, at_refusal, adds_part_as, adds_as}
use Rattle.instruments.specs.Models.{word_width}
use Rattle.instruments.specs.Seen.{seen_model, seen_out}
use Rattle.table_writer.proofs.Pieced.{out_pieces}
use Rattle.table_writer.proofs.definition.put_out.Goals as goal

pub returns-in_err-put_out_front-clause-part : goal.returns-in_err-put_out_front-clause-part
returns-in_err-put_out_front-clause-part g c = at_refusal c.from_residual.result
    (adds_part_as (out_pieces (seen_model c.args.m.now) (seen_out c.args.d.now) (word_width
    (seen_model c.args.m.now) c.args.d.now.word) refl) (adds_front _ c.in_err-put_out_front.ensures.part))

pub returns-in_err-put_bounds-clause-part : goal.returns-in_err-put_bounds-clause-part
returns-in_err-put_bounds-clause-part g c =
    at_refusal c.from_residual-in_err-put_bounds.result (adds_part_as (out_pieces (seen_model c.args.m.now)
    (seen_out c.args.d.now) c.word_width.result c.word_width.ensures.value)
    (adds_then_part c.in_ok-put_out_front.ensures.whole (adds_front _ c.in_err-put_bounds.ensures.part)))

pub returns-in_err-write-clause-part : goal.returns-in_err-write-clause-part
returns-in_err-write-clause-part g c = at_refusal c.from_residual-in_err-write.result
    (adds_part_as (out_pieces (seen_model c.args.m.now) (seen_out c.args.d.now) c.word_width.result
    c.word_width.ensures.value) (adds_then_part c.in_ok-put_out_front.ensures.whole
    (adds_then_part c.in_ok-put_bounds.ensures.whole c.in_err-write.ensures.part)))

pub returns-clause-whole : goal.returns-clause-whole
returns-clause-whole g c = adds_as (out_pieces (seen_model c.args.m.now) (seen_out c.args.d.now)
    c.word_width.result c.word_width.ensures.value) (adds_both c.in_ok-put_out_front.ensures.whole
    (adds_both c.in_ok-put_bounds.ensures.whole c.in_ok-write.ensures.whole))
