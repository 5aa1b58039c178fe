use Rattle.ij_io.proofs.Adding.{adds_both, adds_front, adds_then_part, at_refusal}
use Rattle.net_picture.proofs.svg.put_drawing.Goals as goal

pub returns-in_err-put_size-clause-part : goal.returns-in_err-put_size-clause-part
returns-in_err-put_size-clause-part g c =
    at_refusal c.from_residual.result (adds_front _ c.in_err-put_size.ensures.part)

pub returns-in_err-put_style-clause-part : goal.returns-in_err-put_style-clause-part
returns-in_err-put_style-clause-part g c = at_refusal c.from_residual-in_err-put_style.result
    (adds_then_part c.in_ok-put_size.ensures.whole (adds_front _ c.in_err-put_style.ensures.part))

pub returns-in_err-put_ground_and_ends-clause-part : goal.returns-in_err-put_ground_and_ends-clause-part
returns-in_err-put_ground_and_ends-clause-part g c =
    at_refusal c.from_residual-in_err-put_ground_and_ends.result (adds_then_part
    c.in_ok-put_size.ensures.whole
    (adds_then_part c.in_ok-put_style.ensures.whole (adds_front _ c.in_err-put_ground_and_ends.ensures.part)))

pub returns-in_err-put_layer-clause-part : goal.returns-in_err-put_layer-clause-part
returns-in_err-put_layer-clause-part g c = at_refusal c.from_residual-in_err-put_layer.result
    (adds_then_part c.in_ok-put_size.ensures.whole (adds_then_part c.in_ok-put_style.ensures.whole
    (adds_then_part c.in_ok-put_ground_and_ends.ensures.whole (adds_front _
    c.in_err-put_layer.ensures.part))))

pub returns-in_err-put_layer-2-clause-part : goal.returns-in_err-put_layer-2-clause-part
returns-in_err-put_layer-2-clause-part g c =
    at_refusal c.from_residual-in_err-put_layer-2.result (adds_then_part c.in_ok-put_size.ensures.whole
    (adds_then_part c.in_ok-put_style.ensures.whole (adds_then_part c.in_ok-put_ground_and_ends.ensures.whole
    (adds_then_part c.in_ok-put_layer.ensures.whole (adds_front _ c.in_err-put_layer-2.ensures.part)))))

pub returns-in_err-write-clause-part : goal.returns-in_err-write-clause-part
returns-in_err-write-clause-part g c = at_refusal c.from_residual-in_err-write.result
    (adds_then_part c.in_ok-put_size.ensures.whole (adds_then_part c.in_ok-put_style.ensures.whole
    (adds_then_part c.in_ok-put_ground_and_ends.ensures.whole (adds_then_part c.in_ok-put_layer.ensures.whole
    (adds_then_part c.in_ok-put_layer-2.ensures.whole c.in_err-write.ensures.part)))))

pub returns-clause-whole : goal.returns-clause-whole
returns-clause-whole g c = adds_both c.in_ok-put_size.ensures.whole (adds_both c.in_ok-put_style.ensures.whole
    (adds_both c.in_ok-put_ground_and_ends.ensures.whole (adds_both c.in_ok-put_layer.ensures.whole
    (adds_both c.in_ok-put_layer-2.ensures.whole c.in_ok-write.ensures.whole))))
