use Rattle.std.proofs.lemmas.List.{get_or_default}
use Rattle.ij_io.proofs.Adding.{at_refusal, words_part}
use Rattle.net_picture.specs.Svg.{text_in_layer}
use Rattle.net_picture.proofs.svg.put_layer.Goals as goal

pub returns-in_err-put_in_layer-clause-part : goal.returns-in_err-put_in_layer-clause-part
returns-in_err-put_in_layer-clause-part g c =
    at_refusal c.from_residual.result (words_part (text_in_layer c.args.net.now c.args.layer)
    c.args.shapes.now c.loop-shape.shape-index c.loop-shape-test.true (get_or_default _ _ _ _
    c.loop-shape-test.true) c.loop-shape.invariant.so_far c.in_err-put_in_layer.ensures.part)
