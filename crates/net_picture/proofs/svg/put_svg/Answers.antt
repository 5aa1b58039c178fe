use Rattle.std.proofs.Common.{List, ap, ◌∙◌}
use Rattle.ij_io.proofs.Adding.{whole_as, part_as}
use Rattle.net_picture.specs.declared.shape.Shape.{Shape}
use Rattle.net_picture.specs.Svg.{drawing_text, view_text}
use Rattle.net_picture.proofs.svg.put_svg.Goals as goal

pub returns-clause-whole : goal.returns-clause-whole
returns-clause-whole g c =
    whole_as c.put_drawing.result (g.K.Sink.taken c.args.k.now) (g.K.Sink.taken c.put_drawing.new.k)
    (ap (λ (shapes : List Shape). view_text c.args.net.now c.in_ok-drawing.drawing.view shapes)
    c.deref.ensures.value ∙ ap (drawing_text c.args.net.now) c.in_ok-drawing.ensures.drawing)
    c.put_drawing.ensures.whole

pub returns-clause-part : goal.returns-clause-part
returns-clause-part g c =
    part_as c.put_drawing.result (g.K.Sink.taken c.args.k.now) (g.K.Sink.taken c.put_drawing.new.k)
    (ap (λ (shapes : List Shape). view_text c.args.net.now c.in_ok-drawing.drawing.view shapes)
    c.deref.ensures.value ∙ ap (drawing_text c.args.net.now) c.in_ok-drawing.ensures.drawing)
    c.put_drawing.ensures.part
