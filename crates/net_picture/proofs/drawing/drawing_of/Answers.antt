use Rattle.std.proofs.Common.{sym, ap, subst}
use Rattle.std.specs.Prelude.{All}
use Rattle.net_picture.specs.Drawing.{Drawing}
use Rattle.net_picture.specs.Plan.{plan_of, seen_plan, has_path}
use Rattle.net_picture.specs.There.{IsShapeOf}
use Rattle.net_picture.proofs.Named.{drawing_is, form_there}
use Rattle.net_picture.proofs.drawing.drawing_of.Goals as goal

pub returns-clause-drawing : goal.returns-clause-drawing
returns-clause-drawing c =
    let drew = c.in_ok-end.ensures c.args.tree.now c.entries.ensures in
    drawing_is c.args.net.now c.args.holds.now c.args.tree.now c.in_ok-on.on (seen_plan c.in_ok-plan.plan)
    c.in_ok-start.start c.in_ok-end.end c.new-shapes.result.items c.draw_items.new.shapes.items
    c.push.new.self.items c.in_ok-x.x c.in_ok-width.width c.in_ok-height.height
    c.in_ok-on.ensures c.in_ok-plan.ensures c.in_ok-start.ensures drew.0 c.new-shapes.ensures.items drew.1
    c.in_ok-push.ensures.items c.in_ok-x.ensures c.in_ok-width.ensures c.in_ok-height.ensures

pub returns-clause-there : goal.returns-clause-there
returns-clause-there c =
    subst (All (IsShapeOf c.args.net.now)) (sym (ap (λ (d : Drawing). d.shapes) (returns-clause-drawing c)))
    (form_there c.args.net.now (plan_of c.args.net.now c.args.holds.now)
    (has_path c.args.net.now c.args.holds.now) c.args.tree.now c.requires.form)
