-- The drawing of a network in a state.
use Rattle.std.specs.Prelude.{ℕ, ◌+◌, Bool, List, [], ◌∷◌, ◌++◌}
use Rattle.net_graph.specs.declared.net.Net.{Net}
use Rattle.net_graph.specs.Signals.{Holds}
use Rattle.net_tree.specs.Form.{Items}
use Rattle.net_picture.specs.declared.drawing.Drawing.{Drawing as Drawn}
use Rattle.net_picture.specs.declared.pen.Pen.{Pen}
use Rattle.net_picture.specs.declared.shape.Shape.{Shape}
use Rattle.net_picture.specs.declared.shape.Shape.TheVariants.{Wire}
use Rattle.net_picture.specs.Layout.{drawn, pen_after}
use Rattle.net_picture.specs.Pens.{start_at}
use Rattle.net_picture.specs.Plan.{Plan, has_path, plan_of}

-- the shapes, the size of the view, and where TDO is written
pub record Drawing : Type 0 where
  pub shapes : List Shape
  pub width : ℕ
  pub height : ℕ
  pub x : ℕ
  pub y : ℕ

-- the wire from TDI begins here
abbrev pub first_pen : Pen
first_pen = start_at 48 36

-- the items, and the wire to TDO; in colour only where there is an active path
abbrev pub shapes_of : Bool → Plan → Items → List Shape
shapes_of on plan form =
    let p = pen_after plan first_pen form in
    drawn plan on first_pen form ++ Wire p.x p.y p.x (p.x + 18) p.y on ∷ []

abbrev pub drawing_by : Bool → Plan → Items → Drawing
drawing_by on plan form =
    let p = pen_after plan first_pen form in
    record {
      shapes = shapes_of on plan form;
      width = p.right + 66;
      height = p.bottom + 20;
      x = p.x + 18;
      y = p.y;
    }

abbrev pub drawing_of : Net → Holds → Items → Drawing
drawing_of net holds form = drawing_by (has_path net holds) (plan_of net holds) form

abbrev pub seen_drawing : Drawn → Drawing
seen_drawing d =
    record {
      shapes = d.shapes.items;
      width = d.view.width;
      height = d.view.height;
      x = d.view.x;
      y = d.view.y;
    }
