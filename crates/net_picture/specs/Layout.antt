-- The shapes of a nested form: boxes, funnels and wires, from scan-in to scan-out. A list of items is a line,
-- which is broken where it is long; the rows of a multiplexer stand one below the other between the place
-- where they part and the funnel.
use Rattle.std.specs.Prelude.{ℕ, suc, ◌+◌, ◌-◌, ◌==◌, ◌&&◌, Bool, false, List, [], ◌∷◌, ◌++◌, cond, Option}
use Rattle.std.specs.Prelude.{Some, None}
use Rattle.net_tree.specs.Form.{Items, Nothing, RegThen, MuxThen, Rows, NoRow, RowThen}
use Rattle.net_picture.specs.declared.plan.MuxPlan.{MuxPlan}
use Rattle.net_picture.specs.declared.pen.Pen.{Pen}
use Rattle.net_picture.specs.declared.pen.Fan.{Fan}
use Rattle.net_picture.specs.declared.shape.Shape.{Shape}
use Rattle.net_picture.specs.declared.shape.Shape.TheVariants.{Register, Mux, Values, Wire}
use Rattle.net_picture.specs.declared.shape.RowEnd.{RowEnd}
use Rattle.net_picture.specs.Pens.{start_at, is_full, next_wire_start, after_register, fan_at, after_row}
use Rattle.net_picture.specs.Pens.{funnel_at}
use Rattle.net_picture.specs.Pens.{after_mux}
use Rattle.net_picture.specs.Plan.{Plan, box_of, mux_of}

-- where items and rows end
abbrev mutual
  pub pen_after : Plan → Pen → Items → Pen
  pen_after plan p Nothing = p
  pen_after plan p (RegThen r rest) = pen_after plan (after_register (next_wire_start p) (box_of plan r)) rest
  pen_after plan p (MuxThen m rows rest) =
      pen_after plan (after_mux (next_wire_start p) (fan_after plan (fan_at (next_wire_start p)) rows)
      (mux_of plan m).values (mux_of plan m).name) rest

  pub fan_after : Plan → Fan → Rows → Fan
  fan_after plan f NoRow = f
  fan_after plan f (RowThen items rest) =
      fan_after plan (after_row f (pen_after plan (start_at f.x f.y) items)) rest

-- where the wire of each row ends
abbrev pub row_ends : Plan → Fan → Rows → List RowEnd
row_ends plan f NoRow = []
row_ends plan f (RowThen items rest) =
    let p = pen_after plan (start_at f.x f.y) items in
    record { x = p.x; y = p.y } ∷ row_ends plan (after_row f p) rest

-- whether the row that is selected is row q
abbrev pub is_selected_row : Option ℕ → ℕ → Bool
is_selected_row None q = false
is_selected_row (Some k) q = k == q

-- the wire from the end of a line that is full to the beginning of the next one, and the wire to the next
-- item
abbrev pub turn_back : Bool → Pen → List Shape
turn_back active p =
    cond (is_full p) (Wire p.x p.y (p.x + 9) p.left (p.bottom + 4) active
    ∷ Wire p.left (p.bottom + 4) p.left p.left (p.bottom + 30) active ∷ []) []

abbrev pub wire_to : Bool → Pen → List Shape
wire_to active p =
    turn_back active p ++ Wire (next_wire_start p).x (next_wire_start p).y (next_wire_start p).x
    ((next_wire_start p).x + 18) (next_wire_start p).y active ∷ []

-- the wire from the place where rows part to the beginning of a row
abbrev pub row_wire : Bool → Pen → Fan → Shape
row_wire active p f = Wire (p.x + 18) p.y (p.x + 26) f.x f.y active

-- the wire within a funnel that is at x, with its output at y, from the row that is selected
abbrev pub row_shown : Bool → Bool → ℕ → ℕ → RowEnd → List Shape
row_shown selected active x y e = cond selected (Wire x e.y (x + 7) (x + 14) y active ∷ []) []

-- the wire from the end of a row to the funnel, and the row's select values
abbrev pub row_close : Bool → Bool → ℕ → ℕ → ℕ → ℕ → RowEnd → List Shape
row_close selected active m q x y e =
    Wire e.x e.y e.x x e.y (active && selected) ∷ (Values m q x e.y ∷ row_shown selected active x y e)

abbrev pub row_closes : Bool → Option ℕ → ℕ → ℕ → ℕ → ℕ → List RowEnd → List Shape
row_closes active row m q x y [] = []
row_closes active row m q x y (e ∷ es) =
    row_close (is_selected_row row q) active m q x y e ++ row_closes active row m (suc q) x y es

-- the funnel with its output wire
abbrev pub mux_close : Bool → MuxPlan → ℕ → Pen → Fan → List RowEnd → List Shape
mux_close active part m p f ends =
    let x = funnel_at f part.values in
    (Mux m x p.y (f.last - p.y) active ∷ row_closes active part.row m 0 x p.y ends)
    ++ Wire (x + 14) p.y (x + 14) (x + 14 + part.name) p.y active ∷ []

-- the shapes of items whose list is on the active path or isn't
abbrev mutual
  pub drawn : Plan → Bool → Pen → Items → List Shape
  drawn plan active p Nothing = []
  drawn plan active p (RegThen r rest) =
      (wire_to active p ++ Register r ((next_wire_start p).x + 18) (next_wire_start p).y (box_of plan r)
      active ∷ [])
      ++ drawn plan active (after_register (next_wire_start p) (box_of plan r)) rest
  drawn plan active p (MuxThen m rows rest) =
      (wire_to active p ++ (rows_drawn plan active (mux_of plan m).row (next_wire_start p) 0 (fan_at
      (next_wire_start p)) rows
      ++ mux_close active (mux_of plan m) m (next_wire_start p) (fan_after plan (fan_at (next_wire_start p))
      rows)
      (row_ends plan (fan_at (next_wire_start p)) rows))) ++ drawn plan active (after_mux (next_wire_start p)
      (fan_after plan (fan_at (next_wire_start p)) rows) (mux_of plan m).values (mux_of plan m).name) rest

  pub rows_drawn : Plan → Bool → Option ℕ → Pen → ℕ → Fan → Rows → List Shape
  rows_drawn plan active row p q f NoRow = []
  rows_drawn plan active row p q f (RowThen items rest) =
      (row_wire (active && is_selected_row row q) p f ∷ drawn plan (active && is_selected_row row q)
      (start_at f.x f.y) items)
      ++ rows_drawn plan active row p (suc q) (after_row f (pen_after plan (start_at f.x f.y) items)) rest

-- a multiplexer with its rows, and where the list goes on after it
abbrev pub mux_drawn : Plan → Bool → Pen → ℕ → Rows → List Shape
mux_drawn plan active p m rows =
    wire_to active p ++ (rows_drawn plan active (mux_of plan m).row (next_wire_start p) 0 (fan_at
    (next_wire_start p)) rows
    ++ mux_close active (mux_of plan m) m (next_wire_start p) (fan_after plan (fan_at (next_wire_start p))
    rows)
    (row_ends plan (fan_at (next_wire_start p)) rows))

abbrev pub pen_past : Plan → Pen → ℕ → Rows → Pen
pen_past plan p m rows =
    after_mux (next_wire_start p) (fan_after plan (fan_at (next_wire_start p)) rows) (mux_of plan m).values
    (mux_of plan m).name

-- a register after its wire
abbrev pub register_drawn : Bool → Pen → ℕ → ℕ → List Shape
register_drawn active p r width =
    wire_to active p ++ Register r ((next_wire_start p).x + 18) (next_wire_start p).y width active ∷ []
