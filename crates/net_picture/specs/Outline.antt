-- A drawing is the same in each state, but for its colours and the wires within funnels.
use Rattle.std.specs.Prelude.{◌≡◌, ◌+◌, ◌==◌, ◌&&◌, Bool, false, List, [], ◌∷◌, ◌++◌, cond, Option, Some}
use Rattle.std.specs.Prelude.{None}
use Rattle.net_graph.specs.declared.net.Net.{Net}
use Rattle.net_graph.specs.Signals.{Holds}
use Rattle.net_tree.specs.Form.{Items}
use Rattle.net_picture.specs.declared.shape.Shape.{Shape}
use Rattle.net_picture.specs.declared.shape.Shape.TheVariants.{Register, Mux, Values, Wire}
use Rattle.net_picture.specs.Drawing.{drawing_of}

-- a shape without its colour
abbrev pub bare : Shape → Shape
bare (Register r x y width active) = Register r x y width false
bare (Mux m x y height active) = Mux m x y height false
bare (Values m q x y) = Values m q x y
bare (Wire x y turn to_x to_y active) = Wire x y turn to_x to_y false

-- the wire within a funnel comes after the select values of its row, turns in the middle of the funnel, and
-- ends at its right side
abbrev pub is_within : Option Shape → Shape → Bool
is_within (Some (Values m q x y)) (Wire from_x from_y turn to_x to_y active) =
    (turn == x + 7) && (to_x == x + 14)
is_within before shape = false

-- what is left of shapes that come after another one
abbrev pub outline_after : Option Shape → List Shape → List Shape
outline_after before [] = []
outline_after before (s ∷ ss) = cond (is_within before s) [] (bare s ∷ []) ++ outline_after (Some s) ss

abbrev pub outline : List Shape → List Shape
outline shapes = outline_after None shapes

-- so each row that some state selects is drawn in all states as the line in colour goes then
abbrev pub OutlinesAreOne : Type 0
OutlinesAreOne =
    (net : Net) (form : Items) (one other : Holds)
    → outline (drawing_of net one form).shapes ≡ outline (drawing_of net other form).shapes
