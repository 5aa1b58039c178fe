-- What is in colour is one line from TDI to TDO.
use Rattle.std.specs.Prelude.{◌≡◌, ◌+◌, ℕ, List, [], ◌∷◌, cond, Some, None}
use Rattle.std.specs.List.{flat_map}
use Rattle.net_graph.specs.declared.net.Net.{Net}
use Rattle.net_graph.specs.Path.{path}
use Rattle.net_graph.specs.Signals.{Holds}
use Rattle.net_tree.specs.Form.{Items, Describes}
use Rattle.net_picture.specs.declared.shape.Shape.{Shape}
use Rattle.net_picture.specs.declared.shape.Shape.TheVariants.{Register, Mux, Values, Wire}
use Rattle.net_picture.specs.Drawing.{drawing_of}
use Rattle.net_picture.specs.Marked.{active_boxes_in}

-- from one place to another
pub record Lead : Type 0 where
  pub x : ℕ
  pub y : ℕ
  pub to_x : ℕ
  pub to_y : ℕ

-- a box in colour leads from its left side to its right one, a wire from one end to the other; through a
-- funnel leads the wire within it
abbrev pub lead_of : Shape → List Lead
lead_of (Register r x y width active) =
    cond active (record { x = x; y = y; to_x = x + width; to_y = y } ∷ []) []
lead_of (Mux m x y height active) = []
lead_of (Values m q x y) = []
lead_of (Wire x y turn to_x to_y active) =
    cond active (record { x = x; y = y; to_x = to_x; to_y = to_y } ∷ []) []

abbrev pub leads_in : List Shape → List Lead
leads_in shapes = flat_map lead_of shapes

-- each begins where the one before it ended
abbrev pub IsLine : ℕ → ℕ → List Lead → ℕ → ℕ → Type 0
IsLine x y [] to_x to_y = (x ≡ to_x) × (y ≡ to_y)
IsLine x y (l ∷ ls) to_x to_y = (x ≡ l.x) × (y ≡ l.y) × IsLine l.to_x l.to_y ls to_x to_y

-- where there is an active path, what is in colour leads from the beginning of the wire from TDI to the end
-- of the wire to TDO
abbrev pub DrawingsAreLines : Type 0
DrawingsAreLines =
    (net : Net) (form : Items) (holds : Holds) (registers : List ℕ)
    → Describes net form → path net holds ≡ Some registers
    → IsLine 48 36 (leads_in (drawing_of net holds form).shapes)
    (drawing_of net holds form).x (drawing_of net holds form).y

-- where there is no active path nothing is in colour
abbrev pub DrawingsWithoutPath : Type 0
DrawingsWithoutPath =
    (net : Net) (form : Items) (holds : Holds) → path net holds ≡ None
    → (active_boxes_in (drawing_of net holds form).shapes ≡ [])
    × (leads_in (drawing_of net holds form).shapes ≡ [])
