-- The boxes and funnels in colour are what is met on the active scan path (IEEE 1687-2014: active scan path).
use Rattle.std.specs.Prelude.{◌≡◌, ◌<◌, ℕ, ◌==◌, Bool, List, [], ◌∷◌, cond, length, Some}
use Rattle.std.specs.List.{flat_map}
use Rattle.net_graph.specs.declared.net.Net.{Net}
use Rattle.net_graph.specs.Path.{path}
use Rattle.net_graph.specs.Signals.{Holds}
use Rattle.net_tree.specs.Form.{Items, Describes}
use Rattle.net_picture.specs.declared.shape.Shape.{Shape}
use Rattle.net_picture.specs.declared.shape.Shape.TheVariants.{Register, Mux, Values, Wire}
use Rattle.net_picture.specs.Drawing.{drawing_of}
use Rattle.net_picture.specs.Met.{is_mux_met}

-- the register of a box in colour
abbrev pub active_box_of : Shape → List ℕ
active_box_of (Register r x y width active) = cond active (r ∷ []) []
active_box_of (Mux m x y height active) = []
active_box_of (Values m q x y) = []
active_box_of (Wire x y turn to_x to_y active) = []

abbrev pub active_boxes_in : List Shape → List ℕ
active_boxes_in shapes = flat_map active_box_of shapes

-- where there is an active path, the boxes in colour, in the order of the drawing, are its registers from
-- scan-in to scan-out
abbrev pub DrawingsAreMarked : Type 0
DrawingsAreMarked =
    (net : Net) (form : Items) (holds : Holds) (registers : List ℕ)
    → Describes net form → path net holds ≡ Some registers
    → active_boxes_in (drawing_of net holds form).shapes ≡ registers

-- whether the funnel of a multiplexer is in colour, once for each funnel that it has
abbrev pub funnel_colour : ℕ → Shape → List Bool
funnel_colour k (Register r x y width active) = []
funnel_colour k (Mux m x y height active) = cond (m == k) (active ∷ []) []
funnel_colour k (Values m q x y) = []
funnel_colour k (Wire x y turn to_x to_y active) = []

abbrev pub funnel_colours : ℕ → List Shape → List Bool
funnel_colours k shapes = flat_map (funnel_colour k) shapes

-- a multiplexer has one funnel, which is in colour exactly where the multiplexer is on the active path
abbrev pub FunnelsAreMarked : Type 0
FunnelsAreMarked =
    (net : Net) (form : Items) (holds : Holds) (m : ℕ) → Describes net form → m < length net.muxes.items
    → funnel_colours m (drawing_of net holds form).shapes ≡ is_mux_met net holds m ∷ []
