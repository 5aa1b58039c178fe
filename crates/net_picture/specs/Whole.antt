-- Each register has one box in a drawing, and each multiplexer one funnel.
use Rattle.std.specs.Prelude.{ℕ, List, [], ◌∷◌, length}
use Rattle.std.specs.List.{flat_map}
use Rattle.net_graph.specs.declared.net.Net.{Net}
use Rattle.net_graph.specs.Signals.{Holds}
use Rattle.net_tree.specs.Form.{Items, Describes, IsEachOnce}
use Rattle.net_picture.specs.declared.shape.Shape.{Shape}
use Rattle.net_picture.specs.declared.shape.Shape.TheVariants.{Register, Mux, Values, Wire}
use Rattle.net_picture.specs.Drawing.{drawing_of}

-- the register of a box
abbrev pub box_of_shape : Shape → List ℕ
box_of_shape (Register r x y width active) = r ∷ []
box_of_shape (Mux m x y height active) = []
box_of_shape (Values m q x y) = []
box_of_shape (Wire x y turn to_x to_y active) = []

-- the multiplexer of a funnel
abbrev pub funnel_of_shape : Shape → List ℕ
funnel_of_shape (Register r x y width active) = []
funnel_of_shape (Mux m x y height active) = m ∷ []
funnel_of_shape (Values m q x y) = []
funnel_of_shape (Wire x y turn to_x to_y active) = []

abbrev pub boxes_in : List Shape → List ℕ
boxes_in shapes = flat_map box_of_shape shapes

abbrev pub funnels_in : List Shape → List ℕ
funnels_in shapes = flat_map funnel_of_shape shapes

abbrev pub DrawingsAreWhole : Type 0
DrawingsAreWhole =
    (net : Net) (form : Items) (holds : Holds) → Describes net form
    → IsEachOnce (length net.regs.items) (boxes_in (drawing_of net holds form).shapes)
    × IsEachOnce (length net.muxes.items) (funnels_in (drawing_of net holds form).shapes)
