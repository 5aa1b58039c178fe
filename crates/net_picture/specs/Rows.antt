-- The wire of a row into its multiplexer is in colour exactly where the row is on the active scan path.
use Rattle.std.specs.Prelude.{◌≡◌, ◌<◌, ℕ, ◌==◌, ◌&&◌, Bool, List, [], ◌∷◌, ◌++◌, cond, length, Option, Some}
use Rattle.std.specs.Prelude.{None}
use Rattle.net_graph.specs.declared.net.Net.{Net}
use Rattle.net_graph.specs.Path.{rows_of}
use Rattle.net_graph.specs.Signals.{Holds}
use Rattle.net_tree.specs.Form.{Items, Describes}
use Rattle.net_picture.specs.declared.shape.Shape.{Shape}
use Rattle.net_picture.specs.declared.shape.Shape.TheVariants.{Values, Wire}
use Rattle.net_picture.specs.Drawing.{drawing_of}
use Rattle.net_picture.specs.Met.{is_row_met}

abbrev pub next_of : List Shape → Option Shape
next_of [] = None
next_of (s ∷ ss) = Some s

-- whether a wire is in colour that ends where the next shape has the select values of row q of multiplexer m
abbrev pub wire_into : ℕ → ℕ → Shape → Option Shape → List Bool
wire_into m q (Wire x y turn to_x to_y active) (Some (Values k p at_x at_y)) =
    cond ((k == m) && ((p == q) && ((to_x == at_x) && (to_y == at_y)))) (active ∷ []) []
wire_into m q shape next = []

abbrev pub row_colours : ℕ → ℕ → List Shape → List Bool
row_colours m q [] = []
row_colours m q (s ∷ ss) = wire_into m q s (next_of ss) ++ row_colours m q ss

-- each row of each multiplexer has one wire to its select values at the funnel, and this is in colour exactly
-- where the multiplexer is on the active path and the row is the one that is selected
abbrev pub RowsAreMarked : Type 0
RowsAreMarked =
    (net : Net) (form : Items) (holds : Holds) (m q : ℕ) → Describes net form
    → m < length net.muxes.items → q < length (rows_of net m)
    → row_colours m q (drawing_of net holds form).shapes ≡ is_row_met net holds m q ∷ []
