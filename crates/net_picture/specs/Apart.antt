-- No two boxes or funnels of a drawing share a point, and all lie in the view.
use Rattle.std.specs.Prelude.{◌<◌, ◌≤◌, ◌+◌, ◌-◌, ℕ, List, [], ◌∷◌, All}
use Rattle.std.specs.List.{flat_map}
use Rattle.net_graph.specs.declared.net.Net.{Net}
use Rattle.net_graph.specs.Signals.{Holds}
use Rattle.net_tree.specs.Form.{Items}
use Rattle.net_picture.specs.declared.shape.Shape.{Shape}
use Rattle.net_picture.specs.declared.shape.Shape.TheVariants.{Register, Mux, Values, Wire}
use Rattle.net_picture.specs.Drawing.{drawing_of}

-- a rectangle of the view, without its right and its lower edge
pub record Area : Type 0 where
  pub left : ℕ
  pub right : ℕ
  pub top : ℕ
  pub bottom : ℕ

pub record Covers (a : Area) (x y : ℕ) : Type 0 where
  pub from_left : a.left ≤ x
  pub to_right : x < a.right
  pub from_top : a.top ≤ y
  pub to_bottom : y < a.bottom

-- a box is 26 high, a funnel 14 wide
abbrev pub area_of : Shape → List Area
area_of (Register r x y width active) =
    record { left = x; right = x + width; top = y - 13; bottom = y + 13 } ∷ []
area_of (Mux m x y height active) =
    record { left = x; right = x + 14; top = y - 13; bottom = y + height + 13 } ∷ []
area_of (Values m q x y) = []
area_of (Wire x y turn to_x to_y active) = []

abbrev pub areas_in : List Shape → List Area
areas_in shapes = flat_map area_of shapes

abbrev pub SharesNone : Area → Area → Type 0
SharesNone a b = (x y : ℕ) → Covers a x y → ¬ Covers b x y

abbrev pub AreApart : List Area → Type 0
AreApart [] = Unit {0}
AreApart (a ∷ others) = All (SharesNone a) others × AreApart others

-- none of it is over the upper edge: it is as high as it is drawn, 26 or more
pub record IsWithin (width height : ℕ) (a : Area) : Type 0 where
  pub whole : a.top + 26 ≤ a.bottom
  pub right : a.right ≤ width
  pub bottom : a.bottom ≤ height

abbrev pub DrawingsAreApart : Type 0
DrawingsAreApart =
    (net : Net) (form : Items) (holds : Holds)
    → AreApart (areas_in (drawing_of net holds form).shapes)
    × All (IsWithin (drawing_of net holds form).width (drawing_of net holds form).height)
    (areas_in (drawing_of net holds form).shapes)
