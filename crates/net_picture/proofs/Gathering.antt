-- What is picked of the shapes of a form, in their order, where nothing is picked of wires and select values.
use Rattle.std.proofs.Common.{◌≡◌, ℕ, suc, ◌+◌, ◌-◌, Bool, true, false, List, [], ◌∷◌, ◌++◌, Option, refl, ap}
use Rattle.std.proofs.Common.{◌∙◌, append-nil}
use Rattle.std.specs.Prelude.{cond, ◌&&◌}
use Rattle.std.specs.List.{flat_map}
use Rattle.std.proofs.lemmas.Grind.{flat_map-append}
use Rattle.net_tree.specs.Form.{Rows}
use Rattle.net_picture.specs.declared.plan.MuxPlan.{MuxPlan}
use Rattle.net_picture.specs.declared.pen.Pen.{Pen}
use Rattle.net_picture.specs.declared.pen.Fan.{Fan}
use Rattle.net_picture.specs.declared.shape.Shape.{Shape}
use Rattle.net_picture.specs.declared.shape.Shape.TheVariants.{Register, Mux, Values, Wire}
use Rattle.net_picture.specs.declared.shape.RowEnd.{RowEnd}
use Rattle.net_picture.specs.Layout.{fan_after, row_ends, rows_drawn, register_drawn, mux_drawn, mux_close}
use Rattle.net_picture.specs.Layout.{turn_back, wire_to, row_wire, row_shown, row_close, row_closes}
use Rattle.net_picture.specs.Layout.{is_selected_row}
use Rattle.net_picture.specs.Pens.{is_full, next_wire_start, fan_at, funnel_at}
use Rattle.net_picture.specs.Plan.{Plan, mux_of}

-- a register's box, and a multiplexer's funnel
abbrev pub box_shape : Bool → Pen → ℕ → ℕ → Shape
box_shape active p r width = Register r ((next_wire_start p).x + 18) (next_wire_start p).y width active

abbrev pub funnel_shape : Bool → MuxPlan → ℕ → Pen → Fan → Shape
funnel_shape active part m p g = Mux m (funnel_at g part.values) p.y (g.last - p.y) active

-- nothing is picked of wires and select values
pub record IsOfThings {T : Type 0} (f : Shape → List T) : Type 0 where
  pub values : (m q x y : ℕ) → f (Values m q x y) ≡ []
  pub wire : (x y turn to_x to_y : ℕ) (active : Bool) → f (Wire x y turn to_x to_y active) ≡ []

module _ {T : Type 0} (f : Shape → List T) (k : IsOfThings f) where
  first : (s : Shape) (ss : List Shape) → f s ≡ [] → flat_map f (s ∷ ss) ≡ flat_map f ss
  first s ss e = ap (λ (xs : List T). xs ++ flat_map f ss) e

  both : (xs ys : List Shape) (a b : List T) → flat_map f xs ≡ a
      → flat_map f ys ≡ b → flat_map f (xs ++ ys) ≡ a ++ b
  both xs ys a b p q =
      flat_map-append f xs ys ∙ ap (λ (zs : List T). zs ++ flat_map f ys) p ∙ ap (λ (zs : List T). a ++ zs) q

  turn : (active : Bool) (p : Pen) → flat_map f (turn_back active p) ≡ []
  turn active p =
      elim (is_full p) as (λ (b : Bool). flat_map f (cond b (Wire p.x p.y (p.x + 9) p.left (p.bottom + 4)
      active ∷ Wire p.left (p.bottom + 4) p.left p.left (p.bottom + 30) active ∷ []) []) ≡ []) [
        | true ↦ first (Wire p.x p.y (p.x + 9) p.left (p.bottom + 4) active)
            (Wire p.left (p.bottom + 4) p.left p.left (p.bottom + 30) active ∷ [])
            (k.wire p.x p.y (p.x + 9) p.left (p.bottom + 4) active)
            ∙ first (Wire p.left (p.bottom + 4) p.left p.left (p.bottom + 30) active) []
            (k.wire p.left (p.bottom + 4) p.left p.left (p.bottom + 30) active)
        | false ↦ refl
      ]

  wires : (active : Bool) (p : Pen) → flat_map f (wire_to active p) ≡ []
  wires active p =
      both (turn_back active p) (Wire (next_wire_start p).x (next_wire_start p).y (next_wire_start p).x
      ((next_wire_start p).x + 18)
      (next_wire_start p).y active ∷ []) [] [] (turn active p)
      (first (Wire (next_wire_start p).x (next_wire_start p).y (next_wire_start p).x ((next_wire_start p).x
      + 18) (next_wire_start p).y active) []
      (k.wire (next_wire_start p).x (next_wire_start p).y (next_wire_start p).x ((next_wire_start p).x + 18)
      (next_wire_start p).y active))

  shown : (selected active : Bool) (x y : ℕ) (e : RowEnd) → flat_map f (row_shown selected active x y e) ≡ []
  shown true active x y e =
      first (Wire x e.y (x + 7) (x + 14) y active) [] (k.wire x e.y (x + 7) (x + 14) y active)
  shown false active x y e = refl

  closes : (active : Bool) (row : Option ℕ) (m q x y : ℕ) (es : List RowEnd)
      → flat_map f (row_closes active row m q x y es) ≡ []
  closes active row m q x y [] = refl
  closes active row m q x y (e ∷ es) =
      both (row_close (is_selected_row row q) active m q x y e) (row_closes active row m (suc q) x y es) [] []
      (first (Wire e.x e.y e.x x e.y (active && is_selected_row row q)) (Values m q x e.y
      ∷ row_shown (is_selected_row row q) active x y e) (k.wire e.x e.y e.x x e.y (active && is_selected_row
      row q))
      ∙ first (Values m q x e.y) (row_shown (is_selected_row row q) active x y e) (k.values m q x e.y)
      ∙ shown (is_selected_row row q) active x y e)
      (closes active row m (suc q) x y es)

  closed : (active : Bool) (part : MuxPlan) (m : ℕ) (p : Pen) (g : Fan) (ends : List RowEnd)
      → flat_map f (mux_close active part m p g ends) ≡ f (funnel_shape active part m p g)
  closed active part m p g ends =
      let x : ℕ = funnel_at g part.values in
      let funnel : Shape = funnel_shape active part m p g in
      let inner : List Shape = row_closes active part.row m 0 x p.y ends in
      both (funnel ∷ inner)
      (Wire (x + 14) p.y (x + 14) (x + 14 + part.name) p.y active ∷ []) (f funnel ++ []) []
      (ap (λ (xs : List T). f funnel ++ xs) (closes active part.row m 0 x p.y ends))
      (first (Wire (x + 14) p.y (x + 14) (x + 14 + part.name) p.y active) []
      (k.wire (x + 14) p.y (x + 14) (x + 14 + part.name) p.y active))
      ∙ append-nil (f funnel ++ []) ∙ append-nil (f funnel)

  -- of a register, its box
  pub picked_register : (active : Bool) (p : Pen) (r width : ℕ)
      → flat_map f (register_drawn active p r width) ≡ f (box_shape active p r width)
  picked_register active p r width =
      both (wire_to active p) (box_shape active p r width ∷ []) [] (f (box_shape active p r width))
      (wires active p) (append-nil (f (box_shape active p r width)))

  -- of a multiplexer, its rows and then its funnel
  pub picked_mux : (plan : Plan) (active : Bool) (p : Pen) (m : ℕ) (rows : Rows)
      → flat_map f (mux_drawn plan active p m rows)
      ≡ flat_map f (rows_drawn plan active (mux_of plan m).row (next_wire_start p) 0 (fan_at
      (next_wire_start p)) rows)
      ++ f (funnel_shape active (mux_of plan m) m (next_wire_start p) (fan_after plan (fan_at
      (next_wire_start p)) rows))
  picked_mux plan active p m rows =
      let part : MuxPlan = mux_of plan m in
      let g : Fan = fan_at (next_wire_start p) in
      let inside : List Shape = rows_drawn plan active part.row (next_wire_start p) 0 g rows in
      let close : List Shape =
      mux_close active part m (next_wire_start p) (fan_after plan g rows) (row_ends plan g rows) in
      let funnel : List T = f (funnel_shape active part m (next_wire_start p) (fan_after plan g rows)) in
      both (wire_to active p) (inside ++ close) [] (flat_map f inside ++ funnel) (wires active p)
      (both inside close (flat_map f inside) funnel refl
      (closed active part m (next_wire_start p) (fan_after plan g rows) (row_ends plan g rows)))

  -- of a row, what is picked of its items
  pub picked_row : (active : Bool) (p : Pen) (g : Fan) (shapes : List Shape)
      → flat_map f (row_wire active p g ∷ shapes) ≡ flat_map f shapes
  picked_row active p g shapes =
      first (row_wire active p g) shapes (k.wire (p.x + 18) p.y (p.x + 26) g.x g.y active)

  -- of items, what is picked of the first and then of the others
  pub picked_both : (xs ys : List Shape) (a b : List T) → flat_map f xs ≡ a
      → flat_map f ys ≡ b → flat_map f (xs ++ ys) ≡ a ++ b
  picked_both xs ys a b p q = both xs ys a b p q
