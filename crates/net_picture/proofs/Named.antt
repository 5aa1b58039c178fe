-- The shapes of a form are of registers and multiplexers that a network has, where the form's are.
use Rattle.std.proofs.Common.{◌≡◌, ℕ, suc, ◌+◌, ◌-◌, ◌<◌, Bool, true, false, List, [], ◌∷◌, ◌++◌, Option}
use Rattle.std.proofs.Common.{length, ap, ◌∙◌}
use Rattle.std.specs.Prelude.{All, cond, ◌&&◌}
use Rattle.std.proofs.lemmas.List.Elements.{All-nil, All-cons, All-append}
use Rattle.net_graph.specs.Chain.{IsRoute}
use Rattle.net_graph.specs.declared.net.Net.{Net}
use Rattle.net_graph.specs.Signals.{Holds}
use Rattle.net_tree.specs.Form.{Items, Nothing, RegThen, MuxThen, Rows, NoRow, RowThen, registers_in}
use Rattle.net_tree.specs.Form.{registers_in_rows, muxes_in, muxes_in_rows, Describes}
use Rattle.net_tree.proofs.Walks.{IsRoute-front, IsRoute-back}
use Rattle.net_picture.specs.declared.plan.MuxPlan.{MuxPlan}
use Rattle.net_picture.specs.declared.pen.Pen.{Pen}
use Rattle.net_picture.specs.declared.pen.Fan.{Fan}
use Rattle.net_picture.specs.declared.shape.Shape.{Shape}
use Rattle.net_picture.specs.declared.shape.Shape.TheVariants.{Register, Mux, Values, Wire}
use Rattle.net_picture.specs.declared.shape.RowEnd.{RowEnd}
use Rattle.net_picture.specs.Drawing.{Drawing, first_pen, shapes_of, drawing_by, drawing_of}
use Rattle.net_picture.specs.Layout.{drawn, pen_after, fan_after, row_ends, rows_drawn, register_drawn}
use Rattle.net_picture.specs.Layout.{mux_drawn, mux_close, pen_past, turn_back, wire_to, row_wire, row_shown}
use Rattle.net_picture.specs.Layout.{row_close, row_closes, is_selected_row}
use Rattle.net_picture.specs.Pens.{start_at, is_full, next_wire_start, after_register, after_row, fan_at}
use Rattle.net_picture.specs.Pens.{funnel_at}
use Rattle.net_picture.specs.Plan.{Plan, box_of, mux_of, plan_of, has_path}
use Rattle.net_picture.specs.There.{IsShapeOf}

module _ (net : Net) where
  abbrev P : Shape → Type 0
  P s = IsShapeOf net s

  -- wires are of nothing
  one_wire : (x y turn to_x to_y : ℕ) (active : Bool) → All P (Wire x y turn to_x to_y active ∷ [])
  one_wire x y turn to_x to_y active = All-cons P (Wire x y turn to_x to_y active) [] tt (All-nil P)

  turns : (active : Bool) (p : Pen) → All P (turn_back active p)
  turns active p = elim (is_full p) as (λ (b : Bool). All P (cond b (Wire p.x p.y (p.x + 9) p.left
      (p.bottom + 4) active ∷ Wire p.left (p.bottom + 4) p.left p.left (p.bottom + 30) active ∷ []) [])) [
        | true ↦ All-cons P (Wire p.x p.y (p.x + 9) p.left (p.bottom + 4) active)
            (Wire p.left (p.bottom + 4) p.left p.left (p.bottom + 30) active ∷ []) tt
            (one_wire p.left (p.bottom + 4) p.left p.left (p.bottom + 30) active)
        | false ↦ All-nil P
      ]

  wires : (active : Bool) (p : Pen) → All P (wire_to active p)
  wires active p =
      All-append P (turn_back active p) (Wire (next_wire_start p).x (next_wire_start p).y (next_wire_start
      p).x ((next_wire_start p).x + 18)
      (next_wire_start p).y active ∷ []) (turns active p)
      (one_wire (next_wire_start p).x (next_wire_start p).y (next_wire_start p).x ((next_wire_start p).x +
      18) (next_wire_start p).y active)

  shown : (selected active : Bool) (x y : ℕ) (e : RowEnd) → All P (row_shown selected active x y e)
  shown true active x y e = one_wire x e.y (x + 7) (x + 14) y active
  shown false active x y e = All-nil P

  closes : (active : Bool) (row : Option ℕ) (m q x y : ℕ) (es : List RowEnd) → m < length net.muxes.items
      → All P (row_closes active row m q x y es)
  closes active row m q x y [] there = All-nil P
  closes active row m q x y (e ∷ es) there =
      All-append P (row_close (is_selected_row row q) active m q x y e) (row_closes active row m (suc q) x y
      es)
      (All-cons P (Wire e.x e.y e.x x e.y (active && is_selected_row row q))
      (Values m q x e.y ∷ row_shown (is_selected_row row q) active x y e) tt
      (All-cons P (Values m q x e.y) (row_shown (is_selected_row row q) active x y e) there
      (shown (is_selected_row row q) active x y e)))
      (closes active row m (suc q) x y es there)

  closed : (active : Bool) (part : MuxPlan) (m : ℕ) (p : Pen) (g : Fan) (ends : List RowEnd)
      → m < length net.muxes.items → All P (mux_close active part m p g ends)
  closed active part m p g ends there =
      let x : ℕ = funnel_at g part.values in
      All-append P (Mux m x p.y (g.last - p.y) active ∷ row_closes active part.row m 0 x p.y ends)
      (Wire (x + 14) p.y (x + 14) (x + 14 + part.name) p.y active ∷ [])
      (All-cons P (Mux m x p.y (g.last - p.y) active) (row_closes active part.row m 0 x p.y ends) there
      (closes active part.row m 0 x p.y ends there))
      (one_wire (x + 14) p.y (x + 14) (x + 14 + part.name) p.y active)

  module _ (plan : Plan) where
    mutual
      items_there : (active : Bool) (p : Pen) (items : Items)
          → IsRoute (length net.regs.items) (registers_in items)
          → IsRoute (length net.muxes.items) (muxes_in items) → All P (drawn plan active p items)
      items_there active p Nothing regs muxes = All-nil P
      items_there active p (RegThen r rest) regs muxes =
          let q : Pen = after_register (next_wire_start p) (box_of plan r) in
          let box : Shape = Register r ((next_wire_start p).x + 18) (next_wire_start p).y (box_of plan r)
          active in
          All-append P (register_drawn active p r (box_of plan r)) (drawn plan active q rest)
          (All-append P (wire_to active p) (box ∷ []) (wires active p) (All-cons P box [] regs.0 (All-nil P)))
          (items_there active q rest regs.2 muxes)
      items_there active p (MuxThen m rows rest) regs muxes =
          let q : Pen = pen_past plan p m rows in
          let part : MuxPlan = mux_of plan m in
          let f : Fan = fan_at (next_wire_start p) in
          let inside : List Shape = rows_drawn plan active part.row (next_wire_start p) 0 f rows in
          let close : List Shape =
          mux_close active part m (next_wire_start p) (fan_after plan f rows) (row_ends plan f rows) in
          let rs = registers_in_rows rows in
          let ms = muxes_in_rows rows in
          All-append P (mux_drawn plan active p m rows) (drawn plan active q rest)
          (All-append P (wire_to active p) (inside ++ close) (wires active p)
          (All-append P inside close
          (rows_there active part.row (next_wire_start p) 0 f rows (IsRoute-front (length net.regs.items) rs
          (registers_in rest) regs) (IsRoute-front (length net.muxes.items) ms (muxes_in rest) muxes.2))
          (closed active part m (next_wire_start p) (fan_after plan f rows) (row_ends plan f rows) muxes.0)))
          (items_there active q rest (IsRoute-back (length net.regs.items) rs (registers_in rest) regs)
          (IsRoute-back (length net.muxes.items) ms (muxes_in rest) muxes.2))

      rows_there : (active : Bool) (row : Option ℕ) (p : Pen) (q : ℕ) (f : Fan) (rows : Rows)
          → IsRoute (length net.regs.items) (registers_in_rows rows)
          → IsRoute (length net.muxes.items) (muxes_in_rows rows)
          → All P (rows_drawn plan active row p q f rows)
      rows_there active row p q f NoRow regs muxes = All-nil P
      rows_there active row p q f (RowThen items rest) regs muxes =
          let on : Bool = active && is_selected_row row q in
          let start : Pen = start_at f.x f.y in
          let next : Fan = after_row f (pen_after plan start items) in
          let rs = registers_in items in
          let ms = muxes_in items in
          All-append P (row_wire on p f ∷ drawn plan on start items)
          (rows_drawn plan active row p (suc q) next rest)
          (All-cons P (row_wire on p f) (drawn plan on start items) tt
          (items_there on start items (IsRoute-front (length net.regs.items) rs (registers_in_rows rest) regs)
          (IsRoute-front (length net.muxes.items) ms (muxes_in_rows rest) muxes)))
          (rows_there active row p (suc q) next rest
          (IsRoute-back (length net.regs.items) rs (registers_in_rows rest) regs)
          (IsRoute-back (length net.muxes.items) ms (muxes_in_rows rest) muxes))

    pub form_there : (on : Bool) (form : Items) → Describes net form → All P (shapes_of on plan form)
    form_there on form d =
        let p = pen_after plan first_pen form in
        All-append P (drawn plan on first_pen form) (Wire p.x p.y p.x (p.x + 18) p.y on ∷ [])
        (items_there on first_pen form d.registers.different d.muxes.different)
        (one_wire p.x p.y p.x (p.x + 18) p.y on)

-- a drawing, from its shapes but the last wire and from where they end
abbrev made : Bool → Pen → List Shape → Drawing
made on p shapes =
    record {
      shapes = shapes ++ Wire p.x p.y p.x (p.x + 18) p.y on ∷ [];
      width = p.right + 66;
      height = p.bottom + 20;
      x = p.x + 18;
      y = p.y;
    }

pub drawing_is : (net : Net) (holds : Holds) (form : Items) (on : Bool) (plan : Plan) (start end : Pen)
    (none shapes all : List Shape) (x width height : ℕ)
    → on ≡ has_path net holds → plan ≡ plan_of net holds → start ≡ start_at 48 36
    → end ≡ pen_after plan start form → none ≡ [] → shapes ≡ none ++ drawn plan on start form
    → all ≡ shapes ++ Wire end.x end.y end.x x end.y on ∷ [] → x ≡ end.x + 18
    → width ≡ end.right + 66 → height ≡ end.bottom + 20
    → ◌≡◌ {A = Drawing} (record { shapes = all; width = width; height = height; x = x; y = end.y })
    (drawing_of net holds form)
drawing_is net holds form on plan start end none shapes all x width height oi pi si ei ni di ai xi wi hi =
    let last : end ≡ pen_after plan first_pen form = ei ∙ ap (λ (p : Pen). pen_after plan p form) si in
    let drew : shapes ≡ drawn plan on first_pen form =
    di ∙ ap (λ (xs : List Shape). xs ++ drawn plan on start form) ni
    ∙ ap (λ (p : Pen). drawn plan on p form) si in
    let more : all ≡ shapes ++ Wire end.x end.y end.x (end.x + 18) end.y on ∷ [] =
    ai ∙ ap (λ (n : ℕ). shapes ++ Wire end.x end.y end.x n end.y on ∷ []) xi in
    let of : List Shape → ℕ → ℕ → ℕ
    → Drawing = λ s n m k. record { shapes = s; width = n; height = m; x = k; y = end.y } in
    let shaped : of all width height x
    ≡ of (shapes ++ Wire end.x end.y end.x (end.x + 18) end.y on ∷ []) width height x =
    ap (λ (s : List Shape). of s width height x) more in
    let s : List Shape = shapes ++ Wire end.x end.y end.x (end.x + 18) end.y on ∷ [] in
    shaped ∙ ap (λ (n : ℕ). of s n height x) wi ∙ ap (λ (m : ℕ). of s (end.right + 66) m x) hi
    ∙ ap (λ (k : ℕ). of s (end.right + 66) (end.bottom + 20) k) xi
    ∙ ap (λ (p : Pen). made on p shapes) last ∙ ap (made on (pen_after plan first_pen form)) drew
    ∙ ap (λ (q : Plan). drawing_by on q form) pi
    ∙ ap (λ (b : Bool). drawing_by b (plan_of net holds) form) oi
