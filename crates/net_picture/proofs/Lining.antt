-- What is in colour is one line.
use Rattle.std.proofs.Common.{◌≡◌, ⊎_elim, ℕ, suc, ◌+◌, ◌-◌, ◌<◌, ◌≤◌, Bool, true, false, List, [], ◌∷◌, ◌++◌}
use Rattle.std.proofs.Common.{Option, Some, None, refl, sym, ap, ◌∙◌, subst, arith}
use Rattle.std.specs.Prelude.{cond}
use Rattle.std.proofs.lemmas.Bool.Decides.{eqb_tells}
use Rattle.std.proofs.lemmas.Grind.{flat_map-append}
use Rattle.net_graph.specs.declared.net.Net.{Net}
use Rattle.net_graph.specs.Path.{path}
use Rattle.net_graph.specs.Signals.{Holds}
use Rattle.net_tree.specs.Entries.{row_count}
use Rattle.net_tree.specs.Form.{Items, Nothing, RegThen, MuxThen, Rows, NoRow, RowThen, Describes}
use Rattle.net_picture.specs.declared.plan.MuxPlan.{MuxPlan}
use Rattle.net_picture.specs.declared.pen.Pen.{Pen}
use Rattle.net_picture.specs.declared.pen.Fan.{Fan}
use Rattle.net_picture.specs.declared.shape.Shape.{Shape}
use Rattle.net_picture.specs.declared.shape.Shape.TheVariants.{Register, Mux, Wire}
use Rattle.net_picture.specs.declared.shape.RowEnd.{RowEnd}
use Rattle.net_picture.specs.Drawing.{first_pen, drawing_by, drawing_of, shapes_of}
use Rattle.net_picture.specs.Layout.{drawn, pen_after, fan_after, row_ends, rows_drawn, register_drawn}
use Rattle.net_picture.specs.Layout.{mux_drawn, mux_close, pen_past, turn_back, wire_to, row_wire, row_close}
use Rattle.net_picture.specs.Layout.{row_closes, is_selected_row}
use Rattle.net_picture.specs.Line.{Lead, lead_of, leads_in, IsLine}
use Rattle.net_picture.specs.Pens.{start_at, is_full, next_line, next_wire_start, after_register, after_row}
use Rattle.net_picture.specs.Pens.{fan_at}
use Rattle.net_picture.specs.Pens.{funnel_at}
use Rattle.net_picture.specs.Plan.{Plan, box_of, mux_of, plan_of}
use Rattle.net_picture.proofs.Back.{HasRows, RowHasRows, way, path_there, path_gone}
use Rattle.net_picture.proofs.Marking.{other_row}

-- two lines, one after the other
line_then : (x y u v to_x to_y : ℕ) (ls ks : List Lead) → IsLine x y ls u v
    → IsLine u v ks to_x to_y → IsLine x y (ls ++ ks) to_x to_y
line_then x y u v to_x to_y [] ks a b =
    subst (λ (n : ℕ). IsLine n y ks to_x to_y) (sym a.0)
    (subst (λ (n : ℕ). IsLine u n ks to_x to_y) (sym a.1) b)
line_then x y u v to_x to_y (l ∷ ls) ks a b =
    (a.0, a.1, line_then l.to_x l.to_y u v to_x to_y ls ks a.2 b)

-- of shapes
abbrev Leads : ℕ → ℕ → List Shape → ℕ → ℕ → Type 0
Leads x y shapes to_x to_y = IsLine x y (leads_in shapes) to_x to_y

leads_then : (x y u v to_x to_y : ℕ) (xs ys : List Shape) → Leads x y xs u v
    → Leads u v ys to_x to_y → Leads x y (xs ++ ys) to_x to_y
leads_then x y u v to_x to_y xs ys a b =
    subst (λ (ls : List Lead). IsLine x y ls to_x to_y) (sym (flat_map-append lead_of xs ys))
    (line_then x y u v to_x to_y (leads_in xs) (leads_in ys) a b)

-- shapes that aren't in colour before or after others
none_before : (x y to_x to_y : ℕ) (xs ys : List Shape) → leads_in xs ≡ []
    → Leads x y ys to_x to_y → Leads x y (xs ++ ys) to_x to_y
none_before x y to_x to_y xs ys none a =
    subst (λ (ls : List Lead). IsLine x y ls to_x to_y)
    (sym (flat_map-append lead_of xs ys ∙ ap (λ (ls : List Lead). ls ++ leads_in ys) none)) a

both_none : (xs ys : List Shape) → leads_in xs ≡ [] → leads_in ys ≡ [] → leads_in (xs ++ ys) ≡ []
both_none xs ys a b =
    flat_map-append lead_of xs ys ∙ ap (λ (ls : List Lead). ls ++ leads_in ys) a ∙ b

none_after : (x y to_x to_y : ℕ) (xs ys : List Shape) → leads_in ys ≡ []
    → Leads x y xs to_x to_y → Leads x y (xs ++ ys) to_x to_y
none_after x y to_x to_y xs ys none a =
    leads_then x y to_x to_y to_x to_y xs ys a
    (subst (λ (ls : List Lead). IsLine to_x to_y ls to_x to_y) (sym none) (refl, refl))

-- ---- nothing is in colour

off_turn : (p : Pen) → leads_in (turn_back false p) ≡ []
off_turn p = elim (is_full p) as (λ (b : Bool). leads_in (cond b (Wire p.x p.y (p.x + 9) p.left
    (p.bottom + 4) false ∷ Wire p.left (p.bottom + 4) p.left p.left (p.bottom + 30) false ∷ []) []) ≡ []) [
      | true ↦ refl
      | false ↦ refl
    ]

off_wires : (p : Pen) → leads_in (wire_to false p) ≡ []
off_wires p =
    both_none (turn_back false p)
    (Wire (next_wire_start p).x (next_wire_start p).y (next_wire_start p).x ((next_wire_start p).x + 18)
    (next_wire_start p).y false ∷ []) (off_turn p) refl

off_close : (selected : Bool) (m q x y : ℕ) (e : RowEnd) → leads_in (row_close selected false m q x y e) ≡ []
off_close true m q x y e = refl
off_close false m q x y e = refl

off_closes : (row : Option ℕ) (m q x y : ℕ) (es : List RowEnd)
    → leads_in (row_closes false row m q x y es) ≡ []
off_closes row m q x y [] = refl
off_closes row m q x y (e ∷ es) =
    both_none (row_close (is_selected_row row q) false m q x y e) (row_closes false row m (suc q) x y es)
    (off_close (is_selected_row row q) m q x y e) (off_closes row m (suc q) x y es)

off_mux : (part : MuxPlan) (m : ℕ) (p : Pen) (g : Fan) (ends : List RowEnd)
    → leads_in (mux_close false part m p g ends) ≡ []
off_mux part m p g ends =
    let x : ℕ = funnel_at g part.values in
    both_none (Mux m x p.y (g.last - p.y) false ∷ row_closes false part.row m 0 x p.y ends) (Wire (x + 14) p.y
    (x + 14) (x + 14 + part.name) p.y false ∷ []) (off_closes part.row m 0 x p.y ends) refl

module _ (plan : Plan) where
  mutual
    off : (p : Pen) (items : Items) → leads_in (drawn plan false p items) ≡ []
    off p Nothing = refl
    off p (RegThen r rest) =
        let q : Pen = after_register (next_wire_start p) (box_of plan r) in
        both_none (register_drawn false p r (box_of plan r)) (drawn plan false q rest)
        (both_none (wire_to false p) (Register r ((next_wire_start p).x + 18) (next_wire_start p).y (box_of
        plan r) false ∷ [])
        (off_wires p) refl) (off q rest)
    off p (MuxThen m rows rest) =
        let q : Pen = pen_past plan p m rows in
        let part : MuxPlan = mux_of plan m in
        let f : Fan = fan_at (next_wire_start p) in
        let inside : List Shape = rows_drawn plan false part.row (next_wire_start p) 0 f rows in
        let close : List Shape =
        mux_close false part m (next_wire_start p) (fan_after plan f rows) (row_ends plan f rows) in
        both_none (mux_drawn plan false p m rows) (drawn plan false q rest)
        (both_none (wire_to false p) (inside ++ close) (off_wires p)
        (both_none inside close (off_rows part.row (next_wire_start p) 0 f rows)
        (off_mux part m (next_wire_start p) (fan_after plan f rows) (row_ends plan f rows))))
        (off q rest)

    off_rows : (row : Option ℕ) (p : Pen) (q : ℕ) (f : Fan) (rows : Rows)
        → leads_in (rows_drawn plan false row p q f rows) ≡ []
    off_rows row p q f NoRow = refl
    off_rows row p q f (RowThen items rest) =
        let start : Pen = start_at f.x f.y in
        let next : Fan = after_row f (pen_after plan start items) in
        both_none (row_wire false p f ∷ drawn plan false start items) (rows_drawn plan false row p
        (suc q) next rest) (off start items) (off_rows row p (suc q) next rest)

  -- a row that isn't selected
  off_row : (on : Bool) (p : Pen) (f : Fan) (items : Items) → on ≡ false
      → leads_in (row_wire on p f ∷ drawn plan on (start_at f.x f.y) items) ≡ []
  off_row on p f items e =
      ap (λ (b : Bool). leads_in (row_wire b p f ∷ drawn plan b (start_at f.x f.y) items)) e
      ∙ off (start_at f.x f.y) items

  -- rows after the selected one
  off_after : (k : ℕ) (p : Pen) (q : ℕ) (f : Fan) (rows : Rows) → k < q
      → leads_in (rows_drawn plan true (Some k) p q f rows) ≡ []
  off_after k p q f NoRow less = refl
  off_after k p q f (RowThen items rest) less =
      let start : Pen = start_at f.x f.y in
      let next : Fan = after_row f (pen_after plan start items) in
      let on : Bool = is_selected_row (Some k) q in
      let more : k < suc q = omega (arith, less) in
      both_none (row_wire on p f ∷ drawn plan on start items)
      (rows_drawn plan true (Some k) p (suc q) next rest)
      (off_row on p f items (other_row k q less)) (off_after k p (suc q) next rest more)

-- a row's wire to the funnel, where the row isn't selected
close_off : (selected : Bool) (m q x y : ℕ) (e : RowEnd) → selected ≡ false
    → leads_in (row_close selected true m q x y e) ≡ []
close_off selected m q x y e off =
    ap (λ (b : Bool). leads_in (row_close b true m q x y e)) off

closes_after : (k m q x y : ℕ) (es : List RowEnd) → k < q
    → leads_in (row_closes true (Some k) m q x y es) ≡ []
closes_after k m q x y [] less = refl
closes_after k m q x y (e ∷ es) less =
    let more : k < suc q = omega (arith, less) in
    both_none (row_close (is_selected_row (Some k) q) true m q x y e) (row_closes true (Some k) m (suc q) x
    y es)
    (close_off (is_selected_row (Some k) q) m q x y e (other_row k q less)) (closes_after k m (suc q) x y es
    more)

-- ---- one line

turn_leads : (p : Pen) → Leads p.x p.y (turn_back true p) (next_wire_start p).x (next_wire_start p).y
turn_leads p = elim (is_full p) as (λ (b : Bool). Leads p.x p.y (cond b (Wire p.x p.y (p.x + 9) p.left
    (p.bottom + 4) true ∷ Wire p.left (p.bottom + 4) p.left p.left (p.bottom + 30) true ∷ []) [])
    (cond b (next_line p) p).x (cond b (next_line p) p).y) [
      | true ↦ (refl, refl, (refl, refl, (refl, refl)))
      | false ↦ (refl, refl)
    ]

wires_lead : (p : Pen) → Leads p.x p.y (wire_to true p) ((next_wire_start p).x + 18) (next_wire_start p).y
wires_lead p =
    leads_then p.x p.y (next_wire_start p).x (next_wire_start p).y ((next_wire_start p).x + 18)
    (next_wire_start p).y (turn_back true p)
    (Wire (next_wire_start p).x (next_wire_start p).y (next_wire_start p).x ((next_wire_start p).x + 18)
    (next_wire_start p).y true ∷ [])
    (turn_leads p) (refl, refl, (refl, refl))

module _ (plan : Plan) where
  -- the line through the rows, and from the end of the selected one through the funnel
  record Through (k : ℕ) (p : Pen) (q : ℕ) (f : Fan) (rows : Rows) : Type 0 where
    end : RowEnd
    inside : Leads (p.x + 18) p.y (rows_drawn plan true (Some k) p q f rows) end.x end.y
    out : (m x y : ℕ) → Leads end.x end.y (row_closes true (Some k) m q x y (row_ends plan f rows)) (x + 14) y

  mutual
    items_lead : (p : Pen) (items : Items) → HasRows plan items
        → Leads p.x p.y (drawn plan true p items) (pen_after plan p items).x (pen_after plan p items).y
    items_lead p Nothing h = (refl, refl)
    items_lead p (RegThen r rest) h =
        let here : Pen = next_wire_start p in
        let width : ℕ = box_of plan r in
        let q : Pen = after_register here width in
        let e : Pen = pen_after plan q rest in
        leads_then p.x p.y q.x q.y e.x e.y (register_drawn true p r width) (drawn plan true q rest)
        (leads_then p.x p.y (here.x + 18) here.y q.x q.y (wire_to true p)
        (Register r (here.x + 18) here.y width true ∷ []) (wires_lead p) (refl, refl, (refl, refl)))
        (items_lead q rest h)
    items_lead p (MuxThen m rows rest) h =
        let here : Pen = next_wire_start p in
        let part : MuxPlan = mux_of plan m in
        let f : Fan = fan_at here in
        let g : Fan = fan_after plan f rows in
        let q : Pen = pen_past plan p m rows in
        let e : Pen = pen_after plan q rest in
        let ends : List RowEnd = row_ends plan f rows in
        let x : ℕ = funnel_at g part.values in
        let selected : ℕ = h.0.0 in
        let row_is : Some selected ≡ part.row = sym h.0.1 in
        let within : selected < row_count rows = h.0.2 in
        let low : 0 ≤ selected = omega arith in
        let high : selected < 0 + row_count rows = omega (arith, within) in
        let t : Through selected here 0 f rows = rows_lead selected here 0 f rows low high h.0.3 in
        let inside : Leads (here.x + 18) here.y
        (rows_drawn plan true part.row here 0 f rows) t.end.x t.end.y =
        subst (λ (o : Option ℕ). Leads (here.x + 18) here.y
        (rows_drawn plan true o here 0 f rows) t.end.x t.end.y) row_is t.inside in
        let closes : Leads t.end.x t.end.y (row_closes true part.row m 0 x here.y ends) (x + 14) here.y =
        subst (λ (o : Option ℕ). Leads t.end.x t.end.y (row_closes true o m 0 x here.y ends) (x + 14) here.y)
        row_is (t.out m x here.y) in
        let close : Leads t.end.x t.end.y (mux_close true part m here g ends) q.x q.y =
        leads_then t.end.x t.end.y (x + 14) here.y q.x q.y
        (Mux m x here.y (g.last - here.y) true ∷ row_closes true part.row m 0 x here.y ends)
        (Wire (x + 14) here.y (x + 14) (x + 14 + part.name) here.y true ∷ []) closes
        (refl, refl, (refl, refl)) in
        leads_then p.x p.y q.x q.y e.x e.y (mux_drawn plan true p m rows) (drawn plan true q rest)
        (leads_then p.x p.y (here.x + 18) here.y q.x q.y (wire_to true p)
        (rows_drawn plan true part.row here 0 f rows ++ mux_close true part m here g ends) (wires_lead p)
        (leads_then (here.x + 18) here.y t.end.x t.end.y q.x q.y (rows_drawn plan true part.row here 0 f rows)
        (mux_close true part m here g ends) inside close))
        (items_lead q rest h.1)

    rows_lead : (k : ℕ) (p : Pen) (q : ℕ) (f : Fan) (rows : Rows) → q ≤ k → k < q + row_count rows
        → RowHasRows plan k q rows → Through k p q f rows
    rows_lead k p q f NoRow low high h = absurd (omega (arith, low, high))
    rows_lead k p q f (RowThen items rest) low high h =
        let start : Pen = start_at f.x f.y in
        let e : Pen = pen_after plan start items in
        let next : Fan = after_row f e in
        let spot : RowEnd = record { x = e.x; y = e.y } in
        let others : List Shape = rows_drawn plan true (Some k) p (suc q) next rest in
        let on : Bool = is_selected_row (Some k) q in
        let first : List Shape = row_wire on p f ∷ drawn plan on start items in
        ⊎_elim
        (λ same.
        let is_on : true ≡ on = sym same.0 in
        let less : k < suc q = omega (arith, same.1) in
        let mine : Leads (p.x + 18) p.y (row_wire true p f ∷ drawn plan true start items) e.x e.y =
        (refl, refl, items_lead start items (h.0 same.1)) in
        record {
          end = spot;
          inside = none_after (p.x + 18) p.y e.x e.y first others (off_after plan k p (suc q) next rest less)
              (subst (λ (b : Bool). Leads (p.x + 18) p.y
              (row_wire b p f ∷ drawn plan b start items) e.x e.y) is_on mine);
          out = λ m x y. none_after e.x e.y (x + 14) y (row_close on true m q x y spot)
              (row_closes true (Some k) m (suc q) x y (row_ends plan next rest))
              (closes_after k m (suc q) x y (row_ends plan next rest) less)
              (subst (λ (b : Bool). Leads e.x e.y (row_close b true m q x y spot) (x + 14) y) is_on
              (refl, refl, (refl, refl, (refl, refl))));
        })
        (λ differ.
        let more : suc q ≤ k = omega (arith, low, differ.1) in
        let most : k < suc q + row_count rest = omega (arith, high) in
        let t : Through k p (suc q) next rest = rows_lead k p (suc q) next rest more most h.1 in
        record {
          end = t.end;
          inside = none_before (p.x + 18) p.y t.end.x t.end.y first others
              (off_row plan on p f items differ.0) t.inside;
          out = λ m x y. none_before t.end.x t.end.y (x + 14) y (row_close on true m q x y spot)
              (row_closes true (Some k) m (suc q) x y (row_ends plan next rest))
              (close_off on m q x y spot differ.0) (t.out m x y);
        })
        (eqb_tells k q)

pub lines : (net : Net) (form : Items) (holds : Holds) (registers : List ℕ)
    → Describes net form → path net holds ≡ Some registers
    → IsLine 48 36 (leads_in (drawing_of net holds form).shapes)
    (drawing_of net holds form).x (drawing_of net holds form).y
lines net form holds registers d e =
    let plan = plan_of net holds in
    let p : Pen = pen_after plan first_pen form in
    subst (λ (b : Bool). IsLine 48 36 (leads_in (drawing_by b plan form).shapes) (drawing_by b plan form).x
    (drawing_by b plan form).y) (sym (path_there net holds registers e))
    (leads_then 48 36 p.x p.y (p.x + 18) p.y (drawn plan true first_pen form)
    (Wire p.x p.y p.x (p.x + 18) p.y true ∷ [])
    (items_lead plan first_pen form (way net holds form d registers e).rows) (refl, refl, (refl, refl)))

pub unlined : (net : Net) (form : Items) (holds : Holds) → path net holds ≡ None
    → leads_in (drawing_of net holds form).shapes ≡ []
unlined net form holds e =
    let plan = plan_of net holds in
    let p = pen_after plan first_pen form in
    ap (λ (b : Bool). leads_in (shapes_of b plan form)) (path_gone net holds e)
    ∙ both_none (drawn plan false first_pen form)
    (Wire p.x p.y p.x (p.x + 18) p.y false ∷ []) (off plan first_pen form) refl
