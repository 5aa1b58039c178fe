-- Each register has one box, and each multiplexer one funnel.
use Rattle.std.proofs.Common.{◌≡◌, ℕ, suc, ◌+◌, List, [], ◌∷◌, ◌++◌, length, refl, sym, ap, ◌∙◌, subst, arith}
use Rattle.std.proofs.Common.{append-nil, length-append}
use Rattle.std.specs.Prelude.{Bool, Option, ◌&&◌, ◌-◌}
use Rattle.std.specs.List.{flat_map}
use Rattle.net_graph.specs.Chain.{NotIn, IsRoute}
use Rattle.net_graph.specs.declared.net.Net.{Net}
use Rattle.net_graph.specs.Signals.{Holds}
use Rattle.net_tree.specs.Form.{Items, Nothing, RegThen, MuxThen, Rows, NoRow, RowThen, registers_in}
use Rattle.net_tree.specs.Form.{registers_in_rows, muxes_in, muxes_in_rows, Describes, IsEachOnce}
use Rattle.net_tree.proofs.Walks.{AreApart, IsRoute-front, IsRoute-back, IsRoute-apart, NotIn-front}
use Rattle.net_tree.proofs.Walks.{NotIn-back, NotIn-append, apart-turn}
use Rattle.net_picture.specs.declared.pen.Pen.{Pen}
use Rattle.net_picture.specs.declared.pen.Fan.{Fan}
use Rattle.net_picture.specs.declared.shape.Shape.{Shape}
use Rattle.net_picture.specs.declared.shape.Shape.TheVariants.{Register, Mux, Wire}
use Rattle.net_picture.specs.Drawing.{shapes_of, first_pen, drawing_of}
use Rattle.net_picture.specs.Layout.{drawn, pen_after, fan_after, rows_drawn, register_drawn, mux_drawn}
use Rattle.net_picture.specs.Layout.{pen_past, row_wire, is_selected_row}
use Rattle.net_picture.specs.Pens.{start_at, next_wire_start, after_register, after_row, fan_at, funnel_at}
use Rattle.net_picture.specs.Plan.{Plan, box_of, mux_of, plan_of, has_path}
use Rattle.net_picture.specs.Whole.{box_of_shape, funnel_of_shape, boxes_in, funnels_in}
use Rattle.net_picture.proofs.Gathering.{IsOfThings, picked_register, picked_mux, picked_row, picked_both}

abbrev none : ℕ → List ℕ
none k = []

abbrev one : ℕ → List ℕ
one k = k ∷ []

-- something of each register and each multiplexer, a multiplexer after its rows
abbrev mutual
  gather : (ℕ → List ℕ) → (ℕ → List ℕ) → Items → List ℕ
  gather reg mux Nothing = []
  gather reg mux (RegThen r rest) = reg r ++ gather reg mux rest
  gather reg mux (MuxThen m rows rest) = (gather_rows reg mux rows ++ mux m) ++ gather reg mux rest

  gather_rows : (ℕ → List ℕ) → (ℕ → List ℕ) → Rows → List ℕ
  gather_rows reg mux NoRow = []
  gather_rows reg mux (RowThen items rest) = gather reg mux items ++ gather_rows reg mux rest

-- what is picked of boxes and funnels, whatever their places
record Picks (f : Shape → List ℕ) (reg mux : ℕ → List ℕ) : Type 0 where
  of_things : IsOfThings f
  box : (r x y width : ℕ) (active : Bool) → f (Register r x y width active) ≡ reg r
  funnel : (m x y height : ℕ) (active : Bool) → f (Mux m x y height active) ≡ mux m

module _ (f : Shape → List ℕ) (reg mux : ℕ → List ℕ) (k : Picks f reg mux) (plan : Plan) where
  mutual
    gathered : (active : Bool) (p : Pen) (items : Items)
        → flat_map f (drawn plan active p items) ≡ gather reg mux items
    gathered active p Nothing = refl
    gathered active p (RegThen r rest) =
        let q : Pen = after_register (next_wire_start p) (box_of plan r) in
        picked_both f k.of_things (register_drawn active p r (box_of plan r))
        (drawn plan active q rest) (reg r) (gather reg mux rest)
        (picked_register f k.of_things active p r (box_of plan r)
        ∙ k.box r ((next_wire_start p).x + 18) (next_wire_start p).y (box_of plan r) active) (gathered
        active q rest)
    gathered active p (MuxThen m rows rest) =
        let q : Pen = pen_past plan p m rows in
        let g : Fan = fan_at (next_wire_start p) in
        let inside : List Shape = rows_drawn plan active (mux_of plan m).row (next_wire_start p) 0 g rows in
        let end : Fan = fan_after plan g rows in
        picked_both f k.of_things (mux_drawn plan active p m rows) (drawn plan active q rest)
        (gather_rows reg mux rows ++ mux m) (gather reg mux rest)
        (picked_mux f k.of_things plan active p m rows
        ∙ ap (λ (xs : List ℕ). xs ++ f (Mux m (funnel_at end (mux_of plan m).values) (next_wire_start p).y
        (end.last - (next_wire_start p).y) active)) (gathered_rows active (mux_of plan m).row
        (next_wire_start p) 0 g rows)
        ∙ ap (λ (xs : List ℕ). gather_rows reg mux rows ++ xs)
        (k.funnel m (funnel_at end (mux_of plan m).values) (next_wire_start p).y (end.last -
        (next_wire_start p).y) active))
        (gathered active q rest)

    gathered_rows : (active : Bool) (row : Option ℕ) (p : Pen) (q : ℕ) (g : Fan) (rows : Rows)
        → flat_map f (rows_drawn plan active row p q g rows) ≡ gather_rows reg mux rows
    gathered_rows active row p q g NoRow = refl
    gathered_rows active row p q g (RowThen items rest) =
        let on : Bool = active && is_selected_row row q in
        let start : Pen = start_at g.x g.y in
        let next : Fan = after_row g (pen_after plan start items) in
        picked_both f k.of_things (row_wire on p g ∷ drawn plan on start items)
        (rows_drawn plan active row p (suc q) next rest) (gather reg mux items) (gather_rows reg mux rest)
        (picked_row f k.of_things on p g (drawn plan on start items) ∙ gathered on start items)
        (gathered_rows active row p (suc q) next rest)

  -- the last wire gives nothing
  whole_form : (on : Bool) (form : Items) → flat_map f (shapes_of on plan form) ≡ gather reg mux form
  whole_form on form =
      let p : Pen = pen_after plan first_pen form in
      picked_both f k.of_things (drawn plan on first_pen form) (Wire p.x p.y p.x (p.x + 18) p.y on ∷ [])
      (gather reg mux form) [] (gathered on first_pen form)
      (ap (λ (xs : List ℕ). xs ++ []) (k.of_things.wire p.x p.y p.x (p.x + 18) p.y on))
      ∙ append-nil (gather reg mux form)

mutual
  boxes_are : (items : Items) → gather one none items ≡ registers_in items
  boxes_are Nothing = refl
  boxes_are (RegThen r rest) = ap (λ (xs : List ℕ). r ∷ xs) (boxes_are rest)
  boxes_are (MuxThen m rows rest) =
      ap (λ (xs : List ℕ). xs ++ gather one none rest) (append-nil (gather_rows one none rows)
      ∙ boxes_are_rows rows) ∙ ap (λ (xs : List ℕ). registers_in_rows rows ++ xs) (boxes_are rest)

  boxes_are_rows : (rows : Rows) → gather_rows one none rows ≡ registers_in_rows rows
  boxes_are_rows NoRow = refl
  boxes_are_rows (RowThen items rest) =
      ap (λ (xs : List ℕ). xs ++ gather_rows one none rest) (boxes_are items)
      ∙ ap (λ (xs : List ℕ). registers_in items ++ xs) (boxes_are_rows rest)

abbrev after : Items → List ℕ
after items = gather none one items

abbrev after_rows : Rows → List ℕ
after_rows rows = gather_rows none one rows

-- a number that is in neither order
mutual
  off : (k : ℕ) (items : Items) → NotIn k (muxes_in items) → NotIn k (after items)
  off k Nothing a = tt
  off k (RegThen r rest) a = off k rest a
  off k (MuxThen m rows rest) a =
      let ms = muxes_in_rows rows in
      NotIn-append k (after_rows rows ++ m ∷ []) (after rest) (NotIn-append k (after_rows rows) (m ∷ [])
      (off_rows k rows (NotIn-front k ms (muxes_in rest) a.1)) (a.0, tt))
      (off k rest (NotIn-back k ms (muxes_in rest) a.1))

  off_rows : (k : ℕ) (rows : Rows) → NotIn k (muxes_in_rows rows) → NotIn k (after_rows rows)
  off_rows k NoRow a = tt
  off_rows k (RowThen items rest) a =
      NotIn-append k (after items) (after_rows rest)
      (off k items (NotIn-front k (muxes_in items) (muxes_in_rows rest) a))
      (off_rows k rest (NotIn-back k (muxes_in items) (muxes_in_rows rest) a))

-- lists that are apart, one after the other
joined : (n : ℕ) (xs ys : List ℕ) → IsRoute n xs → IsRoute n ys → AreApart xs ys → IsRoute n (xs ++ ys)
joined n [] ys a b c = b
joined n (x ∷ xs) ys a b c = (a.0, NotIn-append x xs ys a.1 c.0, joined n xs ys a.2 b c.1)

apart_all : (xs ys : List ℕ) (zs : List ℕ)
    → ((k : ℕ) → NotIn k ys → NotIn k zs) → AreApart xs ys → AreApart xs zs
apart_all [] ys zs h a = tt
apart_all (x ∷ xs) ys zs h a = (h x a.0, apart_all xs ys zs h a.1)

-- both sides may be exchanged
apart_both : (xs ys us vs : List ℕ) → ((k : ℕ) → NotIn k xs → NotIn k us)
    → ((k : ℕ) → NotIn k ys → NotIn k vs) → AreApart xs ys → AreApart us vs
apart_both xs ys us vs f g a =
    apart-turn vs us (apart_all vs xs us f (apart-turn xs vs (apart_all xs ys vs g a)))

not_in_apart : (m : ℕ) (xs : List ℕ) → NotIn m xs → AreApart xs (m ∷ [])
not_in_apart m [] a = tt
not_in_apart m (x ∷ xs) a = (((λ e. a.0 (sym e)), tt), not_in_apart m xs a.1)

mutual
  route : (n : ℕ) (items : Items) → IsRoute n (muxes_in items) → IsRoute n (after items)
  route n Nothing a = tt
  route n (RegThen r rest) a = route n rest a
  route n (MuxThen m rows rest) a =
      let ms = muxes_in_rows rows in
      let ks = muxes_in rest in
      let front = route_rows n rows (IsRoute-front n ms ks a.2) in
      let back = route n rest (IsRoute-back n ms ks a.2) in
      let here : IsRoute n (after_rows rows ++ m ∷ []) = joined n (after_rows rows) (m ∷ []) front
      (a.0, tt, tt) (not_in_apart m (after_rows rows) (off_rows m rows (NotIn-front m ms ks a.1))) in
      joined n (after_rows rows ++ m ∷ []) (after rest) here back
      (apart_both (m ∷ ms) ks (after_rows rows ++ m ∷ []) (after rest) (λ k b. NotIn-append k
      (after_rows rows) (m ∷ []) (off_rows k rows b.1) (b.0, tt)) (λ k b. off k rest b)
      (NotIn-back m ms ks a.1, IsRoute-apart n ms ks a.2))

  route_rows : (n : ℕ) (rows : Rows) → IsRoute n (muxes_in_rows rows) → IsRoute n (after_rows rows)
  route_rows n NoRow a = tt
  route_rows n (RowThen items rest) a =
      let ms = muxes_in items in
      let ks = muxes_in_rows rest in
      joined n (after items) (after_rows rest) (route n items (IsRoute-front n ms ks a))
      (route_rows n rest (IsRoute-back n ms ks a))
      (apart_both ms ks (after items) (after_rows rest) (λ k b. off k items b)
      (λ k b. off_rows k rest b) (IsRoute-apart n ms ks a))

mutual
  count : (items : Items) → length (after items) ≡ length (muxes_in items)
  count Nothing = refl
  count (RegThen r rest) = count rest
  count (MuxThen m rows rest) =
      omega (
        arith,
        length-append (after_rows rows ++ m ∷ []) (after rest),
        length-append (after_rows rows)
            (m ∷ []),
        length-append (muxes_in_rows rows) (muxes_in rest),
        count_rows rows,
        count rest,
      )

  count_rows : (rows : Rows) → length (after_rows rows) ≡ length (muxes_in_rows rows)
  count_rows NoRow = refl
  count_rows (RowThen items rest) =
      omega (
        arith,
        length-append (after items) (after_rows rest),
        length-append (muxes_in items) (muxes_in_rows rest),
        count items,
        count_rows rest,
      )

boxes_pick : Picks box_of_shape one none
boxes_pick = record {
  of_things = record { values = λ m q x y. refl; wire = λ x y turn to_x to_y active. refl };
  box = λ r x y width active. refl;
  funnel = λ m x y height active. refl;
}

funnels_pick : Picks funnel_of_shape none one
funnels_pick = record {
  of_things = record { values = λ m q x y. refl; wire = λ x y turn to_x to_y active. refl };
  box = λ r x y width active. refl;
  funnel = λ m x y height active. refl;
}

pub whole : (net : Net) (form : Items) (holds : Holds) → Describes net form
    → IsEachOnce (length net.regs.items) (boxes_in (drawing_of net holds form).shapes)
    × IsEachOnce (length net.muxes.items) (funnels_in (drawing_of net holds form).shapes)
whole net form holds d =
    let plan = plan_of net holds in
    let boxes : registers_in form ≡ boxes_in (drawing_of net holds form).shapes =
    sym (whole_form box_of_shape one none boxes_pick plan (has_path net holds) form ∙ boxes_are form) in
    let funnels : after form ≡ funnels_in (drawing_of net holds form).shapes =
    sym (whole_form funnel_of_shape none one funnels_pick plan (has_path net holds) form) in (
      subst (IsEachOnce (length net.regs.items)) boxes d.registers,
      subst (IsEachOnce (length net.muxes.items)) funnels (record {
        different =
            route (length net.muxes.items) form d.muxes.different;
        count = count form ∙ d.muxes.count;
      }),
    )
