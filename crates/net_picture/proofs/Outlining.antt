-- Drawings of one network in two states have the same outline.
use Rattle.std.proofs.Math.Bool.{and-false}
use Rattle.std.proofs.Common.{◌≡◌, ℕ, zero, suc, ◌+◌, ◌-◌, Bool, true, false, List, [], ◌∷◌, ◌++◌, Option}
use Rattle.std.proofs.Common.{Some, None, length, map, get_or, refl, sym, ap, ◌∙◌, subst, arith, append_assoc}
use Rattle.std.proofs.Common.{append-nil}
use Rattle.std.specs.Prelude.{◌==◌, ◌&&◌, cond}
use Rattle.std.specs.List.{range_with_len}
use Rattle.std.proofs.lemmas.Bool.{ne_eqb}
use Rattle.ij_bits.proofs.Tests.{number_self}
use Rattle.net_graph.specs.declared.net.Net.{Net}
use Rattle.net_graph.specs.Signals.{Holds}
use Rattle.net_tree.specs.Form.{Items, Nothing, RegThen, MuxThen, Rows, NoRow, RowThen}
use Rattle.net_picture.specs.declared.plan.MuxPlan.{MuxPlan}
use Rattle.net_picture.specs.declared.pen.Pen.{Pen}
use Rattle.net_picture.specs.declared.pen.Fan.{Fan}
use Rattle.net_picture.specs.declared.shape.Shape.{Shape}
use Rattle.net_picture.specs.declared.shape.Shape.TheVariants.{Register, Mux, Values, Wire}
use Rattle.net_picture.specs.declared.shape.RowEnd.{RowEnd}
use Rattle.net_picture.specs.Drawing.{first_pen, shapes_of, drawing_of}
use Rattle.net_picture.specs.Layout.{drawn, pen_after, fan_after, row_ends, rows_drawn, register_drawn}
use Rattle.net_picture.specs.Layout.{mux_drawn, mux_close, pen_past, turn_back, wire_to, row_wire, row_shown}
use Rattle.net_picture.specs.Layout.{row_closes, is_selected_row}
use Rattle.net_picture.specs.Outline.{bare, is_within, outline_after, outline}
use Rattle.net_picture.specs.Pens.{start_at, is_full, next_wire_start, after_register, after_row, fan_at}
use Rattle.net_picture.specs.Pens.{funnel_at}
use Rattle.net_picture.specs.Pens.{after_mux}
use Rattle.net_picture.specs.Plan.{Plan, box_of, has_path, mux_of, mux_plan, plan_of}

-- ---- lists of shapes

-- no wire after it is within a funnel
abbrev IsHarmless : Option Shape → Type 0
IsHarmless o = (s : Shape) → is_within o s ≡ false

abbrev Next : List Shape → List Shape → Type 0
Next us vs = (before other : Option Shape) → IsHarmless before → IsHarmless other
    → outline_after before us ≡ outline_after other vs

-- what comes before the same is the same
abbrev AreAlike : List Shape → List Shape → Type 0
AreAlike xs ys = (us vs : List Shape) → Next us vs → Next (xs ++ us) (ys ++ vs)

alike_none : AreAlike [] []
alike_none = λ us vs next. next

alike_both : (xs ys xs2 ys2 : List Shape) → AreAlike xs ys
    → AreAlike xs2 ys2 → AreAlike (xs ++ xs2) (ys ++ ys2)
alike_both xs ys xs2 ys2 one two = λ us vs next before other h i.
    ap (outline_after before) (append_assoc xs xs2 us)
    ∙ one (xs2 ++ us) (ys2 ++ vs) (two us vs next) before other h i
    ∙ sym (ap (outline_after other) (append_assoc ys ys2 vs))

-- one shape
kept : (before : Option Shape) (s : Shape) (us : List Shape) → is_within before s ≡ false
    → outline_after before (s ∷ us) ≡ bare s ∷ outline_after (Some s) us
kept before s us e = ap (λ (b : Bool). cond b [] (bare s ∷ []) ++ outline_after (Some s) us) e

alike_one : (s t : Shape) → bare s ≡ bare t → IsHarmless (Some s)
    → IsHarmless (Some t) → AreAlike (s ∷ []) (t ∷ [])
alike_one s t e hs ht = λ us vs next before other h i.
    kept before s us (h s) ∙ ap (λ (x : Shape). x ∷ outline_after (Some s) us) e
    ∙ ap (λ (xs : List Shape). bare t ∷ xs) (next (Some s) (Some t) hs ht) ∙ sym (kept other t vs (i t))

wire_alike : (x y turn to_x to_y : ℕ) (a b : Bool)
    → AreAlike (Wire x y turn to_x to_y a ∷ []) (Wire x y turn to_x to_y b ∷ [])
wire_alike x y turn to_x to_y a b =
    alike_one (Wire x y turn to_x to_y a) (Wire x y turn to_x to_y b) refl (λ s. refl) (λ s. refl)

turn_alike : (a b : Bool) (p : Pen) → AreAlike (turn_back a p) (turn_back b p)
turn_alike a b p =
    elim (is_full p) as (λ (k : Bool). AreAlike (cond k (Wire p.x p.y (p.x + 9) p.left (p.bottom + 4) a
    ∷ Wire p.left (p.bottom + 4) p.left p.left (p.bottom + 30) a ∷ []) []) (cond k (Wire p.x p.y (p.x + 9)
    p.left (p.bottom + 4) b ∷ Wire p.left (p.bottom + 4) p.left p.left (p.bottom + 30) b ∷ []) [])) [
      | true ↦ alike_both (Wire p.x p.y (p.x + 9) p.left (p.bottom + 4) a ∷ []) (Wire p.x p.y (p.x + 9) p.left
          (p.bottom + 4) b ∷ []) (Wire p.left (p.bottom + 4) p.left p.left (p.bottom + 30) a ∷ [])
          (Wire p.left (p.bottom + 4) p.left p.left (p.bottom + 30) b ∷ [])
          (wire_alike p.x p.y (p.x + 9) p.left (p.bottom + 4) a b)
          (wire_alike p.left (p.bottom + 4) p.left p.left (p.bottom + 30) a b)
      | false ↦ alike_none
    ]

wires_alike : (a b : Bool) (p : Pen) → AreAlike (wire_to a p) (wire_to b p)
wires_alike a b p =
    alike_both (turn_back a p) (turn_back b p) (Wire (next_wire_start p).x (next_wire_start p).y
    (next_wire_start p).x ((next_wire_start p).x + 18)
    (next_wire_start p).y a ∷ []) (Wire (next_wire_start p).x (next_wire_start p).y (next_wire_start p).x
    ((next_wire_start p).x + 18) (next_wire_start p).y b ∷ [])
    (turn_alike a b p) (wire_alike (next_wire_start p).x (next_wire_start p).y (next_wire_start p).x
    ((next_wire_start p).x + 18) (next_wire_start p).y a b)

-- ---- the wires to a funnel at x

-- neither a wire to the funnel nor its output wire is within it
record IsOpen (o : Option Shape) (x : ℕ) : Type 0 where
  closing : (from_x from_y to_y : ℕ) (on : Bool) → is_within o (Wire from_x from_y from_x x to_y on) ≡ false
  output : (y to_x : ℕ) (on : Bool) → is_within o (Wire (x + 14) y (x + 14) to_x y on) ≡ false

open_harmless : (o : Option Shape) (x : ℕ) → IsHarmless o → IsOpen o x
open_harmless o x h = record {
  closing = λ from_x from_y to_y on. h (Wire from_x from_y from_x x to_y on);
  output = λ y to_x on. h (Wire (x + 14) y (x + 14) to_x y on);
}

open_values : (m q x y : ℕ) → IsOpen (Some (Values m q x y)) x
open_values m q x y = record {
  closing = λ from_x from_y to_y on. ap (λ (b : Bool). (from_x == x + 7) && b)
      (ne_eqb x (x + 14) (λ e. omega (arith, e))) ∙ and-false (from_x == x + 7);
  output = λ at to_x on. ap (λ (b : Bool). b && (to_x == x + 14))
      (ne_eqb (x + 14) (x + 7) (λ e. omega (arith, e)));
}

-- what comes before the next wire
abbrev after_shown : Bool → Bool → ℕ → ℕ → ℕ → ℕ → RowEnd → Option Shape
after_shown selected on m q x y e =
    cond selected (Some (Wire x e.y (x + 7) (x + 14) y on)) (Some (Values m q x e.y))

open_shown : (selected on : Bool) (m q x y : ℕ) (e : RowEnd) → IsOpen (after_shown selected on m q x y e) x
open_shown true on m q x y e = open_harmless (Some (Wire x e.y (x + 7) (x + 14) y on)) x (λ s. refl)
open_shown false on m q x y e = open_values m q x e.y

shown_gone : (selected on : Bool) (m q x y : ℕ) (e : RowEnd) (rest us : List Shape)
    → outline_after (Some (Values m q x e.y)) ((row_shown selected on x y e ++ rest) ++ us)
    ≡ outline_after (after_shown selected on m q x y e) (rest ++ us)
shown_gone true on m q x y e rest us =
    let shown : Shape = Wire x e.y (x + 7) (x + 14) y on in
    ap (λ (b : Bool). cond (b && (x + 14 == x + 14)) [] (bare shown ∷ [])
    ++ outline_after (Some shown) (rest ++ us)) (number_self (x + 7))
    ∙ ap (λ (b : Bool). cond b [] (bare shown ∷ []) ++ outline_after (Some shown) (rest ++ us))
    (number_self (x + 14))
shown_gone false on m q x y e rest us = refl

closes_alike : (a b : Bool) (row row2 : Option ℕ) (m q x y name : ℕ) (es : List RowEnd)
    (before other : Option Shape) → IsOpen before x → IsOpen other x → (us vs : List Shape) → Next us vs
    → outline_after before (row_closes a row m q x y es ++ Wire (x + 14) y (x + 14) (x + 14 + name) y a ∷ us)
    ≡ outline_after other
    (row_closes b row2 m q x y es ++ Wire (x + 14) y (x + 14) (x + 14 + name) y b ∷ vs)
closes_alike a b row row2 m q x y name [] before other h i us vs next =
    kept before (Wire (x + 14) y (x + 14) (x + 14 + name) y a) us (h.output y (x + 14 + name) a)
    ∙ ap (λ (xs : List Shape). Wire (x + 14) y (x + 14) (x + 14 + name) y false ∷ xs)
    (next (Some (Wire (x + 14) y (x + 14) (x + 14 + name) y a))
    (Some (Wire (x + 14) y (x + 14) (x + 14 + name) y b)) (λ s. refl) (λ s. refl))
    ∙ sym (kept other (Wire (x + 14) y (x + 14) (x + 14 + name) y b) vs (i.output y (x + 14 + name) b))
closes_alike a b row row2 m q x y name (e ∷ es) before other h i us vs next =
    let s : Bool = is_selected_row row q in
    let t : Bool = is_selected_row row2 q in
    let out : Bool → List Shape
    → List Shape = λ (on : Bool) (zs : List Shape). Wire (x + 14) y (x + 14) (x + 14 + name) y on ∷ zs in
    let ones : List Shape = row_closes a row m (suc q) x y es in
    let twos : List Shape = row_closes b row2 m (suc q) x y es in
    let values : Shape = Values m q x e.y in
    kept before (Wire e.x e.y e.x x e.y (a && s))
    (values ∷ ((row_shown s a x y e ++ ones) ++ out a us)) (h.closing e.x e.y e.y (a && s))
    ∙ ap (λ (zs : List Shape). Wire e.x e.y e.x x e.y false ∷ values ∷ zs)
    (shown_gone s a m q x y e ones (out a us)
    ∙ closes_alike a b row row2 m (suc q) x y name es (after_shown s a m q x y e) (after_shown t b m q x y e)
    (open_shown s a m q x y e) (open_shown t b m q x y e) us vs next
    ∙ sym (shown_gone t b m q x y e twos (out b vs)))
    ∙ sym (kept other (Wire e.x e.y e.x x e.y (b && t))
    (values ∷ ((row_shown t b x y e ++ twos) ++ out b vs)) (i.closing e.x e.y e.y (b && t)))

-- a funnel of this place, height and room for a name
abbrev closed : Bool → Option ℕ → ℕ → ℕ → ℕ → ℕ → ℕ → List RowEnd → List Shape
closed on row m x y height name es =
    (Mux m x y height on ∷ row_closes on row m 0 x y es) ++ Wire (x + 14) y (x + 14) (x + 14 + name) y on ∷ []

closed_alike : (a b : Bool) (row row2 : Option ℕ) (m x y height name : ℕ) (es : List RowEnd)
    → AreAlike (closed a row m x y height name es) (closed b row2 m x y height name es)
closed_alike a b row row2 m x y height name es = λ us vs next before other h i.
    let ones : List Shape = row_closes a row m 0 x y es in
    let twos : List Shape = row_closes b row2 m 0 x y es in
    let last : Bool → Shape = λ (on : Bool). Wire (x + 14) y (x + 14) (x + 14 + name) y on in
    kept before (Mux m x y height a) ((ones ++ last a ∷ []) ++ us) (h (Mux m x y height a))
    ∙ ap (λ (zs : List Shape). Mux m x y height false ∷ zs)
    (ap (outline_after (Some (Mux m x y height a))) (append_assoc ones (last a ∷ []) us)
    ∙ closes_alike a b row row2 m 0 x y name es (Some (Mux m x y height a)) (Some (Mux m x y height b))
    (open_harmless (Some (Mux m x y height a)) x (λ s. refl))
    (open_harmless (Some (Mux m x y height b)) x (λ s. refl)) us vs next
    ∙ sym (ap (outline_after (Some (Mux m x y height b))) (append_assoc twos (last b ∷ []) vs)))
    ∙ sym (kept other (Mux m x y height b) ((twos ++ last b ∷ []) ++ vs) (i (Mux m x y height b)))

-- ---- the whole form, by two plans that differ in the rows that are selected

record ArePlans (p q : Plan) : Type 0 where
  box : (r : ℕ) → box_of p r ≡ box_of q r
  values : (m : ℕ) → (mux_of p m).values ≡ (mux_of q m).values
  name : (m : ℕ) → (mux_of p m).name ≡ (mux_of q m).name

abbrev end_at : Pen → RowEnd
end_at e = record { x = e.x; y = e.y }

module _ (p q : Plan) (k : ArePlans p q) where
  mutual
    pens_same : (pen : Pen) (items : Items) → pen_after p pen items ≡ pen_after q pen items
    pens_same pen Nothing = refl
    pens_same pen (RegThen r rest) =
        ap (λ (w : ℕ). pen_after p (after_register (next_wire_start pen) w) rest) (k.box r)
        ∙ pens_same (after_register (next_wire_start pen) (box_of q r)) rest
    pens_same pen (MuxThen m rows rest) =
        ap (λ (g : Fan). pen_after p (after_mux (next_wire_start pen) g (mux_of p m).values (mux_of p
        m).name) rest)
        (fans_same (fan_at (next_wire_start pen)) rows)
        ∙ ap (λ (v : ℕ). pen_after p (after_mux (next_wire_start pen)
        (fan_after q (fan_at (next_wire_start pen)) rows) v (mux_of p m).name) rest) (k.values m)
        ∙ ap (λ (n : ℕ). pen_after p (after_mux (next_wire_start pen)
        (fan_after q (fan_at (next_wire_start pen)) rows) (mux_of q m).values n) rest) (k.name m)
        ∙ pens_same (pen_past q pen m rows) rest

    fans_same : (f : Fan) (rows : Rows) → fan_after p f rows ≡ fan_after q f rows
    fans_same f NoRow = refl
    fans_same f (RowThen items rest) =
        ap (λ (e : Pen). fan_after p (after_row f e) rest) (pens_same (start_at f.x f.y) items)
        ∙ fans_same (after_row f (pen_after q (start_at f.x f.y) items)) rest

  past_same : (pen : Pen) (m : ℕ) (rows : Rows) → pen_past p pen m rows ≡ pen_past q pen m rows
  past_same pen m rows =
      ap (λ (g : Fan). after_mux (next_wire_start pen) g (mux_of p m).values (mux_of p m).name)
      (fans_same (fan_at (next_wire_start pen)) rows)
      ∙ ap (λ (v : ℕ). after_mux (next_wire_start pen) (fan_after q (fan_at (next_wire_start pen)) rows) v
      (mux_of p m).name)
      (k.values m)
      ∙ ap (λ (n : ℕ). after_mux (next_wire_start pen) (fan_after q (fan_at (next_wire_start pen)) rows)
      (mux_of q m).values n)
      (k.name m)

  ends_same : (f : Fan) (rows : Rows) → row_ends p f rows ≡ row_ends q f rows
  ends_same f NoRow = refl
  ends_same f (RowThen items rest) =
      ap (λ (e : Pen). end_at e ∷ row_ends p (after_row f e) rest) (pens_same (start_at f.x f.y) items)
      ∙ ap (λ (es : List RowEnd). end_at (pen_after q (start_at f.x f.y) items) ∷ es)
      (ends_same (after_row f (pen_after q (start_at f.x f.y) items)) rest)

  close_alike : (a b : Bool) (m : ℕ) (pen : Pen) (f : Fan) (rows : Rows)
      → AreAlike (mux_close a (mux_of p m) m pen (fan_after p f rows) (row_ends p f rows))
      (mux_close b (mux_of q m) m pen (fan_after q f rows) (row_ends q f rows))
  close_alike a b m pen f rows =
      let x : ℕ = funnel_at (fan_after p f rows) (mux_of p m).values in
      let height : ℕ = (fan_after p f rows).last - pen.y in
      let high : height ≡ (fan_after q f rows).last - pen.y =
      ap (λ (g : Fan). g.last - pen.y) (fans_same f rows) in
      let left : x ≡ funnel_at (fan_after q f rows) (mux_of q m).values =
      ap (λ (v : ℕ). funnel_at (fan_after p f rows) v) (k.values m)
      ∙ ap (λ (g : Fan). funnel_at g (mux_of q m).values) (fans_same f rows) in
      let mine : List Shape =
      closed a (mux_of p m).row m x pen.y height (mux_of p m).name (row_ends p f rows) in
      subst (λ (u : ℕ). AreAlike mine (closed b (mux_of q m).row m u pen.y ((fan_after q f rows).last - pen.y)
      (mux_of q m).name (row_ends q f rows))) left
      (subst (λ (u : ℕ). AreAlike mine
      (closed b (mux_of q m).row m x pen.y u (mux_of q m).name (row_ends q f rows))) high
      (subst (λ (u : ℕ). AreAlike mine (closed b (mux_of q m).row m x pen.y height u (row_ends q f rows)))
      (k.name m)
      (subst (λ (us : List RowEnd). AreAlike mine
      (closed b (mux_of q m).row m x pen.y height (mux_of p m).name us)) (ends_same f rows)
      (closed_alike a b (mux_of p m).row (mux_of q m).row m x pen.y height
      (mux_of p m).name (row_ends p f rows)))))

  mutual
    items_alike : (a b : Bool) (pen : Pen) (items : Items)
        → AreAlike (drawn p a pen items) (drawn q b pen items)
    items_alike a b pen Nothing = alike_none
    items_alike a b pen (RegThen r rest) =
        let x : ℕ = (next_wire_start pen).x + 18 in
        let y : ℕ = (next_wire_start pen).y in
        let here : Pen = after_register (next_wire_start pen) (box_of p r) in
        alike_both (register_drawn a pen r (box_of p r)) (register_drawn b pen r (box_of q r))
        (drawn p a here rest) (drawn q b (after_register (next_wire_start pen) (box_of q r)) rest)
        (alike_both (wire_to a pen) (wire_to b pen) (Register r x y (box_of p r) a ∷ [])
        (Register r x y (box_of q r) b ∷ []) (wires_alike a b pen)
        (alike_one (Register r x y (box_of p r) a) (Register r x y (box_of q r) b)
        (ap (λ (w : ℕ). Register r x y w false) (k.box r)) (λ s. refl) (λ s. refl)))
        (subst (λ (w : ℕ). AreAlike (drawn p a here rest) (drawn q b (after_register (next_wire_start pen)
        w) rest))
        (k.box r) (items_alike a b here rest))
    items_alike a b pen (MuxThen m rows rest) =
        let f : Fan = fan_at (next_wire_start pen) in
        let here : Pen = pen_past p pen m rows in
        let ones : List Shape = rows_drawn p a (mux_of p m).row (next_wire_start pen) 0 f rows in
        let twos : List Shape = rows_drawn q b (mux_of q m).row (next_wire_start pen) 0 f rows in
        let close : List Shape =
        mux_close a (mux_of p m) m (next_wire_start pen) (fan_after p f rows) (row_ends p f rows) in
        let shut : List Shape =
        mux_close b (mux_of q m) m (next_wire_start pen) (fan_after q f rows) (row_ends q f rows) in
        alike_both (mux_drawn p a pen m rows) (mux_drawn q b pen m rows) (drawn p a here rest)
        (drawn q b (pen_past q pen m rows) rest)
        (alike_both (wire_to a pen) (wire_to b pen) (ones ++ close) (twos ++ shut) (wires_alike a b pen)
        (alike_both ones twos close shut (rows_alike a b (mux_of p m).row (mux_of q m).row
        (next_wire_start pen) 0 f rows) (close_alike a b m (next_wire_start pen) f rows)))
        (subst (λ (e : Pen). AreAlike (drawn p a here rest) (drawn q b e rest))
        (past_same pen m rows) (items_alike a b here rest))

    rows_alike : (a b : Bool) (row row2 : Option ℕ) (pen : Pen) (n : ℕ) (f : Fan) (rows : Rows)
        → AreAlike (rows_drawn p a row pen n f rows) (rows_drawn q b row2 pen n f rows)
    rows_alike a b row row2 pen n f NoRow = alike_none
    rows_alike a b row row2 pen n f (RowThen items rest) =
        let start : Pen = start_at f.x f.y in
        let on : Bool = a && is_selected_row row n in
        let up : Bool = b && is_selected_row row2 n in
        let next : Fan = after_row f (pen_after p start items) in
        let ones : List Shape = rows_drawn p a row pen (suc n) next rest in
        alike_both (row_wire on pen f ∷ drawn p on start items) (row_wire up pen f ∷ drawn q up start items)
        ones (rows_drawn q b row2 pen (suc n) (after_row f (pen_after q start items)) rest)
        (alike_both (row_wire on pen f ∷ []) (row_wire up pen f ∷ [])
        (drawn p on start items) (drawn q up start items)
        (wire_alike (pen.x + 18) pen.y (pen.x + 26) f.x f.y on up) (items_alike on up start items))
        (subst (λ (e : Pen). AreAlike ones (rows_drawn q b row2 pen (suc n) (after_row f e) rest))
        (pens_same start items) (rows_alike a b row row2 pen (suc n) next rest))

  shapes_alike : (a b : Bool) (form : Items) → outline (shapes_of a p form) ≡ outline (shapes_of b q form)
  shapes_alike a b form =
      let last : Bool → Pen → List Shape = λ (on : Bool) (e : Pen). Wire e.x e.y e.x (e.x + 18) e.y on ∷ [] in
      let end : Pen = pen_after p first_pen form in
      let all : AreAlike (shapes_of a p form) (shapes_of b q form) =
      alike_both (drawn p a first_pen form) (drawn q b first_pen form) (last a end)
      (last b (pen_after q first_pen form)) (items_alike a b first_pen form)
      (subst (λ (e : Pen). AreAlike (last a end) (last b e)) (pens_same first_pen form)
      (wire_alike end.x end.y end.x (end.x + 18) end.y a b)) in
      ap outline (sym (append-nil (shapes_of a p form))) ∙ all [] [] (λ before other h i. refl) None None
      (λ s. refl) (λ s. refl) ∙ ap outline (append-nil (shapes_of b q form))

abbrev no_plan : MuxPlan
no_plan = record { values = 0; name = 0; row = None }

values_same : (net : Net) (one other : Holds) (ms : List ℕ) (m : ℕ)
    → (get_or (map (mux_plan net one) ms) m no_plan).values
    ≡ (get_or (map (mux_plan net other) ms) m no_plan).values
values_same net one other [] m = refl
values_same net one other (k ∷ ms) zero = refl
values_same net one other (k ∷ ms) (suc m) = values_same net one other ms m

names_same : (net : Net) (one other : Holds) (ms : List ℕ) (m : ℕ)
    → (get_or (map (mux_plan net one) ms) m no_plan).name
    ≡ (get_or (map (mux_plan net other) ms) m no_plan).name
names_same net one other [] m = refl
names_same net one other (k ∷ ms) zero = refl
names_same net one other (k ∷ ms) (suc m) = names_same net one other ms m

pub outlines : (net : Net) (form : Items) (one other : Holds)
    → outline (drawing_of net one form).shapes ≡ outline (drawing_of net other form).shapes
outlines net form one other =
    let ms : List ℕ = range_with_len 0 (length net.muxes.items) in
    shapes_alike (plan_of net one) (plan_of net other) (record
    { box = λ r. refl; values = values_same net one other ms; name = names_same net one other ms })
    (has_path net one) (has_path net other) form
