-- The boxes and funnels of a list of items follow one another, and those of rows lie one below the other.
use Rattle.std.proofs.Common.{◌≡◌, ◌⊎◌, inl, inr, ℕ, suc, ◌+◌, ◌-◌, ◌≤◌, Bool, true, false, List, [], ◌∷◌}
use Rattle.std.proofs.Common.{◌++◌, Option, refl, sym, ◌∙◌, subst, arith, append-nil}
use Rattle.std.specs.Prelude.{All, cond, ◌&&◌}
use Rattle.std.proofs.lemmas.List.Elements.{All-nil, All-cons, All-append, All-weaker, All-head, All-tail}
use Rattle.net_tree.specs.Form.{Items, Nothing, RegThen, MuxThen, Rows, NoRow, RowThen}
use Rattle.net_picture.specs.declared.plan.MuxPlan.{MuxPlan}
use Rattle.net_picture.specs.declared.pen.Pen.{Pen}
use Rattle.net_picture.specs.declared.pen.Fan.{Fan}
use Rattle.net_picture.specs.declared.shape.Shape.TheVariants.{Wire}
use Rattle.net_picture.specs.Apart.{Area, area_of, areas_in, SharesNone, AreApart, IsWithin}
use Rattle.net_picture.specs.Drawing.{first_pen, drawing_by, shapes_of}
use Rattle.net_picture.specs.Layout.{drawn, pen_after, fan_after, rows_drawn, register_drawn, mux_drawn}
use Rattle.net_picture.specs.Layout.{pen_past, row_wire, is_selected_row}
use Rattle.net_picture.specs.Pens.{start_at, is_full, next_line, next_wire_start, moved, after_register}
use Rattle.net_picture.specs.Pens.{after_row}
use Rattle.net_picture.specs.Pens.{fan_at, funnel_at, after_mux}
use Rattle.net_picture.specs.Plan.{Plan, box_of, mux_of}
use Rattle.net_picture.proofs.Gathering.{IsOfThings, box_shape, funnel_shape, picked_register, picked_mux}
use Rattle.net_picture.proofs.Gathering.{picked_row, picked_both}

-- ---- pens

record IsPen (p : Pen) : Type 0 where
  below : 13 ≤ p.y
  line : p.left ≤ p.x
  within : p.x ≤ p.right
  deep : p.y + 13 ≤ p.bottom

-- a list goes on: on the same line to the right, or on a line below all of this one
record GoesOn (p q : Pen) : Type 0 where
  left : p.left ≡ q.left
  right : p.right ≤ q.right
  down : p.y ≤ q.y
  bottom : p.bottom ≤ q.bottom
  on : ((p.y ≡ q.y) × (p.x ≤ q.x)) ⊎ (p.bottom + 13 ≤ q.y)

goes_on_itself : (p : Pen) → GoesOn p p
goes_on_itself p =
    record {
      left = refl;
      right = omega arith;
      down = omega arith;
      bottom = omega arith;
      on = inl (refl, omega arith);
    }

-- the same line twice, or a line below
goes_on_then : (p q r : Pen) → GoesOn p q → GoesOn q r → GoesOn p r
goes_on_then p q r a b = record {
  left = a.left ∙ b.left;
  right = omega (arith, a.right, b.right);
  down = omega (arith, a.down, b.down);
  bottom = omega (arith, a.bottom, b.bottom);
  on = elim a.on [
    | inl s ↦ elim b.on [
      | inl t ↦ inl (s.0 ∙ t.0, omega (arith, s.1, t.1))
      | inr t ↦ inr (omega (arith, a.bottom, t))
    ]
    | inr s ↦ inr (omega (arith, s, b.down))
  ];
}

-- ---- where areas lie

-- after what was drawn up to a pen, and before what is drawn from it on
record StartsAt (p : Pen) (a : Area) : Type 0 where
  left : p.left ≤ a.left
  top : p.y ≤ a.top + 13
  after : (p.x ≤ a.left) ⊎ (p.bottom ≤ a.top)

record EndsAt (p : Pen) (a : Area) : Type 0 where
  whole : a.top + 26 ≤ a.bottom
  right : a.right ≤ p.right
  bottom : a.bottom ≤ p.bottom
  before : (a.right ≤ p.x) ⊎ (a.bottom + 13 ≤ p.y)

starts_before : (p q : Pen) → GoesOn p q → (a : Area) → StartsAt q a → StartsAt p a
starts_before p q g a s = record {
  left = omega (arith, g.left, s.left);
  top = omega (arith, g.down, s.top);
  after = elim g.on [
    | inl same ↦ elim s.after [
      | inl x ↦ inl (omega (arith, same.1, x))
      | inr y ↦ inr (omega (arith, g.bottom, y))
    ]
    | inr below ↦ inr (omega (arith, below, s.top))
  ];
}

ends_after : (p q : Pen) → GoesOn p q → (a : Area) → EndsAt p a → EndsAt q a
ends_after p q g a e = record {
  whole = e.whole;
  right = omega (arith, g.right, e.right);
  bottom = omega (arith, g.bottom, e.bottom);
  before = elim g.on [
    | inl same ↦ elim e.before [
      | inl x ↦ inl (omega (arith, same.1, x))
      | inr y ↦ inr (omega (arith, same.0, y))
    ]
    | inr below ↦ inr (omega (arith, below, e.bottom))
  ];
}

-- two areas with something between
left_of : (a b : Area) → a.right ≤ b.left → SharesNone a b
left_of a b h x y s t = omega (arith, h, s.to_right, t.from_left)

above : (a b : Area) → a.bottom ≤ b.top → SharesNone a b
above a b h x y s t = omega (arith, h, s.to_bottom, t.from_top)

parted : (p : Pen) (a b : Area) → EndsAt p a → StartsAt p b → SharesNone a b
parted p a b e s = elim e.before [
  | inl x ↦ elim s.after [
    | inl z ↦ left_of a b (omega (arith, x, z))
    | inr z ↦ above a b (omega (arith, e.bottom, z))
  ]
  | inr y ↦ above a b (omega (arith, y, s.top))
]

-- lists of areas that are apart
apart_both : (xs bs : List Area) → AreApart xs → AreApart bs
    → All (λ a. All (SharesNone a) bs) xs → AreApart (xs ++ bs)
apart_both [] bs a b c = b
apart_both (x ∷ xs) bs a b c = (
  All-append (SharesNone x) xs bs a.0 (All-head (λ y. All (SharesNone y) bs) x xs c),
  apart_both xs bs a.1 b (All-tail (λ y. All (SharesNone y) bs) x xs c),
)

-- ---- what holds of items

record Fits (p q : Pen) (xs : List Area) : Type 0 where
  goes : GoesOn p q
  pen : IsPen q
  starts : All (StartsAt p) xs
  ends : All (EndsAt q) xs
  apart : AreApart xs

fits_none : (p : Pen) → IsPen p → Fits p p []
fits_none p h =
    record {
      goes = goes_on_itself p;
      pen = h;
      starts = All-nil (StartsAt p);
      ends = All-nil (EndsAt p);
      apart = tt;
    }

fits_then : (p q r : Pen) (xs bs : List Area) → Fits p q xs → Fits q r bs → Fits p r (xs ++ bs)
fits_then p q r xs bs a b = record {
  goes = goes_on_then p q r a.goes b.goes;
  pen = b.pen;
  starts = All-append (StartsAt p) xs bs a.starts
      (All-weaker (StartsAt q) (StartsAt p) (starts_before p q a.goes) bs b.starts);
  ends = All-append (EndsAt r) xs bs
      (All-weaker (EndsAt q) (EndsAt r) (ends_after q r b.goes) xs a.ends) b.ends;
  apart = apart_both xs bs a.apart b.apart (All-weaker (EndsAt q) (λ x. All (SharesNone x) bs)
      (λ x e. All-weaker (StartsAt q) (SharesNone x) (λ y s. parted q x y e s) bs b.starts) xs a.ends);
}

-- the next line
ready_fits : (p : Pen) → IsPen p → Fits p (next_wire_start p) []
ready_fits p h = elim (is_full p) as (λ (b : Bool). Fits p (cond b (next_line p) p) []) [
  | true ↦ record {
    goes = record {
      left = refl;
      right = omega arith;
      down = omega (arith, h.deep);
      bottom = omega arith;
      on = inr (omega arith);
    };
    pen = record {
      below = omega (arith, h.below, h.deep);
      line = omega arith;
      within = omega (arith, h.line, h.within);
      deep = omega arith;
    };
    starts = All-nil (StartsAt p);
    ends = All-nil (EndsAt (next_line p));
    apart = tt;
  }
  | false ↦ fits_none p h
]

-- an item on the line: x after the pen, and bottom
moved_pen : (p : Pen) (x bottom : ℕ) → IsPen p → p.x ≤ x → IsPen (moved p x bottom)
moved_pen p x bottom h le = record {
  below = h.below;
  line = omega (arith, h.line, le);
  within = omega arith;
  deep = omega (arith, h.deep);
}

moved_on : (p : Pen) (x bottom : ℕ) → p.x ≤ x → GoesOn p (moved p x bottom)
moved_on p x bottom le =
    record { left = refl; right = omega arith; down = omega arith; bottom = omega arith; on = inl (refl, le) }

box_fits : (p : Pen) (width : ℕ) → IsPen p → Fits p (after_register p width)
    (record { left = p.x + 18; right = p.x + 18 + width; top = p.y - 13; bottom = p.y + 13 } ∷ [])
box_fits p width h =
    let a : Area = record { left = p.x + 18; right = p.x + 18 + width; top = p.y - 13; bottom = p.y + 13 } in
    let q : Pen = after_register p width in
    let le : p.x ≤ p.x + 18 + width = omega arith in
    let starts : StartsAt p a =
    record { left = omega (arith, h.line); top = omega (arith, h.below); after = inl (omega arith) } in
    let ends : EndsAt q a = record {
      whole = omega (arith, h.below);
      right = omega arith;
      bottom = omega (arith, h.deep);
      before = inl (omega arith);
    } in
    record {
      goes = moved_on p (p.x + 18 + width) p.bottom le;
      pen = moved_pen p (p.x + 18 + width) p.bottom h le;
      starts = All-cons (StartsAt p) a [] starts (All-nil (StartsAt p));
      ends = All-cons (EndsAt q) a [] ends (All-nil (EndsAt q));
      apart = (All-nil (SharesNone a), tt);
    }

-- ---- rows

record IsFan (f : Fan) : Type 0 where
  below : 13 ≤ f.y
  within : f.x ≤ f.right
  deep : f.last + 13 ≤ f.bottom

record StartsIn (f : Fan) (a : Area) : Type 0 where
  left : f.x ≤ a.left
  top : f.y ≤ a.top + 13

record EndsIn (f : Fan) (a : Area) : Type 0 where
  whole : a.top + 26 ≤ a.bottom
  right : a.right ≤ f.right
  bottom : a.bottom ≤ f.bottom

record FanGoesOn (f g : Fan) : Type 0 where
  x : f.x ≡ g.x
  right : f.right ≤ g.right
  bottom : f.bottom ≤ f.y + 16 → f.bottom ≤ g.bottom

record RowsFit (f g : Fan) (xs : List Area) : Type 0 where
  goes : FanGoesOn f g
  fan : IsFan g
  starts : All (StartsIn f) xs
  ends : All (EndsIn g) xs
  apart : AreApart xs

start_pen : (f : Fan) → IsFan f → IsPen (start_at f.x f.y)
start_pen f h = record { below = h.below; line = omega arith; within = omega arith; deep = omega arith }

-- a row, and then the others below it
row_fits : (f g : Fan) (p : Pen) (xs bs : List Area) → IsFan f → Fits (start_at f.x f.y) p xs
    → RowsFit (after_row f p) g bs → RowsFit f g (xs ++ bs)
row_fits f g p xs bs h a b =
    let next : Fan = after_row f p in
    let down : next.bottom ≤ g.bottom = b.goes.bottom (omega arith) in
    let upper : (x : Area) → EndsAt p x → EndsIn g x = λ x e. record {
      whole = e.whole;
      right = omega (arith, e.right, b.goes.right);
      bottom = omega (arith, e.bottom, down);
    } in
    let lower : (x : Area) → StartsIn next x
    → StartsIn f x = λ x s. record { left = s.left; top = omega (arith, s.top, a.goes.bottom) } in
    let first : (x : Area) → StartsAt (start_at f.x f.y) x
    → StartsIn f x = λ x s. record { left = s.left; top = s.top } in
    record {
      goes = record {
        x = b.goes.x;
        right = omega (arith, b.goes.right);
        bottom = λ small. omega (arith, small, a.goes.bottom, down);
      };
      fan = b.fan;
      starts = All-append (StartsIn f) xs bs (All-weaker (StartsAt (start_at f.x f.y))
          (StartsIn f) first xs a.starts) (All-weaker (StartsIn next) (StartsIn f) lower bs b.starts);
      ends = All-append (EndsIn g) xs bs (All-weaker (EndsAt p) (EndsIn g) upper xs a.ends) b.ends;
      apart = apart_both xs bs a.apart b.apart
          (All-weaker (EndsAt p) (λ x. All (SharesNone x) bs) (λ x e. All-weaker (StartsIn next)
          (SharesNone x) (λ y s. above x y (omega (arith, e.bottom, s.top))) bs b.starts) xs a.ends);
    }

next_fan : (f : Fan) (p : Pen) (xs : List Area) → IsFan f
    → Fits (start_at f.x f.y) p xs → IsFan (after_row f p)
next_fan f p xs h a =
    record { below = omega arith; within = omega (arith, h.within); deep = a.pen.deep }

-- a multiplexer: its rows, and then its funnel
mux_fits : (p : Pen) (g : Fan) (values name : ℕ) (xs : List Area) → IsPen p → RowsFit (fan_at p) g xs
    → Fits p (after_mux p g values name) (xs ++ record {
      left = funnel_at g values;
      right = funnel_at g values + 14;
      top = p.y - 13;
      bottom = p.y + (g.last - p.y) + 13;
    } ∷ [])
mux_fits p g values name xs h r =
    let x : ℕ = funnel_at g values in
    let end : ℕ = x + 14 + name in
    let q : Pen = after_mux p g values name in
    let a : Area = record { left = x; right = x + 14; top = p.y - 13; bottom = p.y + (g.last - p.y) + 13 } in
    let wide : p.x + 34 ≤ g.right = omega (arith, r.goes.right) in
    let le : p.x ≤ end = omega (arith, wide) in
    let from : (y : Area) → StartsIn (fan_at p) y → StartsAt p y = λ y s.
    record { left = omega (arith, h.line, s.left); top = s.top; after = inl (omega (arith, s.left)) } in
    let upto : (y : Area) → EndsIn g y → EndsAt q y = λ y e. record {
      whole = e.whole;
      right =
          omega (arith, e.right);
      bottom = omega (arith, e.bottom);
      before = inl (omega (arith, e.right));
    } in
    let starts : StartsAt p a = record {
      left = omega (arith, h.line, wide);
      top = omega (arith, h.below);
      after = inl (omega (arith, wide));
    } in
    let ends : EndsAt q a = record {
      whole = omega (arith, h.below);
      right = omega arith;
      bottom = omega (arith, h.deep, r.fan.deep);
      before = inl (omega arith);
    } in
    record {
      goes = moved_on p end g.bottom le;
      pen = moved_pen p end g.bottom h le;
      starts = All-append (StartsAt p) xs (a ∷ []) (All-weaker (StartsIn (fan_at p))
          (StartsAt p) from xs r.starts) (All-cons (StartsAt p) a [] starts (All-nil (StartsAt p)));
      ends = All-append (EndsAt q) xs (a ∷ []) (All-weaker (EndsIn g) (EndsAt q) upto xs r.ends)
          (All-cons (EndsAt q) a [] ends (All-nil (EndsAt q)));
      apart = apart_both xs (a ∷ []) r.apart (All-nil (SharesNone a), tt)
          (All-weaker (EndsIn g) (λ y. All (SharesNone y) (a ∷ [])) (λ y e. All-cons (SharesNone y) a []
          (left_of y a (omega (arith, e.right))) (All-nil (SharesNone y))) xs r.ends);
    }

-- ---- the form

areas_of_things : IsOfThings area_of
areas_of_things = record { values = λ m q x y. refl; wire = λ x y turn to_x to_y active. refl }

first_fan : (p : Pen) → IsPen p → IsFan (fan_at p)
first_fan p h = record { below = h.below; within = omega arith; deep = h.deep }

rows_none : (f : Fan) → IsFan f → RowsFit f f []
rows_none f h = record {
  goes = record { x = refl; right = omega arith; bottom = λ small. omega arith };
  fan = h;
  starts = All-nil (StartsIn f);
  ends = All-nil (EndsIn f);
  apart = tt;
}

module _ (plan : Plan) where
  mutual
    items_fit : (active : Bool) (p : Pen) (items : Items) → IsPen p
        → Fits p (pen_after plan p items) (areas_in (drawn plan active p items))
    items_fit active p Nothing h = fits_none p h
    items_fit active p (RegThen r rest) h =
        let here : Pen = next_wire_start p in
        let first = ready_fits p h in
        let width : ℕ = box_of plan r in
        let q : Pen = after_register here width in
        let box : List Area = area_of (box_shape active p r width) in
        let mine : Fits p q box = fits_then p here q [] box first (box_fits here width first.pen) in
        let others : List Area = areas_in (drawn plan active q rest) in
        subst (Fits p (pen_after plan q rest))
        (sym (picked_both area_of areas_of_things (register_drawn active p r width) (drawn plan active q rest)
        box others (picked_register area_of areas_of_things active p r width) refl))
        (fits_then p q (pen_after plan q rest) box others mine (items_fit active q rest mine.pen))
    items_fit active p (MuxThen m rows rest) h =
        let here : Pen = next_wire_start p in
        let first = ready_fits p h in
        let part : MuxPlan = mux_of plan m in
        let f : Fan = fan_at here in
        let g : Fan = fan_after plan f rows in
        let q : Pen = pen_past plan p m rows in
        let inside : List Area = areas_in (rows_drawn plan active part.row here 0 f rows) in
        let all : List Area = inside ++ area_of (funnel_shape active part m here g) in
        let mine : Fits p q all = fits_then p here q [] all first (mux_fits here g part.values part.name
        inside first.pen (rows_fit active part.row here 0 f rows (first_fan here first.pen))) in
        let others : List Area = areas_in (drawn plan active q rest) in
        subst (Fits p (pen_after plan q rest))
        (sym (picked_both area_of areas_of_things (mux_drawn plan active p m rows) (drawn plan active q rest)
        all others (picked_mux area_of areas_of_things plan active p m rows) refl))
        (fits_then p q (pen_after plan q rest) all others mine (items_fit active q rest mine.pen))

    rows_fit : (active : Bool) (row : Option ℕ) (from : Pen) (q : ℕ) (f : Fan) (rows : Rows) → IsFan f
        → RowsFit f (fan_after plan f rows) (areas_in (rows_drawn plan active row from q f rows))
    rows_fit active row from q f NoRow h = rows_none f h
    rows_fit active row from q f (RowThen items rest) h =
        let on : Bool = active && is_selected_row row q in
        let start : Pen = start_at f.x f.y in
        let p : Pen = pen_after plan start items in
        let next : Fan = after_row f p in
        let mine : List Area = areas_in (drawn plan on start items) in
        let others : List Area = areas_in (rows_drawn plan active row from (suc q) next rest) in
        let fit : Fits start p mine = items_fit on start items (start_pen f h) in
        subst (RowsFit f (fan_after plan next rest))
        (sym (picked_both area_of areas_of_things (row_wire on from f ∷ drawn plan on start items)
        (rows_drawn plan active row from (suc q) next rest) mine others
        (picked_row area_of areas_of_things on from f (drawn plan on start items)) refl))
        (row_fits f (fan_after plan next rest) p mine others h fit
        (rows_fit active row from (suc q) next rest (next_fan f p mine h fit)))

  pub form_apart : (on : Bool) (form : Items) → AreApart (areas_in (drawing_by on plan form).shapes)
      × All (IsWithin (drawing_by on plan form).width (drawing_by on plan form).height)
      (areas_in (drawing_by on plan form).shapes)
  form_apart on form =
      let p : Pen = pen_after plan first_pen form in
      let mine : List Area = areas_in (drawn plan on first_pen form) in
      let start : IsPen first_pen =
      record { below = omega arith; line = omega arith; within = omega arith; deep = omega arith } in
      let fit : Fits first_pen p mine = items_fit on first_pen form start in
      let all : areas_in (shapes_of on plan form)
      ≡ mine = picked_both area_of areas_of_things (drawn plan on first_pen form)
      (Wire p.x p.y p.x (p.x + 18) p.y on ∷ []) mine [] refl refl ∙ append-nil mine in
      let inside : (a : Area) → EndsAt p a → IsWithin (p.right + 66) (p.bottom + 20) a = λ a e.
      record { whole = e.whole; right = omega (arith, e.right); bottom = omega (arith, e.bottom) } in (
        subst AreApart (sym all) fit.apart,
        subst (All (IsWithin (p.right + 66) (p.bottom + 20))) (sym all)
            (All-weaker (EndsAt p) (IsWithin (p.right + 66) (p.bottom + 20)) inside mine fit.ends),
      )
