-- The boxes, the funnels and the wires of rows that are in colour are those on the active path.
use Rattle.std.proofs.Common.{◌≡◌, ◌⊎◌, inl, inr, ⊎_elim, ℕ, zero, suc, ◌+◌, ◌<◌, ◌≤◌, Bool, true, false}
use Rattle.std.proofs.Common.{List, [], ◌∷◌, ◌++◌, Option, Some, None, length, map, refl, sym, ap, ◌∙◌, subst}
use Rattle.std.proofs.Common.{arith, append_assoc, append-nil}
use Rattle.std.specs.Prelude.{◌==◌, ◌&&◌, ◌||◌, ◌-◌, cond, reverse}
use Rattle.std.specs.List.{flat_map, list_any}
use Rattle.std.proofs.lemmas.Bool.{ne_eqb}
use Rattle.std.proofs.lemmas.Bool.Decides.{eqb_tells}
use Rattle.std.proofs.lemmas.Grind.{flat_map-append}
use Rattle.std.proofs.lemmas.List.{map-append, reverse-append, reverse-reverse}
use Rattle.std.proofs.lemmas.List.Folds.{list_any-append}
use Rattle.ij_bits.proofs.Tests.{number_self}
use Rattle.ij_bits.proofs.Lists.{map_some}
use Rattle.net_graph.specs.Chain.{NotIn, IsRoute}
use Rattle.net_graph.specs.declared.net.Net.{Net}
use Rattle.net_graph.specs.declared.net.Point.{Point}
use Rattle.net_graph.specs.declared.net.Point.TheVariants.{Entry, Reg as RegAt, Mux as MuxAt}
use Rattle.net_graph.specs.declared.net.Row.{Row}
use Rattle.net_graph.specs.Path.{active, path, rows_of}
use Rattle.net_graph.specs.Signals.{Holds}
use Rattle.net_graph.proofs.Tracing.{route_fits}
use Rattle.net_tree.specs.Entries.{row_count}
use Rattle.net_tree.specs.Form.{Items, Nothing, RegThen, MuxThen, Rows, NoRow, RowThen, IsWired, AreWired}
use Rattle.net_tree.specs.Form.{IsEachOnce, Describes}
use Rattle.net_tree.specs.Places.{same_point}
use Rattle.net_picture.specs.declared.plan.MuxPlan.{MuxPlan}
use Rattle.net_picture.specs.declared.pen.Pen.{Pen}
use Rattle.net_picture.specs.declared.pen.Fan.{Fan}
use Rattle.net_picture.specs.declared.shape.Shape.{Shape}
use Rattle.net_picture.specs.declared.shape.Shape.TheVariants.{Register, Mux, Values, Wire}
use Rattle.net_picture.specs.declared.shape.RowEnd.{RowEnd}
use Rattle.net_picture.specs.Drawing.{first_pen, shapes_of, drawing_of}
use Rattle.net_picture.specs.Layout.{drawn, pen_after, fan_after, row_ends, rows_drawn, mux_close, pen_past}
use Rattle.net_picture.specs.Layout.{wire_to, row_wire, row_shown, row_close, row_closes, is_selected_row}
use Rattle.net_picture.specs.Marked.{active_boxes_in, funnel_colour, funnel_colours}
use Rattle.net_picture.specs.Met.{trace_back, met_from, register_at, is_mux_met, is_row_met}
use Rattle.net_picture.specs.Pens.{start_at, is_full, next_wire_start, after_register, after_row, fan_at}
use Rattle.net_picture.specs.Pens.{funnel_at}
use Rattle.net_picture.specs.Plan.{Plan, box_of, has_path, mux_of, plan_of}
use Rattle.net_picture.specs.Rows.{next_of, wire_into, row_colours}
use Rattle.net_picture.specs.Whole.{funnels_in}
use Rattle.net_picture.proofs.Back.{registers_met, entry_last, way, path_there, path_gone}
use Rattle.net_picture.proofs.Gathering.{IsOfThings, picked_both}
use Rattle.net_picture.proofs.Marking.{point_of_shape, points_in, of_points, boxes_again, off, row_known}
use Rattle.net_picture.proofs.Whole.{whole}

-- ---- what is met

one_reversed : (p : Point) (rs : List ℕ) → reverse rs ++ (register_at p ++ []) ≡ reverse (register_at p ++ rs)
one_reversed Entry rs = append-nil (reverse rs)
one_reversed (RegAt r) rs = sym (reverse-append (r ∷ []) rs)
one_reversed (MuxAt m) rs = append-nil (reverse rs)

registers_reversed : (ps : List Point) → flat_map register_at (reverse ps) ≡ reverse (flat_map register_at ps)
registers_reversed [] = refl
registers_reversed (p ∷ ps) =
    ap (flat_map register_at) (reverse-append (p ∷ []) ps) ∙ flat_map-append register_at (reverse ps) (p ∷ [])
    ∙ ap (λ (rs : List ℕ). rs ++ (register_at p ++ [])) (registers_reversed ps)
    ∙ one_reversed p (flat_map register_at ps)

or_turn : (a b : Bool) → (a || (b || false)) ≡ (b || a)
or_turn true true = refl
or_turn true false = refl
or_turn false true = refl
or_turn false false = refl

or_none : (a : Bool) → (a || false) ≡ a
or_none true = refl
or_none false = refl

any_reversed : (test : Point → Bool) (ps : List Point) → list_any test (reverse ps) ≡ list_any test ps
any_reversed test [] = refl
any_reversed test (p ∷ ps) =
    ap (list_any test) (reverse-append (p ∷ []) ps) ∙ list_any-append test (reverse ps) (p ∷ [])
    ∙ ap (λ (b : Bool). b || (test p || false)) (any_reversed test ps) ∙ or_turn (list_any test ps) (test p)

module _ (net : Net) (holds : Holds) where
  no_mux_last : (m n : ℕ) → list_any (same_point (MuxAt m)) (met_from net holds n (Some Entry)) ≡ false
  no_mux_last m zero = refl
  no_mux_last m (suc zero) = refl
  no_mux_last m (suc (suc n)) = refl

module _ (net : Net) (form : Items) (holds : Holds) (d : Describes net form) where
  abbrev last : Bool → Shape
  last on =
      let p = pen_after (plan_of net holds) first_pen form in
      Wire p.x p.y p.x (p.x + 18) p.y on

  abbrev mine : List Point
  mine = points_in (drawn (plan_of net holds) true first_pen form)

  all_points : (on : Bool) → points_in (shapes_of on (plan_of net holds) form)
      ≡ points_in (drawn (plan_of net holds) on first_pen form)
  all_points on =
      let these : List Point = points_in (drawn (plan_of net holds) on first_pen form) in
      picked_both point_of_shape of_points (drawn (plan_of net holds) on first_pen form)
      (last on ∷ []) these [] refl refl ∙ append-nil these

  -- where there is a path, it meets what is in colour
  met_there : (registers : List ℕ) (e : path net holds ≡ Some registers) → trace_back net holds
      ≡ reverse mine ++ met_from net holds (way net holds form d registers e).moves (Some Entry)
  met_there registers e =
      ap (λ (p : Point). met_from net holds (length net.regs.items + length net.muxes.items) (Some p))
      d.output ∙ (way net holds form d registers e).points first_pen

  pub marked : (registers : List ℕ) → path net holds ≡ Some registers
      → active_boxes_in (drawing_of net holds form).shapes ≡ registers
  marked registers e =
      let plan = plan_of net holds in
      let w = way net holds form d registers e in
      let (out, is, same) = map_some reverse (active net holds) registers e in
      let boxes : List ℕ = flat_map register_at mine in
      let outs : reverse boxes ≡ out =
      sym (ap (flat_map register_at) (met_there registers e)
      ∙ flat_map-append register_at (reverse mine) (met_from net holds w.moves (Some Entry))
      ∙ ap (λ (rs : List ℕ). flat_map register_at (reverse mine) ++ rs) (entry_last net holds w.moves)
      ∙ append-nil (flat_map register_at (reverse mine)) ∙ registers_reversed mine)
      ∙ registers_met net holds (length net.regs.items + length net.muxes.items) net.out out is in
      ap (λ (b : Bool). active_boxes_in (shapes_of b plan form)) (path_there net holds registers e)
      ∙ boxes_again (shapes_of true plan form) ∙ ap (flat_map register_at) (all_points true)
      ∙ sym (reverse-reverse boxes) ∙ ap reverse outs ∙ same

  -- a multiplexer is on the path exactly where its funnel is in colour
  mux_met : (m : ℕ) (o : Option (List ℕ)) → path net holds ≡ o → is_mux_met net holds m
      ≡ list_any (same_point (MuxAt m)) (points_in (drawing_of net holds form).shapes)
  mux_met m (Some registers) e =
      let plan = plan_of net holds in
      let w = way net holds form d registers e in
      let test : Point → Bool = same_point (MuxAt m) in
      ap (λ (b : Bool). list_any test (cond b (trace_back net holds) [])) (path_there net holds registers e)
      ∙ ap (list_any test) (met_there registers e)
      ∙ list_any-append test (reverse mine) (met_from net holds w.moves (Some Entry))
      ∙ ap (λ (b : Bool). list_any test (reverse mine) || b) (no_mux_last net holds m w.moves)
      ∙ or_none (list_any test (reverse mine)) ∙ any_reversed test mine
      ∙ ap (list_any test) (sym (all_points true)) ∙ sym (ap (λ (b : Bool). list_any test
      (points_in (shapes_of b plan form))) (path_there net holds registers e))
  mux_met m None e =
      let plan = plan_of net holds in
      let test : Point → Bool = same_point (MuxAt m) in
      ap (λ (b : Bool). list_any test (cond b (trace_back net holds) [])) (path_gone net holds e)
      ∙ sym (ap (λ (b : Bool). list_any test (points_in (shapes_of b plan form))) (path_gone net holds e)
      ∙ ap (list_any test) (all_points false ∙ off plan first_pen form))

pub unmarked : (net : Net) (form : Items) (holds : Holds) → path net holds ≡ None
    → active_boxes_in (drawing_of net holds form).shapes ≡ []
unmarked net form holds e =
    let plan = plan_of net holds in
    let p = pen_after plan first_pen form in
    ap (λ (b : Bool). active_boxes_in (shapes_of b plan form)) (path_gone net holds e)
    ∙ boxes_again (shapes_of false plan form)
    ∙ ap (flat_map register_at) (picked_both point_of_shape of_points (drawn plan false first_pen form)
    (Wire p.x p.y p.x (p.x + 18) p.y false ∷ []) [] [] (off plan first_pen form) refl)

-- ---- funnels

module _ (m : ℕ) where
  abbrev is_in_colour : List Shape → Bool
  is_in_colour shapes = list_any (same_point (MuxAt m)) (points_in shapes)

  colour_off : (k x y height : ℕ) (active : Bool) (ss : List Shape) → (m == k) ≡ false
      → is_in_colour (Mux k x y height active ∷ ss) ≡ is_in_colour ss
  colour_off k x y height true ss e = ap (λ (b : Bool). b || is_in_colour ss) e
  colour_off k x y height false ss e = refl

  colour_on : (k x y height : ℕ) (active : Bool) (ss : List Shape) → (m == k) ≡ true → is_in_colour ss ≡ false
      → is_in_colour (Mux k x y height active ∷ ss) ≡ active
  colour_on k x y height true ss e none = ap (λ (b : Bool). b || is_in_colour ss) e
  colour_on k x y height false ss e none = none

  box_colour : (r x y width : ℕ) (active : Bool) (ss : List Shape)
      → is_in_colour (Register r x y width active ∷ ss) ≡ is_in_colour ss
  box_colour r x y width true ss = refl
  box_colour r x y width false ss = refl

  no_funnel : (shapes : List Shape) → NotIn m (funnels_in shapes)
      → (funnel_colours m shapes ≡ []) × (is_in_colour shapes ≡ false)
  no_funnel [] out = (refl, refl)
  no_funnel (Register r x y width active ∷ ss) out =
      let later = no_funnel ss out in
      (later.0, box_colour r x y width active ss ∙ later.1)
  no_funnel (Mux k x y height active ∷ ss) out =
      let later = no_funnel ss out.1 in (
        ap (λ (b : Bool). cond b (active ∷ []) [] ++ funnel_colours m ss) (ne_eqb k m out.0) ∙ later.0,
        colour_off k x y height active ss (ne_eqb m k (λ e. out.0 (sym e))) ∙ later.1,
      )
  no_funnel (Values k q x y ∷ ss) out = no_funnel ss out
  no_funnel (Wire x y turn to_x to_y active ∷ ss) out = no_funnel ss out

  abbrev HasFunnel : List Shape → Type 0
  HasFunnel shapes = funnel_colours m shapes ≡ is_in_colour shapes ∷ []

  one_funnel : (n : ℕ) (shapes : List Shape) → IsRoute n (funnels_in shapes)
      → NotIn m (funnels_in shapes) ⊎ HasFunnel shapes
  one_funnel n [] route = inl tt
  one_funnel n (Register r x y width active ∷ ss) route = elim (one_funnel n ss route) [
    | inl out ↦ inl out
    | inr e ↦ inr (e ∙ ap (λ (b : Bool). b ∷ []) (sym (box_colour r x y width active ss)))
  ]
  one_funnel n (Mux k x y height active ∷ ss) route = elim (eqb_tells k m) [
    | inl same ↦
        let later = no_funnel ss (subst (λ (j : ℕ). NotIn j (funnels_in ss)) same.1 route.1) in
        let other : (m == k) ≡ true = subst (λ (j : ℕ). (j == k) ≡ true) same.1 (number_self k) in
        inr (ap (λ (b : Bool). cond b (active ∷ []) [] ++ funnel_colours m ss) same.0
        ∙ ap (λ (bs : List Bool). active ∷ bs) later.0
        ∙ ap (λ (b : Bool). b ∷ []) (sym (colour_on k x y height active ss other later.1)))
    | inr differ ↦ elim (one_funnel n ss route.2) [
      | inl out ↦ inl (differ.1, out)
      | inr e ↦ inr (ap (λ (b : Bool). cond b (active ∷ []) [] ++ funnel_colours m ss) differ.0 ∙ e
          ∙ ap (λ (b : Bool). b ∷ [])
          (sym (colour_off k x y height active ss (ne_eqb m k (λ e. differ.1 (sym e))))))
    ]
  ]
  one_funnel n (Values k q x y ∷ ss) route = one_funnel n ss route
  one_funnel n (Wire x y turn to_x to_y active ∷ ss) route = one_funnel n ss route

pub funnels : (net : Net) (form : Items) (holds : Holds) (m : ℕ)
    → Describes net form → m < length net.muxes.items
    → funnel_colours m (drawing_of net holds form).shapes ≡ is_mux_met net holds m ∷ []
funnels net form holds m d less =
    let shapes : List Shape = (drawing_of net holds form).shapes in
    let n : ℕ = length net.muxes.items in
    let once : IsEachOnce n (funnels_in shapes) = (whole net form holds d).1 in
    let has : funnel_colours m shapes ≡ list_any (same_point (MuxAt m)) (points_in shapes) ∷ [] =
    ⊎_elim (λ out. absurd (omega (
      arith,
      route_fits n (m ∷ funnels_in shapes) (less, out, once.different),
      once.count,
    ))) (λ e. e) (one_funnel m n shapes once.different) in
    has ∙ ap (λ (b : Bool). b ∷ []) (sym (mux_met net form holds d m (path net holds) refl))

-- ---- rows

ends_count : (plan : Plan) (f : Fan) (rows : Rows) → length (row_ends plan f rows) ≡ row_count rows
ends_count plan f NoRow = refl
ends_count plan f (RowThen items rest) =
    ap suc (ends_count plan (after_row f (pen_after plan (start_at f.x f.y) items)) rest)

same_count : (net : Net) (p : Point) (rs : List Row) (rows : Rows)
    → AreWired net p rs rows → length rs ≡ row_count rows
same_count net p [] NoRow w = refl
same_count net p (r ∷ rs) NoRow w = absurd w
same_count net p [] (RowThen items rest) w = absurd w
same_count net p (r ∷ rs) (RowThen items rest) w = ap suc (same_count net p rs rest w.2)

module _ (m q : ℕ) where
  abbrev colours : List Shape → List Bool
  colours shapes = row_colours m q shapes

  -- shapes that don't begin with select values
  abbrev Opens : List Shape → Type 0
  Opens shapes = (s : Shape) → wire_into m q s (next_of shapes) ≡ []

  opens_none : (s : Shape) → wire_into m q s None ≡ []
  opens_none (Register r x y width active) = refl
  opens_none (Mux k x y height active) = refl
  opens_none (Values k p x y) = refl
  opens_none (Wire x y turn to_x to_y active) = refl

  opens_wire : (a b turn to_a to_b : ℕ) (on : Bool) (s : Shape)
      → wire_into m q s (Some (Wire a b turn to_a to_b on)) ≡ []
  opens_wire a b turn to_a to_b on (Register r x y width active) = refl
  opens_wire a b turn to_a to_b on (Mux k x y height active) = refl
  opens_wire a b turn to_a to_b on (Values k p x y) = refl
  opens_wire a b turn to_a to_b on (Wire x y bend to_x to_y active) = refl

  opens_mux : (k a b high : ℕ) (on : Bool) (s : Shape) → wire_into m q s (Some (Mux k a b high on)) ≡ []
  opens_mux k a b high on (Register r x y width active) = refl
  opens_mux k a b high on (Mux j x y height active) = refl
  opens_mux k a b high on (Values j p x y) = refl
  opens_mux k a b high on (Wire x y turn to_x to_y active) = refl

  opens_box : (r a b width : ℕ) (on : Bool) (s : Shape)
      → wire_into m q s (Some (Register r a b width on)) ≡ []
  opens_box r a b width on (Register k x y wide active) = refl
  opens_box r a b width on (Mux j x y height active) = refl
  opens_box r a b width on (Values j p x y) = refl
  opens_box r a b width on (Wire x y turn to_x to_y active) = refl

  next_stays : (s : Shape) (xs ys : List Shape) → Opens ys
      → wire_into m q s (next_of (xs ++ ys)) ≡ wire_into m q s (next_of xs)
  next_stays s [] ys opens = opens s ∙ sym (opens_none s)
  next_stays s (x ∷ xs) ys opens = refl

  joined : (xs ys : List Shape) → Opens ys → colours (xs ++ ys) ≡ colours xs ++ colours ys
  joined [] ys opens = refl
  joined (s ∷ xs) ys opens =
      ap (λ (bs : List Bool). bs ++ colours (xs ++ ys)) (next_stays s xs ys opens)
      ∙ ap (λ (bs : List Bool). wire_into m q s (next_of xs) ++ bs) (joined xs ys opens)
      ∙ sym (append_assoc (wire_into m q s (next_of xs)) (colours xs) (colours ys))

  both : (xs ys : List Shape) (a b : List Bool) → Opens ys → colours xs ≡ a
      → colours ys ≡ b → colours (xs ++ ys) ≡ a ++ b
  both xs ys a b opens e f =
      joined xs ys opens ∙ ap (λ (bs : List Bool). bs ++ colours ys) e ∙ ap (λ (bs : List Bool). a ++ bs) f

  -- wires alone
  wires_none : (active : Bool) (p : Pen) → colours (wire_to active p) ≡ []
  wires_none active p = elim (is_full p) as (λ (b : Bool). colours (cond b (Wire p.x p.y (p.x + 9) p.left
      (p.bottom + 4) active ∷ Wire p.left (p.bottom + 4) p.left p.left (p.bottom + 30) active ∷ []) []
      ++ Wire (next_wire_start p).x (next_wire_start p).y (next_wire_start p).x ((next_wire_start p).x + 18)
      (next_wire_start p).y active ∷ []) ≡ []) [
        | true ↦ refl
        | false ↦ refl
      ]

  opens_wires : (active : Bool) (p : Pen) (ys : List Shape) → Opens (wire_to active p ++ ys)
  opens_wires active p ys s =
      elim (is_full p) as (λ (b : Bool). wire_into m q s (next_of ((cond b (Wire p.x p.y (p.x + 9) p.left
      (p.bottom + 4) active ∷ Wire p.left (p.bottom + 4) p.left p.left (p.bottom + 30) active ∷ []) []
      ++ Wire (next_wire_start p).x (next_wire_start p).y (next_wire_start p).x ((next_wire_start p).x + 18)
      (next_wire_start p).y active ∷ []) ++ ys)) ≡ []) [
        | true ↦ opens_wire p.x p.y (p.x + 9) p.left (p.bottom + 4) active s
        | false ↦ opens_wire (next_wire_start p).x (next_wire_start p).y (next_wire_start p).x
            ((next_wire_start p).x + 18) (next_wire_start p).y active s
      ]

  -- ---- the wires to a funnel

  shown_none : (selected active : Bool) (x y : ℕ) (e : RowEnd)
      → colours (row_shown selected active x y e) ≡ []
  shown_none true active x y e = refl
  shown_none false active x y e = refl

  abbrev colour_if : Bool → Bool → List Bool
  colour_if here on = cond here (on ∷ []) []

  close_colours : (selected active : Bool) (k p x y : ℕ) (e : RowEnd)
      → colours (row_close selected active k p x y e) ≡ colour_if ((k == m) && (p == q)) (active && selected)
  close_colours selected active k p x y e =
      let on : Bool = active && selected in
      ap (λ (b : Bool). colour_if ((k == m) && ((p == q) && (b && (e.y == e.y)))) on
      ++ colours (row_shown selected active x y e)) (number_self x)
      ∙ ap (λ (b : Bool). colour_if ((k == m) && ((p == q) && b)) on
      ++ colours (row_shown selected active x y e)) (number_self e.y)
      ∙ ap (λ (bs : List Bool). colour_if ((k == m) && ((p == q) && true)) on ++ bs)
      (shown_none selected active x y e)
      ∙ append-nil (colour_if ((k == m) && ((p == q) && true)) on)
      ∙ ap (λ (b : Bool). colour_if ((k == m) && b) on) (and_true (p == q))
    where
      and_true : (b : Bool) → (b && true) ≡ b
      and_true true = refl
      and_true false = refl

  opens_closes : (active : Bool) (row : Option ℕ) (k p x y : ℕ) (es : List RowEnd)
      → Opens (row_closes active row k p x y es)
  opens_closes active row k p x y [] s = opens_none s
  opens_closes active row k p x y (e ∷ es) s = opens_wire e.x e.y e.x x e.y (active && is_selected_row row
      p) s

  -- of another multiplexer
  closes_other : (active : Bool) (row : Option ℕ) (k p x y : ℕ) (es : List RowEnd) → (k == m) ≡ false
      → colours (row_closes active row k p x y es) ≡ []
  closes_other active row k p x y [] other = refl
  closes_other active row k p x y (e ∷ es) other =
      both (row_close (is_selected_row row p) active k p x y e) (row_closes active row k (suc p) x y es) [] []
      (opens_closes active row k (suc p) x y es)
      (close_colours (is_selected_row row p) active k p x y e
      ∙ ap (λ (b : Bool). colour_if (b && (p == q)) (active && is_selected_row row p)) other)
      (closes_other active row k (suc p) x y es other)

  -- of later rows
  closes_later : (active : Bool) (row : Option ℕ) (k p x y : ℕ) (es : List RowEnd) → (k == m) ≡ true → q < p
      → colours (row_closes active row k p x y es) ≡ []
  closes_later active row k p x y [] same less = refl
  closes_later active row k p x y (e ∷ es) same less =
      let later : (p == q) ≡ false = ne_eqb p q (λ f. omega (arith, f, less)) in
      let more : q < suc p = omega (arith, less) in
      both (row_close (is_selected_row row p) active k p x y e) (row_closes active row k (suc p) x y es) [] []
      (opens_closes active row k (suc p) x y es)
      (close_colours (is_selected_row row p) active k p x y e ∙ ap (λ (b : Bool). colour_if (b && (p == q))
      (active && is_selected_row row p)) same ∙ ap (λ (b : Bool). colour_if b (active && is_selected_row row
      p)) later)
      (closes_later active row k (suc p) x y es same more)

  closes_one : (active : Bool) (row : Option ℕ) (k p x y : ℕ) (es : List RowEnd) → (k == m) ≡ true → p ≤ q
      → q < p + length es → colours (row_closes active row k p x y es) ≡ (active && is_selected_row row q) ∷
      []
  closes_one active row k p x y [] same low high = absurd (omega (arith, low, high))
  closes_one active row k p x y (e ∷ es) same low high =
      let first : colours (row_close (is_selected_row row p) active k p x y e)
      ≡ colour_if (p == q) (active && is_selected_row row p) =
      close_colours (is_selected_row row p) active k p x y e
      ∙ ap (λ (b : Bool). colour_if (b && (p == q)) (active && is_selected_row row p)) same in
      ⊎_elim
      (λ is. both (row_close (is_selected_row row p) active k p x y e) (row_closes active row k (suc p) x y
      es)
      ((active && is_selected_row row q) ∷ []) [] (opens_closes active row k (suc p) x y es)
      (first ∙ ap (λ (b : Bool). colour_if b (active && is_selected_row row p)) is.0
      ∙ ap (λ (j : ℕ). (active && is_selected_row row j) ∷ []) is.1)
      (closes_later active row k (suc p) x y es same (omega (arith, is.1))))
      (λ differ. both (row_close (is_selected_row row p) active k p x y e) (row_closes active row k (suc p)
      x y es) []
      ((active && is_selected_row row q) ∷ []) (opens_closes active row k (suc p) x y es)
      (first ∙ ap (λ (b : Bool). colour_if b (active && is_selected_row row p)) differ.0)
      (closes_one active row k (suc p) x y es same (omega (arith, low, differ.1)) (omega (arith, high))))
      (eqb_tells p q)

  close_is : (active : Bool) (part : MuxPlan) (k : ℕ) (p : Pen) (g : Fan) (ends : List RowEnd) (a : List Bool)
      → colours (row_closes active part.row k 0 (funnel_at g part.values) p.y ends) ≡ a
      → colours (mux_close active part k p g ends) ≡ a
  close_is active part k p g ends a e =
      let x : ℕ = funnel_at g part.values in
      both (Mux k x p.y (g.last - p.y) active ∷ row_closes active part.row k 0 x p.y ends)
      (Wire (x + 14) p.y (x + 14) (x + 14 + part.name) p.y active ∷ []) a []
      (opens_wire (x + 14) p.y (x + 14) (x + 14 + part.name) p.y active) e refl
      ∙ append-nil a

  -- ---- the whole form

  of_funnels : IsOfThings (funnel_colour m)
  of_funnels = record { values = λ k p x y. refl; wire = λ x y turn to_x to_y active. refl }

  module _ (net : Net) (plan : Plan) (there : q < length (rows_of net m)) where
    abbrev row_on : Bool → Bool
    row_on on = on && is_selected_row (mux_of plan m).row q

    -- the colours of the row's wires follow from those of the funnels
    abbrev Follows : List Shape → Type 0
    Follows shapes = colours shapes ≡ map row_on (funnel_colours m shapes)

    follows_both : (xs ys : List Shape) → Opens ys → Follows xs → Follows ys → Follows (xs ++ ys)
    follows_both xs ys opens e f =
        both xs ys (map row_on (funnel_colours m xs)) (map row_on (funnel_colours m ys)) opens e f
        ∙ sym (ap (map row_on) (flat_map-append (funnel_colour m) xs ys)
        ∙ map-append row_on (funnel_colours m xs) (funnel_colours m ys))

    follows_none : (shapes : List Shape) → colours shapes ≡ [] → funnel_colours m shapes ≡ [] → Follows shapes
    follows_none shapes e f = e ∙ ap (map row_on) (sym f)

    wires_follow : (active : Bool) (p : Pen) → Follows (wire_to active p)
    wires_follow active p =
        let none : funnel_colours m (wire_to active p) ≡ [] =
        elim (is_full p) as (λ (b : Bool). funnel_colours m (cond b (Wire p.x p.y (p.x + 9) p.left
        (p.bottom + 4) active ∷ Wire p.left (p.bottom + 4) p.left p.left (p.bottom + 30) active ∷ []) []
        ++ Wire (next_wire_start p).x (next_wire_start p).y (next_wire_start p).x ((next_wire_start p).x +
        18) (next_wire_start p).y active ∷ []) ≡ []) [
          | true ↦ refl
          | false ↦ refl
        ] in
        follows_none (wire_to active p) (wires_none active p) none

    closed_funnels : (active : Bool) (part : MuxPlan) (k : ℕ) (p : Pen) (g : Fan) (ends : List RowEnd)
        → funnel_colours m (mux_close active part k p g ends) ≡ colour_if (k == m) active
    closed_funnels active part k p g ends =
        let x : ℕ = funnel_at g part.values in
        let inner : List Shape = row_closes active part.row k 0 x p.y ends in
        picked_both (funnel_colour m) of_funnels (Mux k x p.y (g.last - p.y) active ∷ inner) (Wire
        (x + 14) p.y (x + 14) (x + 14 + part.name) p.y active ∷ []) (colour_if (k == m) active ++ []) []
        (ap (λ (bs : List Bool). colour_if (k == m) active ++ bs)
        (closes_nothing active part.row k 0 x p.y ends)) refl
        ∙ append-nil (colour_if (k == m) active ++ []) ∙ append-nil (colour_if (k == m) active)
      where
        shows_nothing : (selected active : Bool) (x y : ℕ) (e : RowEnd)
            → funnel_colours m (row_shown selected active x y e) ≡ []
        shows_nothing true active x y e = refl
        shows_nothing false active x y e = refl

        closes_nothing : (active : Bool) (row : Option ℕ) (k p x y : ℕ) (es : List RowEnd)
            → funnel_colours m (row_closes active row k p x y es) ≡ []
        closes_nothing active row k p x y [] = refl
        closes_nothing active row k p x y (e ∷ es) =
            picked_both (funnel_colour m) of_funnels (row_close (is_selected_row row p) active k p x y e)
            (row_closes active row k (suc p) x y es) [] [] (shows_nothing (is_selected_row row p) active x y
            e)
            (closes_nothing active row k (suc p) x y es)

    close_follows : (active : Bool) (k : ℕ) (p : Pen) (g : Fan) (ends : List RowEnd)
        → length (rows_of net k) ≡ length ends → Follows (mux_close active (mux_of plan k) k p g ends)
    close_follows active k p g ends count =
        let part : MuxPlan = mux_of plan k in
        ⊎_elim
        (λ same.
        let high : q < 0 + length ends =
        omega (arith, subst (λ (j : ℕ). q < length (rows_of net j)) (sym same.1) there, count) in
        close_is active part k p g ends ((active && is_selected_row part.row q) ∷ [])
        (closes_one active part.row k 0 (funnel_at g part.values) p.y ends same.0 (omega arith) high)
        ∙ ap (λ (j : ℕ). (active && is_selected_row (mux_of plan j).row q) ∷ []) same.1
        ∙ sym (ap (map row_on)
        (closed_funnels active part k p g ends ∙ ap (λ (b : Bool). colour_if b active) same.0)))
        (λ differ.
        close_is active part k p g ends []
        (closes_other active part.row k 0 (funnel_at g part.values) p.y ends differ.0)
        ∙ sym (ap (map row_on)
        (closed_funnels active part k p g ends ∙ ap (λ (b : Bool). colour_if b active) differ.0)))
        (eqb_tells k m)

    opens_items : (active : Bool) (p : Pen) (items : Items) → Opens (drawn plan active p items)
    opens_items active p Nothing s = opens_none s
    opens_items active p (RegThen r rest) s =
        ap (λ (shapes : List Shape). wire_into m q s (next_of shapes))
        (append_assoc (wire_to active p) (Register r ((next_wire_start p).x + 18) (next_wire_start p).y
        (box_of plan r) active
        ∷ []) (drawn plan active (after_register (next_wire_start p) (box_of plan r)) rest))
        ∙ opens_wires active p (Register r ((next_wire_start p).x + 18) (next_wire_start p).y (box_of plan
        r) active
        ∷ drawn plan active (after_register (next_wire_start p) (box_of plan r)) rest) s
    opens_items active p (MuxThen k rows rest) s =
        let g : Fan = fan_at (next_wire_start p) in
        let inner : List Shape = rows_drawn plan active (mux_of plan k).row (next_wire_start p) 0 g rows
        ++ mux_close active (mux_of plan k) k (next_wire_start p) (fan_after plan g rows) (row_ends plan g
        rows) in
        ap (λ (shapes : List Shape). wire_into m q s (next_of shapes))
        (append_assoc (wire_to active p) inner (drawn plan active (pen_past plan p k rows) rest))
        ∙ opens_wires active p (inner ++ drawn plan active (pen_past plan p k rows) rest) s

    opens_rows : (active : Bool) (row : Option ℕ) (p : Pen) (n : ℕ) (f : Fan) (rows : Rows) (ys : List Shape)
        → Opens ys → Opens (rows_drawn plan active row p n f rows ++ ys)
    opens_rows active row p n f NoRow ys opens s = opens s
    opens_rows active row p n f (RowThen items rest) ys opens s =
        opens_wire (p.x + 18) p.y (p.x + 26) f.x f.y (active && is_selected_row row n) s

    mutual
      follows : (active : Bool) (p : Pen) (items : Items) (source : Point)
          → IsWired net source items → Follows (drawn plan active p items)
      follows active p Nothing source w = refl
      follows active p (RegThen r rest) source w =
          let next : Pen = after_register (next_wire_start p) (box_of plan r) in
          let box : List Shape = Register r ((next_wire_start p).x + 18) (next_wire_start p).y (box_of plan
          r) active ∷ [] in
          follows_both (wire_to active p ++ box) (drawn plan active next rest) (opens_items active next rest)
          (follows_both (wire_to active p) box (opens_box r ((next_wire_start p).x + 18) (next_wire_start p).y
          (box_of plan r) active) (wires_follow active p) refl)
          (follows active next rest (RegAt r) w.1)
      follows active p (MuxThen k rows rest) source w =
          let g : Fan = fan_at (next_wire_start p) in
          let next : Pen = pen_past plan p k rows in
          let ends : List RowEnd = row_ends plan g rows in
          let inside : List Shape = rows_drawn plan active (mux_of plan k).row (next_wire_start p) 0 g rows in
          let close : List Shape =
          mux_close active (mux_of plan k) k (next_wire_start p) (fan_after plan g rows) ends in
          let count : length (rows_of net k)
          ≡ length ends = same_count net source (rows_of net k) rows w.0 ∙ sym (ends_count plan g rows) in
          let opens_close : Opens close = opens_mux k (funnel_at (fan_after plan g rows)
          (mux_of plan k).values) (next_wire_start p).y ((fan_after plan g rows).last - (next_wire_start
          p).y) active in
          follows_both (wire_to active p ++ (inside ++ close))
          (drawn plan active next rest) (opens_items active next rest)
          (follows_both (wire_to active p) (inside ++ close) (opens_rows active (mux_of plan k).row
          (next_wire_start p) 0 g rows close opens_close) (wires_follow active p)
          (follows_both inside close opens_close
          (follow_rows active (mux_of plan k).row (next_wire_start p) 0 g rows source (rows_of net k) w.0)
          (close_follows active k (next_wire_start p) (fan_after plan g rows) ends count)))
          (follows active next rest (MuxAt k) w.1)

      follow_rows : (active : Bool) (row : Option ℕ) (p : Pen) (n : ℕ) (f : Fan) (rows : Rows)
          (source : Point) (rs : List Row) → AreWired net source rs rows
          → Follows (rows_drawn plan active row p n f rows)
      follow_rows active row p n f NoRow source rs w = refl
      follow_rows active row p n f (RowThen items rest) source [] w = absurd w
      follow_rows active row p n f (RowThen items rest) source (r ∷ rs) w =
          let start : Pen = start_at f.x f.y in
          let next : Fan = after_row f (pen_after plan start items) in
          let on : Bool = active && is_selected_row row n in
          let later : List Shape = rows_drawn plan active row p (suc n) next rest in
          follows_both (row_wire on p f ∷ drawn plan on start items) later
          (λ s. ap (λ (shapes : List Shape). wire_into m q s (next_of shapes)) (sym (append-nil later))
          ∙ opens_rows active row p (suc n) next rest [] opens_none s)
          (follows_both (row_wire on p f ∷ []) (drawn plan on start items)
          (opens_items on start items) refl (follows on start items source w.1))
          (follow_rows active row p (suc n) next rest source rs w.2)

pub rows : (net : Net) (form : Items) (holds : Holds) (m q : ℕ) → Describes net form
    → m < length net.muxes.items → q < length (rows_of net m)
    → row_colours m q (drawing_of net holds form).shapes ≡ is_row_met net holds m q ∷ []
rows net form holds m q d less there =
    let plan = plan_of net holds in
    let on : Bool = has_path net holds in
    let p = pen_after plan first_pen form in
    let last : List Shape = Wire p.x p.y p.x (p.x + 18) p.y on ∷ [] in
    let follow : row_colours m q (drawing_of net holds form).shapes
    ≡ map (λ (b : Bool). b && is_selected_row (mux_of plan m).row q)
    (funnel_colours m (drawing_of net holds form).shapes) =
    follows_both m q net plan there (drawn plan on first_pen form) last (opens_wire m q p.x p.y p.x
    (p.x + 18) p.y on) (follows m q net plan there on first_pen form Entry d.wired) refl in
    follow ∙ ap (map (λ (b : Bool). b && is_selected_row (mux_of plan m).row q)) (funnels net form holds m d
    less)
    ∙ ap (λ (o : Option ℕ). (is_mux_met net holds m && is_selected_row o q) ∷ []) (row_known net holds m less)
