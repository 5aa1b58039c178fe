-- The boxes and funnels in colour, and what is in colour of rows that aren't selected.
use Rattle.std.proofs.Common.{◌≡◌, ℕ, suc, ◌+◌, ◌<◌, ◌≤◌, Bool, true, false, List, [], ◌∷◌, ◌++◌, Option}
use Rattle.std.proofs.Common.{Some, None, ⊎_elim, length, refl, sym, ap, ◌∙◌, arith, append-nil}
use Rattle.std.specs.Prelude.{cond}
use Rattle.std.specs.List.{flat_map}
use Rattle.std.proofs.lemmas.Bool.{ne_eqb}
use Rattle.std.proofs.lemmas.Bool.Decides.{eqb_tells}
use Rattle.std.proofs.lemmas.Grind.{flat_map-append}
use Rattle.std.proofs.lemmas.List.FromFn.{get_or-map-range_with_len}
use Rattle.std.proofs.lemmas.Option.{none-some, same_Some}
use Rattle.net_graph.specs.declared.net.Net.{Net}
use Rattle.net_graph.specs.declared.net.Point.{Point}
use Rattle.net_graph.specs.declared.net.Point.TheVariants.{Reg, Mux as MuxAt}
use Rattle.net_graph.specs.declared.net.Row.{Row}
use Rattle.net_graph.specs.Path.{row_from, row_of}
use Rattle.net_graph.specs.Signals.{Holds, some_matches}
use Rattle.net_tree.specs.Form.{Items, Nothing, RegThen, MuxThen, Rows, NoRow, RowThen}
use Rattle.net_picture.specs.declared.plan.MuxPlan.{MuxPlan}
use Rattle.net_picture.specs.declared.pen.Pen.{Pen}
use Rattle.net_picture.specs.declared.pen.Fan.{Fan}
use Rattle.net_picture.specs.declared.shape.Shape.{Shape}
use Rattle.net_picture.specs.declared.shape.Shape.TheVariants.{Register, Mux, Values, Wire}
use Rattle.net_picture.specs.Layout.{drawn, pen_after, rows_drawn, register_drawn, mux_drawn, pen_past}
use Rattle.net_picture.specs.Layout.{row_wire, is_selected_row}
use Rattle.net_picture.specs.Marked.{active_box_of, active_boxes_in}
use Rattle.net_picture.specs.Met.{register_at}
use Rattle.net_picture.specs.Pens.{start_at, next_wire_start, after_register, after_row, fan_at}
use Rattle.net_picture.specs.Plan.{Plan, box_of, mux_of, mux_plan, plan_of}
use Rattle.net_picture.proofs.Gathering.{IsOfThings, picked_register, picked_mux, picked_row, picked_both}
use Rattle.net_graph.proofs.Selecting.{row_from_ge}

-- the register or multiplexer of a box or funnel in colour
abbrev pub point_of_shape : Shape → List Point
point_of_shape (Register r x y width active) = cond active (Reg r ∷ []) []
point_of_shape (Mux m x y height active) = cond active (MuxAt m ∷ []) []
point_of_shape (Values m q x y) = []
point_of_shape (Wire x y turn to_x to_y active) = []

abbrev pub points_in : List Shape → List Point
points_in shapes = flat_map point_of_shape shapes

pub of_points : IsOfThings point_of_shape
of_points = record { values = λ m q x y. refl; wire = λ x y turn to_x to_y active. refl }

-- the boxes in colour are the registers among them
box_again : (shape : Shape) → active_box_of shape ≡ flat_map register_at (point_of_shape shape)
box_again (Register r x y width true) = refl
box_again (Register r x y width false) = refl
box_again (Mux m x y height true) = refl
box_again (Mux m x y height false) = refl
box_again (Values m q x y) = refl
box_again (Wire x y turn to_x to_y active) = refl

pub boxes_again : (shapes : List Shape) → active_boxes_in shapes ≡ flat_map register_at (points_in shapes)
boxes_again [] = refl
boxes_again (s ∷ ss) =
    ap (λ (rs : List ℕ). rs ++ active_boxes_in ss) (box_again s)
    ∙ ap (λ (rs : List ℕ). flat_map register_at (point_of_shape s) ++ rs) (boxes_again ss)
    ∙ sym (flat_map-append register_at (point_of_shape s) (points_in ss))

pub same_row : (q : ℕ) → is_selected_row (Some q) q ≡ true
same_row q = ⊎_elim (λ same. same.0) (λ differ. absurd (differ.1 refl)) (eqb_tells q q)

pub other_row : (k q : ℕ) → k < q → is_selected_row (Some k) q ≡ false
other_row k q less = ne_eqb k q (λ e. omega (arith, less, e))

least_of : (b : Bool) (k : ℕ) (rs : List Row) (bits : List Bool) (q : ℕ)
    → (row_from (suc k) rs bits ≡ Some q → suc k ≤ q)
    → elim b [ true ↦ Some k | false ↦ row_from (suc k) rs bits ] ≡ Some q → k ≤ q
least_of true k rs bits q later e =
    let same : k ≡ q = same_Some k q e in
    omega (arith, same)
least_of false k rs bits q later e = omega (arith, later e)

pub later_row : (k : ℕ) (rs : List Row) (bits : List Bool) (o : Option ℕ)
    → o ≡ row_from (suc k) rs bits → is_selected_row o k ≡ false
later_row k rs bits None e = refl
later_row k rs bits (Some q) e =
    let after : suc k ≤ q = row_from_ge (suc k) rs bits q (sym e) in
    ne_eqb q k (λ same. omega (arith, after, same))

module _ (plan : Plan) where
  -- nothing is in colour where the list isn't on the active path
  mutual
    pub off : (p : Pen) (items : Items) → points_in (drawn plan false p items) ≡ []
    off p Nothing = refl
    off p (RegThen r rest) =
        let q : Pen = after_register (next_wire_start p) (box_of plan r) in
        picked_both point_of_shape of_points (register_drawn false p r (box_of plan r)) (drawn plan false q
        rest) [] [] (picked_register point_of_shape of_points false p r (box_of plan r)) (off q rest)
    off p (MuxThen m rows rest) =
        let q : Pen = pen_past plan p m rows in
        picked_both point_of_shape of_points (mux_drawn plan false p m rows) (drawn plan false q rest) [] []
        (picked_mux point_of_shape of_points plan false p m rows ∙ append-nil
        (points_in (rows_drawn plan false (mux_of plan m).row (next_wire_start p) 0 (fan_at (next_wire_start
        p)) rows))
        ∙ off_rows (mux_of plan m).row (next_wire_start p) 0 (fan_at (next_wire_start p)) rows)
        (off q rest)

    off_rows : (row : Option ℕ) (p : Pen) (q : ℕ) (f : Fan) (rows : Rows)
        → points_in (rows_drawn plan false row p q f rows) ≡ []
    off_rows row p q f NoRow = refl
    off_rows row p q f (RowThen items rest) =
        let start : Pen = start_at f.x f.y in
        let next : Fan = after_row f (pen_after plan start items) in
        picked_both point_of_shape of_points (row_wire false p f ∷ drawn plan false start items)
        (rows_drawn plan false row p (suc q) next rest) [] []
        (picked_row point_of_shape of_points false p f (drawn plan false start items) ∙ off start items)
        (off_rows row p (suc q) next rest)

  -- a row that isn't selected
  pub unselected : (row : Option ℕ) (p : Pen) (q : ℕ) (f : Fan) (items : Items) → is_selected_row row q ≡
      false
      → points_in (row_wire (is_selected_row row q) p f ∷ drawn plan (is_selected_row row q) (start_at f.x
      f.y) items) ≡ []
  unselected row p q f items e =
      ap (λ (b : Bool). points_in (row_wire b p f ∷ drawn plan b (start_at f.x f.y) items)) e
      ∙ picked_row point_of_shape of_points false p f (drawn plan false (start_at f.x f.y) items)
      ∙ off (start_at f.x f.y) items

  -- rows after the selected one
  pub off_after : (k : ℕ) (p : Pen) (q : ℕ) (f : Fan) (rows : Rows) → k < q
      → points_in (rows_drawn plan true (Some k) p q f rows) ≡ []
  off_after k p q f NoRow less = refl
  off_after k p q f (RowThen items rest) less =
      let start : Pen = start_at f.x f.y in
      let next : Fan = after_row f (pen_after plan start items) in
      let on : Bool = is_selected_row (Some k) q in
      let more : k < suc q = omega (arith, less) in
      picked_both point_of_shape of_points (row_wire on p f ∷ drawn plan on start items)
      (rows_drawn plan true (Some k) p (suc q) next rest) [] []
      (unselected (Some k) p q f items (other_row k q less)) (off_after k p (suc q) next rest more)

-- what a plan knows of a multiplexer
pub row_known : (net : Net) (holds : Holds) (m : ℕ) → m < length net.muxes.items
    → (mux_of (plan_of net holds) m).row ≡ row_of net holds m
row_known net holds m there =
    let at : 0 + m ≡ m = omega arith in
    ap (λ (x : MuxPlan). x.row) (get_or-map-range_with_len (mux_plan net holds) 0 (length net.muxes.items) m m
    (record { values = 0; name = 0; row = None }) there at)
