-- The way back along the active path of a nested form: what is in colour is what it meets, and which rows it
-- is in.
use Rattle.std.proofs.Common.{◌≡◌, ⊎_elim, ℕ, zero, suc, ◌+◌, ◌<◌, ◌≤◌, Bool, true, false, List, [], ◌∷◌}
use Rattle.std.proofs.Common.{◌++◌, Option, Some, None, length, refl, sym, ap, ◌∙◌, subst, arith}
use Rattle.std.proofs.Common.{append_assoc, append-nil}
use Rattle.std.specs.Prelude.{◌==◌, ◌||◌, cond, reverse, option_map, unwrap_or}
use Rattle.std.specs.List.{flat_map, list_any}
use Rattle.std.specs.Option.{is_some}
use Rattle.std.proofs.lemmas.Bool.{ne_eqb}
use Rattle.std.proofs.lemmas.Bool.Decides.{eqb_tells}
use Rattle.std.proofs.lemmas.List.{reverse-append}
use Rattle.std.proofs.lemmas.Option.{none-some, same_Some}
use Rattle.ij_bits.proofs.Lists.{map_some, then_some}
use Rattle.ij_bits.proofs.Tests.{number_self, number_turned}
use Rattle.net_graph.specs.Chain.{IsRoute}
use Rattle.net_graph.specs.declared.net.Net.{Net}
use Rattle.net_graph.specs.declared.net.Point.{Point}
use Rattle.net_graph.specs.declared.net.Point.TheVariants.{Entry, Reg, Mux}
use Rattle.net_graph.specs.declared.net.Row.{Row}
use Rattle.net_graph.specs.Path.{active, is_in, mux_source, path, reg_source, route_of, row_from, row_of}
use Rattle.net_graph.specs.Path.{rows_of, select_value, trace}
use Rattle.net_graph.specs.Signals.{Holds, row_point, some_matches}
use Rattle.net_tree.specs.Entries.{row_count}
use Rattle.net_tree.specs.Form.{Items, Nothing, RegThen, MuxThen, Rows, NoRow, RowThen, end_of, muxes_in}
use Rattle.net_tree.specs.Form.{muxes_in_rows, IsWired, AreWired, Describes}
use Rattle.net_tree.specs.Places.{same_point}
use Rattle.net_tree.proofs.Walks.{IsRoute-front, IsRoute-back}
use Rattle.net_picture.specs.declared.pen.Pen.{Pen}
use Rattle.net_picture.specs.declared.pen.Fan.{Fan}
use Rattle.net_picture.specs.Layout.{drawn, pen_after, rows_drawn, register_drawn, mux_drawn, pen_past}
use Rattle.net_picture.specs.Layout.{row_wire, is_selected_row}
use Rattle.net_picture.specs.Met.{is_on_path, met, trace_back, met_from, register_at}
use Rattle.net_picture.specs.Pens.{start_at, next_wire_start, after_register, after_row, fan_at}
use Rattle.net_picture.specs.Plan.{Plan, box_of, has_path, mux_of, plan_of}
use Rattle.net_picture.proofs.Gathering.{picked_register, picked_mux, picked_row, picked_both}
use Rattle.net_picture.proofs.Marking.{point_of_shape, points_in, of_points, row_known, same_row, later_row}
use Rattle.net_picture.proofs.Marking.{unselected, off_after}

-- ---- the multiplexers on the path are in rows that they have

abbrev mutual
  pub HasRows : Plan → Items → Type 0
  HasRows plan Nothing = Unit {0}
  HasRows plan (RegThen r rest) = HasRows plan rest
  HasRows plan (MuxThen m rows rest) =
      ((k : ℕ) × ((mux_of plan m).row ≡ Some k) × (k < row_count rows) × RowHasRows plan k 0 rows)
      × HasRows plan rest

  -- of rows from number q on, row k alone
  pub RowHasRows : Plan → ℕ → ℕ → Rows → Type 0
  RowHasRows plan k q NoRow = Unit {0}
  RowHasRows plan k q (RowThen items rest) = (k ≡ q → HasRows plan items) × RowHasRows plan k (suc q) rest

row_past : (plan : Plan) (k q : ℕ) (rows : Rows) → k < q → RowHasRows plan k q rows
row_past plan k q NoRow less = tt
row_past plan k q (RowThen items rest) less =
    ((λ same. absurd (omega (arith, same, less))), row_past plan k (suc q) rest (omega (arith, less)))

-- ---- one move back

-- whether there is a path
pub path_there : (net : Net) (holds : Holds) (registers : List ℕ)
    → path net holds ≡ Some registers → has_path net holds ≡ true
path_there net holds registers e =
    let (out, is, same) = map_some reverse (active net holds) registers e in
    ap is_some is

no_path : (o : Option (List ℕ)) → option_map reverse o ≡ None → is_some o ≡ false
no_path None e = refl
no_path (Some xs) e = absurd (none-some (reverse xs) (sym e))

pub path_gone : (net : Net) (holds : Holds) → path net holds ≡ None → has_path net holds ≡ false
path_gone net holds e = no_path (active net holds) e

back_last : (xs : List Point) (p : Point) (ys : List Point) → reverse xs ++ (p ∷ ys) ≡ reverse (p ∷ xs) ++ ys
back_last xs p ys =
    sym (append_assoc (reverse xs) (p ∷ []) ys)
    ∙ ap (λ (zs : List Point). zs ++ ys) (sym (reverse-append (p ∷ []) xs))

back_both : (xs ys zs : List Point) → reverse ys ++ (reverse xs ++ zs) ≡ reverse (xs ++ ys) ++ zs
back_both xs ys zs =
    sym (append_assoc (reverse ys) (reverse xs) zs)
    ∙ ap (λ (us : List Point). us ++ zs) (sym (reverse-append xs ys))

module _ (net : Net) (holds : Holds) where
  record RegisterBack (r n : ℕ) : Type 0 where
    moves : ℕ
    one_more : n ≡ suc moves
    met : List ℕ
    traced : trace net holds moves (reg_source net r) ≡ Some met

  register_back : (r n : ℕ) (out : List ℕ) → trace net holds n (Reg r) ≡ Some out → RegisterBack r n
  register_back r zero out t = absurd (none-some out t)
  register_back r (suc n) out t =
      let (met, is, e) = map_some (λ (rs : List ℕ). r ∷ rs) (trace net holds n (reg_source net r)) out t in
      record { moves = n; one_more = refl; met = met; traced = is }

  record MuxBack (m n : ℕ) (out : List ℕ) : Type 0 where
    moves : ℕ
    one_more : n ≡ suc moves
    from : Point
    is : mux_source net holds m ≡ Some from
    traced : trace net holds moves from ≡ Some out

  mux_back : (m n : ℕ) (out : List ℕ) → trace net holds n (Mux m) ≡ Some out → MuxBack m n out
  mux_back m zero out t = absurd (none-some out t)
  mux_back m (suc n) out t =
      let (from, is, e) = then_some (trace net holds n) (mux_source net holds m) out t in
      record { moves = n; one_more = refl; from = from; is = is; traced = e }

  -- at scan-in the way ends
  pub entry_last : (n : ℕ) → flat_map register_at (met_from net holds n (Some Entry)) ≡ []
  entry_last zero = refl
  entry_last (suc zero) = refl
  entry_last (suc (suc n)) = refl

  -- the registers that are met are those of the trace
  pub registers_met : (n : ℕ) (p : Point) (out : List ℕ) → trace net holds n p ≡ Some out
      → flat_map register_at (met_from net holds n (Some p)) ≡ out
  registers_met n Entry out t = entry_last n ∙ same_Some [] out t
  registers_met zero (Reg r) out t = absurd (none-some out t)
  registers_met zero (Mux m) out t = absurd (none-some out t)
  registers_met (suc n) (Reg r) out t =
      let (met, is, e) = map_some (λ (rs : List ℕ). r ∷ rs) (trace net holds n (reg_source net r)) out t in
      ap (λ (rs : List ℕ). r ∷ rs) (registers_met n (reg_source net r) met is) ∙ e
  registers_met (suc n) (Mux m) out t =
      let (from, is, e) = then_some (trace net holds n) (mux_source net holds m) out t in
      ap (λ (o : Option Point). flat_map register_at (met_from net holds n o)) is ∙ registers_met n from out e

module _ (net : Net) (holds : Holds) (plan : Plan) (known : (m : ℕ) → m < length net.muxes.items
    → (mux_of plan m).row ≡ row_of net holds m) where
  -- from the end of some items, with n moves left, to their beginning
  pub record Back (items : Items) (p : Point) (n : ℕ) : Type 0 where
    pub moves : ℕ
    pub met : List ℕ
    pub traced : trace net holds moves p ≡ Some met
    pub points : (pen : Pen) → met_from net holds n (Some (end_of p items))
        ≡ reverse (points_in (drawn plan true pen items)) ++ met_from net holds moves (Some p)
    pub rows : HasRows plan items

  -- the same of rows from number q on, from what their multiplexer passes on
  record RowsBack (row : Option ℕ) (rows : Rows) (p : Point) (q n : ℕ) (from : Point) : Type 0 where
    moves : ℕ
    met : List ℕ
    traced : trace net holds moves p ≡ Some met
    points : (pen : Pen) (f : Fan) → met_from net holds n (Some from)
        ≡ reverse (points_in (rows_drawn plan true row pen q f rows)) ++ met_from net holds moves (Some p)
    selected : ℕ
    is : row ≡ Some selected
    low : q ≤ selected
    high : selected < q + row_count rows
    inside : RowHasRows plan selected q rows

  abbrev from_next : ℕ → Option Point → List Point
  from_next n o = met_from net holds n o

  -- the first row is selected
  here : (row : Option ℕ) (items : Items) (rest : Rows) (p : Point) (q n : ℕ) (from : Point)
      → from ≡ end_of p items → row ≡ Some q → Back items p n → RowsBack row (RowThen items rest) p q n from
  here row items rest p q n from f r b = record {
    moves = b.moves;
    met = b.met;
    traced = b.traced;
    points = λ pen g.
        let start : Pen = start_at g.x g.y in
        let next : Fan = after_row g (pen_after plan start items) in
        let mine : List Point = points_in (drawn plan true start items) in
        let less : q < suc q = omega arith in
        let is_on : is_selected_row row q ≡ true = ap (λ (o : Option ℕ). is_selected_row o q) r ∙ same_row q
        in
        let first : points_in (row_wire (is_selected_row row q) pen g ∷ drawn plan (is_selected_row row q)
        start items) ≡ mine =
        ap (λ (k : Bool). points_in (row_wire k pen g ∷ drawn plan k start items)) is_on
        ∙ picked_row point_of_shape of_points true pen g (drawn plan true start items) in
        let others : points_in (rows_drawn plan true row pen (suc q) next rest) ≡ [] =
        ap (λ (o : Option ℕ). points_in (rows_drawn plan true o pen (suc q) next rest)) r
        ∙ off_after plan q pen (suc q) next rest less in
        let all : points_in (rows_drawn plan true row pen q g (RowThen items rest)) ≡ mine =
        picked_both point_of_shape of_points (row_wire (is_selected_row row q) pen g ∷ drawn plan
        (is_selected_row row q) start
        items) (rows_drawn plan true row pen (suc q) next rest) mine [] first others ∙ append-nil mine in
        ap (λ (x : Point). met_from net holds n (Some x)) f ∙ b.points start
        ∙ ap (λ (xs : List Point). reverse xs ++ met_from net holds b.moves (Some p)) (sym all);
    selected = q;
    is = r;
    low = omega arith;
    high = omega arith;
    inside = ((λ same. b.rows), row_past plan q (suc q) rest (omega arith));
  }

  -- one of the others is
  there : (row : Option ℕ) (items : Items) (rest : Rows) (p : Point) (q n : ℕ) (from : Point)
      → is_selected_row row q ≡ false → RowsBack row rest p (suc q) n from
      → RowsBack row (RowThen items rest) p q n from
  there row items rest p q n from off b = record {
    moves = b.moves;
    met = b.met;
    traced = b.traced;
    points = λ pen g.
        let start : Pen = start_at g.x g.y in
        let next : Fan = after_row g (pen_after plan start items) in
        let others : List Point = points_in (rows_drawn plan true row pen (suc q) next rest) in
        let all : points_in (rows_drawn plan true row pen q g (RowThen items rest)) ≡ others =
        picked_both point_of_shape of_points (row_wire (is_selected_row row q) pen g
        ∷ drawn plan (is_selected_row row q) start items) (rows_drawn plan true row pen (suc q) next rest)
        [] others (unselected plan row pen q g items off) refl in
        b.points pen next
        ∙ ap (λ (xs : List Point). reverse xs ++ met_from net holds b.moves (Some p)) (sym all);
    selected = b.selected;
    is = b.is;
    low = omega (arith, b.low);
    high = omega (arith, b.high);
    inside = ((λ same. absurd (omega (arith, same, b.low))), b.inside);
  }

  one_row : (b : Bool) (row : Option ℕ) (items : Items) (rest : Rows) (p : Point) (q n : ℕ)
      (from first : Point) (rs : List Row) (bits : List Bool)
      → (first ≡ from → row ≡ Some q → RowsBack row (RowThen items rest) p q n from)
      → (row_point rs bits ≡ Some from → row ≡ row_from (suc q) rs bits
      → RowsBack row (RowThen items rest) p q n from)
      → row ≡ elim b [ true ↦ Some q | false ↦ row_from (suc q) rs bits ]
      → elim b [ true ↦ Some first | false ↦ row_point rs bits ] ≡ Some from
      → RowsBack row (RowThen items rest) p q n from
  one_row true row items rest p q n from first rs bits one other r e = one (same_Some first from e) r
  one_row false row items rest p q n from first rs bits one other r e = other e r

  mutual
    pub back : (items : Items) (p : Point) (n : ℕ) (out : List ℕ) → IsWired net p items
        → IsRoute (length net.muxes.items) (muxes_in items)
        → trace net holds n (end_of p items) ≡ Some out → Back items p n
    back Nothing p n out w ms t = record { moves = n; met = out; traced = t; points = λ pen. refl; rows = tt }
    back (RegThen r rest) p n out w ms t =
        let b : Back rest (Reg r) n = back rest (Reg r) n out w.1 ms t in
        let s : RegisterBack net holds r b.moves = register_back net holds r b.moves b.met b.traced in
        record {
          moves = s.moves;
          met = s.met;
          traced = subst (λ (x : Point). trace net holds s.moves x ≡ Some s.met) w.0 s.traced;
          points = λ pen.
              let q : Pen = after_register (next_wire_start pen) (box_of plan r) in
              let others : List Point = points_in (drawn plan true q rest) in
              let all : points_in (drawn plan true pen (RegThen r rest)) ≡ Reg r ∷ others =
              picked_both point_of_shape of_points (register_drawn true pen r (box_of plan r))
              (drawn plan true q rest) (Reg r ∷ []) others
              (picked_register point_of_shape of_points true pen r (box_of plan r)) refl in
              b.points q
              ∙ ap (λ (k : ℕ). reverse others ++ met_from net holds k (Some (Reg r))) s.one_more
              ∙ ap (λ (x : Point). reverse others ++ (Reg r ∷ met_from net holds s.moves (Some x))) w.0
              ∙ back_last others (Reg r) (met_from net holds s.moves (Some p))
              ∙ ap (λ (xs : List Point). reverse xs ++ met_from net holds s.moves (Some p)) (sym all);
          rows = b.rows;
        }
    back (MuxThen m rows rest) p n out w ms t =
        let inner = muxes_in_rows rows in
        let b : Back rest (Mux m) n = back rest (Mux m) n out w.1
        (IsRoute-back (length net.muxes.items) inner (muxes_in rest) ms.2) t in
        let s : MuxBack net holds m b.moves b.met = mux_back net holds m b.moves b.met b.traced in
        let c : RowsBack (mux_of plan m).row rows p 0 s.moves s.from = rows_back (mux_of plan m).row rows p 0
        s.moves b.met s.from (rows_of net m) (select_value net holds m) w.0 (IsRoute-front
        (length net.muxes.items) inner (muxes_in rest) ms.2) s.is s.traced (known m ms.0) in
        record {
          moves = c.moves;
          met = c.met;
          traced = c.traced;
          points = λ pen.
              let q : Pen = pen_past plan pen m rows in
              let within : List Point = points_in
              (rows_drawn plan true (mux_of plan m).row (next_wire_start pen) 0 (fan_at (next_wire_start
              pen)) rows) in
              let others : List Point = points_in (drawn plan true q rest) in
              let rest_met : List Point = met_from net holds c.moves (Some p) in
              let all : points_in (drawn plan true pen (MuxThen m rows rest))
              ≡ (within ++ Mux m ∷ []) ++ others =
              picked_both point_of_shape of_points (mux_drawn plan true pen m rows)
              (drawn plan true q rest) (within ++ Mux m ∷ []) others
              (picked_mux point_of_shape of_points plan true pen m rows) refl in
              b.points q
              ∙ ap (λ (k : ℕ). reverse others ++ met_from net holds k (Some (Mux m))) s.one_more
              ∙ ap (λ (o : Option Point). reverse others ++ (Mux m ∷ met_from net holds s.moves o)) s.is
              ∙ ap (λ (xs : List Point). reverse others ++ (Mux m ∷ xs))
              (c.points (next_wire_start pen) (fan_at (next_wire_start pen)))
              ∙ ap (λ (xs : List Point). reverse others ++ xs) (back_both within (Mux m ∷ []) rest_met)
              ∙ back_both (within ++ Mux m ∷ []) others rest_met
              ∙ ap (λ (xs : List Point). reverse xs ++ rest_met) (sym all);
          rows = ((c.selected, c.is, omega (arith, c.high), c.inside), b.rows);
        }

    rows_back : (row : Option ℕ) (rows : Rows) (p : Point) (q n : ℕ) (out : List ℕ) (from : Point)
        (rs : List Row) (bits : List Bool) → AreWired net p rs rows
        → IsRoute (length net.muxes.items) (muxes_in_rows rows)
        → row_point rs bits ≡ Some from → trace net holds n from ≡ Some out
        → row ≡ row_from q rs bits → RowsBack row rows p q n from
    rows_back row NoRow p q n out from [] bits w ms e t r = absurd (none-some from e)
    rows_back row NoRow p q n out from (x ∷ rs) bits w ms e t r = absurd w
    rows_back row (RowThen items rest) p q n out from [] bits w ms e t r = absurd w
    rows_back row (RowThen items rest) p q n out from (x ∷ rs) bits w ms e t r =
        let inner = muxes_in items in
        one_row (some_matches x.values.items bits) row items rest p q n from x.from rs bits
        (λ same k.
        let ends : from ≡ end_of p items = sym same ∙ w.0 in
        here row items rest p q n from ends k (back items p n out w.1 (IsRoute-front (length net.muxes.items)
        inner (muxes_in_rows rest) ms) (subst (λ (y : Point). trace net holds n y ≡ Some out) ends t)))
        (λ f k. there row items rest p q n from (later_row q rs bits row k) (rows_back row rest p (suc q) n
        out from rs bits w.2 (IsRoute-back (length net.muxes.items) inner (muxes_in_rows rest) ms) f t k))
        r e

-- the active path goes back from the end of a form to its beginning
pub way : (net : Net) (holds : Holds) (form : Items) → Describes net form
    → (registers : List ℕ) → path net holds ≡ Some registers
    → Back net holds (plan_of net holds) (row_known net holds) form Entry
    (length net.regs.items + length net.muxes.items)
way net holds form d registers e =
    let most : ℕ = length net.regs.items + length net.muxes.items in
    let (out, is, same) = map_some reverse (active net holds) registers e in
    back net holds (plan_of net holds) (row_known net holds) form Entry most out d.wired d.muxes.different
    (subst (λ (p : Point). trace net holds most p ≡ Some out) d.output is)

-- ---- the registers that are met

met_by : (net : Net) (holds : Holds) (o : Option (List ℕ)) → active net holds ≡ o
    → flat_map register_at (met net holds) ≡ route_of net holds
met_by net holds (Some out) e =
    ap (λ (x : Option (List ℕ)). flat_map register_at (cond (is_some x) (trace_back net holds) [])) e
    ∙ registers_met net holds (length net.regs.items + length net.muxes.items) net.out out e
    ∙ sym (ap (λ (x : Option (List ℕ)). unwrap_or x []) e)
met_by net holds None e =
    ap (λ (x : Option (List ℕ)). flat_map register_at (cond (is_some x) (trace_back net holds) [])) e
    ∙ sym (ap (λ (x : Option (List ℕ)). unwrap_or x []) e)

pub met_is_path : (net : Net) (holds : Holds) → flat_map register_at (met net holds) ≡ route_of net holds
met_is_path net holds = met_by net holds (active net holds) refl

any_register : (r : ℕ) (ps : List Point)
    → list_any (same_point (Reg r)) ps ≡ is_in (flat_map register_at ps) r
any_register r [] = refl
any_register r (Entry ∷ ps) = any_register r ps
any_register r (Reg a ∷ ps) =
    ap (λ (b : Bool). b || list_any (same_point (Reg r)) ps) (number_turned r a)
    ∙ ap (λ (b : Bool). (a == r) || b) (any_register r ps)
any_register r (Mux m ∷ ps) = any_register r ps

-- a register is met exactly where it is on the active path
pub register_met : (net : Net) (holds : Holds) (r : ℕ)
    → is_on_path (met net holds) (Reg r) ≡ is_in (route_of net holds) r
register_met net holds r = any_register r (met net holds)
    ∙ ap (λ (rs : List ℕ). is_in rs r) (met_is_path net holds)
