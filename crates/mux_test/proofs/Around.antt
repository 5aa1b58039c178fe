-- The active path goes through a mux exactly where each mux around it is in the row that it is in.
use Rattle.std.proofs.Common.{◌≡◌, ◌⊎◌, inl, inr, ⊎_elim, ℕ, zero, suc, ◌+◌, ◌<◌, Bool, true, false, List, []}
use Rattle.std.proofs.Common.{◌∷◌, ◌++◌, length, Option, Some, None, refl, sym, ap, ◌∙◌, subst}
use Rattle.std.specs.Prelude.{◌==◌, All, Contains}
use Rattle.std.proofs.lemmas.Bool.{eq-eqb, eqb-true, false≢true, true≢false}
use Rattle.std.proofs.lemmas.Option.{same_Some, none-some}
use Rattle.ij_bits.proofs.Lists.{map_some, then_some}
use Rattle.net_graph.specs.Chain.{NotIn}
use Rattle.net_graph.specs.declared.branch.Branch.{Branch}
use Rattle.net_graph.specs.declared.net.Net.{Net}
use Rattle.net_graph.specs.declared.net.Point.{Point}
use Rattle.net_graph.specs.declared.net.Point.TheVariants.{Entry, Reg as FromReg, Mux as FromMux}
use Rattle.net_graph.specs.declared.net.Row.{Row}
use Rattle.net_graph.specs.MuxesMet.{active_muxes, muxes_met}
use Rattle.net_graph.specs.Path.{active, mux_source, reg_source, row_from, row_of, rows_of, select_value}
use Rattle.net_graph.specs.Path.{trace}
use Rattle.net_graph.specs.Signals.{Holds, row_point, some_matches}
use Rattle.net_tree.specs.Form.{AreWired, IsWired, Items, MuxThen, NoRow, Nothing, RegThen, RowThen, Rows}
use Rattle.net_tree.specs.Form.{end_of}
use Rattle.net_tree.specs.Places.{Placed, place_of, placed, placed_rows}
use Rattle.path_planner.specs.Planning.{IsBranchOf}
use Rattle.path_planner.specs.Rows.{all_in}
use Rattle.path_planner.specs.Scannable.{IsScannable}
use Rattle.path_planner.specs.Settling.{is_in_row}
use Rattle.path_planner.proofs.Among.{Among, all_among, all_true, among-cases, among-left, among-right}
use Rattle.path_planner.proofs.Among.{not_among, true_all}
use Rattle.path_planner.proofs.Inside.{around, mux_item, mux_place}
use Rattle.path_planner.proofs.MuxesMet.{mux_met}
use Rattle.path_planner.proofs.Places.{AreIn, one_branch}
use Rattle.path_planner.proofs.Step.{has_path}
use Rattle.mux_test.specs.Laws.{IsTestable}

module _ (net : Net) (holds : Holds) where
  in_one_more : (around : List Branch) (m k : ℕ) → row_of net holds m ≡ Some k → AreIn net holds around
      → AreIn net holds (around ++ one_branch m k)
  in_one_more around m k e h b a =
      ⊎_elim (λ c. h b c) (λ c. ⊎_elim (λ f. ap (λ (z : Branch). row_of net holds z.mux) (sym f) ∙ e
      ∙ ap (λ (z : Branch). Some z.row) f) (λ z. absurd z) c) (among-cases b around (one_branch m k) a)

  -- a mux that is in a list, around which each mux is in its row
  abbrev IsStanding : List Placed → ℕ → Type 0
  IsStanding xs m = (x : Placed) × Among x xs × (x.item ≡ FromMux m) × AreIn net holds x.place

  -- or that is met from a point on
  abbrev IsMetFrom : Point → ℕ → Type 0
  IsMetFrom p m = (k : ℕ) × (met : List ℕ)
      × (trace net holds k p ≡ Some met) × Among m (muxes_met net holds k p)

  stands_in : (xs ys : List Placed) (m : ℕ)
      → ((x : Placed) → Among x xs → Among x ys) → IsStanding xs m → IsStanding ys m
  stands_in xs ys m f (x, a, i, h) = (x, f x a, i, h)

  before_reg : (r m : ℕ) (p : Point) → reg_source net r ≡ p → IsMetFrom (FromReg r) m → IsMetFrom p m
  before_reg r m p w (zero, met, t, a) = absurd a
  before_reg r m p w (suc k, met, t, a) =
      let (rest, f, g) = map_some (λ rs. r ∷ rs) (trace net holds k (reg_source net r)) met t in
      subst (λ y. IsMetFrom y m) w (k, rest, f, a)

  -- what is met from a mux on is the mux, or is met from what it passes on
  before_mux : (x m : ℕ) → IsMetFrom (FromMux x) m
      → (x ≡ m) ⊎ ((q : Point) × (mux_source net holds x ≡ Some q) × IsMetFrom q m)
  before_mux x m (zero, met, t, a) = absurd a
  before_mux x m (suc k, met, t, a) =
      let (q, f, g) = then_some (trace net holds k) (mux_source net holds x) met t in
      ⊎_elim (λ e. inl e) (λ i. inr (
        q,
        f,
        (
          k,
          met,
          g,
          subst
              (λ o. Among m (elim o as (λ _. List ℕ) [ Some p ↦ muxes_met net holds k p | None ↦ [] ])) f i,
        ),
      )) a

  mutual
    stands : (items : Items) (around : List Branch) (p : Point) (m : ℕ) → IsWired net p items
        → AreIn net holds around → IsMetFrom (end_of p items) m
        → IsStanding (placed around items) m ⊎ IsMetFrom p m
    stands Nothing around p m w h a = inr a
    stands (RegThen r rest) around p m w h a =
        ⊎_elim (λ s. inl (stands_in (placed around rest) (placed around (RegThen r rest)) m (λ x i. inr i) s))
        (λ s. inr (before_reg r m p w.0 s)) (stands rest around (FromReg r) m w.1 h a)
    stands (MuxThen x rows rest) around p m w h a =
        let within = placed_rows around x 0 rows in
        let following = placed around rest in
        ⊎_elim (λ s. inl (stands_in following (placed around (MuxThen x rows rest)) m
        (λ y i. inr (among-right y within following i)) s))
        (λ s. ⊎_elim (λ e. inl (record { item = FromMux x; place = around }, inl refl, ap FromMux e, h))
        (λ (q, f, t). ⊎_elim (λ c. inl (stands_in within (placed around (MuxThen x rows rest)) m
        (λ y i. inr (among-left y within following i)) c)) (λ c. inr c) (rows_stand rows around p x 0
        (rows_of net x) (select_value net holds x) q m w.0 f (λ row g. g) h t)) (before_mux x m s))
        (stands rest around (FromMux x) m w.1 h a)

    -- the rows from one on, of which the mux is in the first that lists its select value
    rows_stand : (rows : Rows) (around : List Branch) (p : Point) (x c : ℕ) (rs : List Row) (bits : List Bool)
        (q : Point) (m : ℕ) → AreWired net p rs rows → row_point rs bits ≡ Some q
        → ((row : ℕ) → row_from c rs bits ≡ Some row → row_of net holds x ≡ Some row) → AreIn net holds around
        → IsMetFrom q m → IsStanding (placed_rows around x c rows) m ⊎ IsMetFrom p m
    rows_stand NoRow around p x c [] bits q m w f n h a = absurd (none-some q f)
    rows_stand NoRow around p x c (r ∷ rs) bits q m w f n h a = absurd w
    rows_stand (RowThen items rest) around p x c [] bits q m w f n h a = absurd w
    rows_stand (RowThen items rest) around p x c (r ∷ rs) bits q m w f n h a =
        let within = placed (around ++ one_branch x c) items in
        let following = placed_rows around x (suc c) rest in
        pick (some_matches r.values.items bits) f n (λ g k. ⊎_elim
        (λ s. inl (stands_in within (within ++ following) m (λ y i. among-left y within following i) s))
        (λ s. inr s) (stands items (around ++ one_branch x c) p m w.1 (in_one_more around x c k h)
        (subst (λ y. IsMetFrom y m) (sym (same_Some r.from q g) ∙ w.0) a))) (λ g k. ⊎_elim (λ s. inl
        (stands_in following (within ++ following) m (λ y i. among-right y within following i) s))
        (λ s. inr s) (rows_stand rest around p x (suc c) rs bits q m w.2 g k h a))
      where
        pick : {A : Type 0} (b : Bool)
            → elim b as (λ _. Option Point) [ true ↦ Some r.from | false ↦ row_point rs bits ] ≡ Some q
            → ((row : ℕ) → elim b as (λ _. Option ℕ) [ true ↦ Some c | false ↦ row_from (suc c) rs bits ]
            ≡ Some row → row_of net holds x ≡ Some row)
            → (Some r.from ≡ Some q → row_of net holds x ≡ Some c → A) → (row_point rs bits ≡ Some q
            → ((row : ℕ) → row_from (suc c) rs bits ≡ Some row → row_of net holds x ≡ Some row) → A) → A
        pick true g k here there = here g (k c refl)
        pick false g k here there = there g k

  in_row : (b : Branch) → is_in_row net holds b ≡ true → row_of net holds b.mux ≡ Some b.row
  in_row b e = on (row_of net holds b.mux) e
    where
      on : (o : Option ℕ)
          → elim o as (λ _. Bool) [ Some q ↦ q == b.row | None ↦ false ] ≡ true → o ≡ Some b.row
      on None f = absurd (false≢true f)
      on (Some q) f = ap Some (eqb-true q b.row f)

  row_in : (b : Branch) → row_of net holds b.mux ≡ Some b.row → is_in_row net holds b ≡ true
  row_in b e = ap (λ o. elim o as (λ _. Bool) [ Some q ↦ q == b.row | None ↦ false ]) e
      ∙ eq-eqb b.row b.row refl

pub place_there : (net : Net) (form : Items) (m : ℕ) → IsTestable net form → m < length net.muxes.items
    → All (IsBranchOf net) (place_of form (FromMux m))
place_there net form m t l =
    all_among (IsBranchOf net) (place_of form (FromMux m)) (λ b a. let x = around net form t.describes
    (FromMux m) (place_of form (FromMux m)) b (mux_item net form t.describes m l) a in
    record { mux = x.there; row = x.row })

module _ (net : Net) (form : Items) (holds : Holds)
    (t : IsTestable net form) (s : IsScannable net holds) where
  pub met_in : (m : ℕ) → m < length net.muxes.items
      → all_in net (place_of form (FromMux m)) holds ≡ true → Contains (active_muxes net holds) m
  met_in m l e =
      let (path, f) = has_path net form t.well_formed t.describes t.lawful holds s in
      mux_met net form holds path m t.describes f l
      (λ b a. in_row net holds b (true_all (is_in_row net holds) (place_of form (FromMux m)) e b a))

  pub unmet_out : (m : ℕ) → all_in net (place_of form (FromMux m)) holds ≡ false
      → NotIn m (active_muxes net holds)
  unmet_out m e =
      let (path, f) = has_path net form t.well_formed t.describes t.lawful holds s in
      let n = length net.regs.items + length net.muxes.items in
      let d = t.describes in
      not_among m (active_muxes net holds) (λ a. ⊎_elim
      (λ (x, i, k, h). true≢false (sym (all_true (is_in_row net holds) (place_of form (FromMux m))
      (λ b c. row_in net holds b (h b (subst (Among b) (mux_place net form d x m i k) c)))) ∙ e))
      (λ (k, met, u, c). c) (stands net holds form [] Entry m d.wired (λ b z. absurd z)
      (subst (λ y. IsMetFrom net holds y m) d.output (n, path, f, a))))
