-- The traced path of a net that a form describes is the form's walk, also where muxes off the path have no
-- row.
use Rattle.std.proofs.Common.{◌≡◌, ℕ, zero, suc, Bool, true, false, List, [], ◌∷◌, ◌+◌, length, Option, Some}
use Rattle.std.proofs.Common.{refl, sym, ap, ◌∙◌}
use Rattle.std.specs.Option.{option_and_then}
use Rattle.net_graph.specs.declared.net.Net.{Net}
use Rattle.net_graph.specs.declared.net.Row.{Row}
use Rattle.net_graph.specs.declared.net.Point.{Point}
use Rattle.net_graph.specs.declared.net.Point.TheVariants.{Entry, Reg as FromReg, Mux as FromMux}
use Rattle.net_graph.specs.Signals.{Holds, some_matches, row_point}
use Rattle.net_graph.specs.Path.{reg_source, rows_of, select_value, mux_source, trace, active}
use Rattle.net_tree.specs.Form.{Items, Nothing, RegThen, MuxThen, Rows, NoRow, RowThen, end_of, IsWired}
use Rattle.net_tree.specs.Form.{AreWired, Describes}
use Rattle.net_tree.proofs.Walks.{walk, walk_rows}
use Rattle.std.proofs.lemmas.Option.{same_Some, none-some}
use Rattle.ij_bits.proofs.Lists.{map_some, then_some}

module _ (net : Net) (holds : Holds) where
  -- a trace that goes on from a list's source, and the walk of the list
  abbrev Goes : Point → (List ℕ → Option (List ℕ)) → List ℕ → Type 0
  Goes p steps met = (k : ℕ) × (before : List ℕ)
      × (trace net holds k p ≡ Some before) × (steps before ≡ Some met)

  at_reg : (n r : ℕ) (met : List ℕ) → trace net holds n (FromReg r) ≡ Some met → (k : ℕ) × (before : List ℕ)
      × (trace net holds k (reg_source net r) ≡ Some before) × (r ∷ before ≡ met)
  at_reg zero r met e = absurd (none-some met e)
  at_reg (suc n) r met e =
      let (rest, f, g) = map_some (λ rs. r ∷ rs) (trace net holds n (reg_source net r)) met e in
      (n, rest, f, g)

  at_mux : (n m : ℕ) (met : List ℕ) → trace net holds n (FromMux m) ≡ Some met
      → (k : ℕ) × (q : Point) × (mux_source net holds m ≡ Some q) × (trace net holds k q ≡ Some met)
  at_mux zero m met e = absurd (none-some met e)
  at_mux (suc n) m met e =
      let (q, f, g) = then_some (trace net holds n) (mux_source net holds m) met e in
      (n, q, f, g)

  pick_goes : (b : Bool) (here there : List ℕ
      → Option (List ℕ)) (from q p : Point) (next : Option Point) (k : ℕ) (met : List ℕ)
      → elim b [ true ↦ Some from | false ↦ next ] ≡ Some q
      → (from ≡ q → Goes p here met) → (next ≡ Some q → Goes p there met)
      → Goes p (λ before. elim b [ true ↦ here before | false ↦ there before ]) met
  pick_goes true here there from q p next k met e f g = f (same_Some from q e)
  pick_goes false here there from q p next k met e f g = g e

  mutual
    goes : (items : Items) (p : Point) (n : ℕ) (met : List ℕ) → IsWired net p items
        → trace net holds n (end_of p items) ≡ Some met → Goes p (walk net holds items) met
    goes Nothing p n met w e = (n, met, e, refl)
    goes (RegThen r rest) p n met w e =
        let (k, before, t, s) = goes rest (FromReg r) n met w.1 e in
        let (j, first, u, v) = at_reg k r before t in
        (j, first, ap (trace net holds j) (sym w.0) ∙ u, ap (walk net holds rest) v ∙ s)
    goes (MuxThen m rows rest) p n met w e =
        let (k, before, t, s) = goes rest (FromMux m) n met w.1 e in
        let (j, q, u, v) = at_mux k m before t in
        let (i, first, x, y) = rows_go rows p (rows_of net m) (select_value net holds m) q j before w.0 u v in
        (i, first, x, ap (option_and_then (walk net holds rest)) y ∙ s)

    rows_go : (rows : Rows) (p : Point) (rs : List Row) (bits : List Bool) (q : Point) (n : ℕ) (met : List ℕ)
        → AreWired net p rs rows → row_point rs bits ≡ Some q → trace net holds n q ≡ Some met
        → Goes p (walk_rows net holds bits rs rows) met
    rows_go NoRow p [] bits q n met w e t = absurd (none-some q e)
    rows_go NoRow p (r ∷ rs) bits q n met w e t = absurd w
    rows_go (RowThen items rest) p [] bits q n met w e t = absurd w
    rows_go (RowThen items rest) p (r ∷ rs) bits q n met w e t =
        pick_goes (some_matches r.values.items bits) (walk net holds items)
        (walk_rows net holds bits rs rest) r.from q p (row_point rs bits) n met e
        (λ f. goes items p n met w.1 (ap (trace net holds n) (sym w.0 ∙ f) ∙ t))
        (λ f. rows_go rest p rs bits q n met w.2 f t)

at_entry : (net : Net) (holds : Holds) (k : ℕ) (before : List ℕ)
    → trace net holds k Entry ≡ Some before → before ≡ []
at_entry net holds zero before e = sym (same_Some [] before e)
at_entry net holds (suc k) before e = sym (same_Some [] before e)

pub path_is_walk : (net : Net) (holds : Holds) (form : Items) (met : List ℕ) → Describes net form
    → active net holds ≡ Some met → walk net holds form [] ≡ Some met
path_is_walk net holds form met d e =
    let n = length net.regs.items + length net.muxes.items in
    let (k, before, t, s) =
    goes net holds form Entry n met d.wired (ap (trace net holds n) (sym d.output) ∙ e) in
    ap (walk net holds form) (sym (at_entry net holds k before t)) ∙ s
