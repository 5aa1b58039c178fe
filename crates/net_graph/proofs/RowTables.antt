-- A mux that one bit selects is in the row that its table has for the bit.
use Rattle.std.proofs.Common.{◌≡◌, ℕ, ◌<◌, Bool, true, false, List, [], ◌∷◌, Option, Some, None, length}
use Rattle.std.proofs.Common.{get_or, sym, ap, ◌∙◌, subst, arith}
use Rattle.std.specs.Prelude.{map, All, unwrap_or}
use Rattle.std.proofs.lemmas.List.{get_or-map}
use Rattle.net_graph.specs.declared.net.BitId.{BitId}
use Rattle.net_graph.specs.declared.net.Mux.{Mux}
use Rattle.net_graph.specs.declared.net.Net.{Net}
use Rattle.net_graph.specs.declared.net.Row.{Row}
use Rattle.net_graph.specs.declared.row_table.OneBit.{OneBit}
use Rattle.net_graph.specs.Held.{IsHeld, AreHolds}
use Rattle.net_graph.specs.Named.{IsBitOf}
use Rattle.net_graph.specs.Nets.{IsMux, IsNet}
use Rattle.net_graph.specs.Path.{row_from, row_of, rows_of, select_value}
use Rattle.net_graph.specs.RowTables.{AreRows, mux_rows, one_bit_of}
use Rattle.net_graph.specs.Signals.{Holds, hold_at}
use Rattle.net_graph.proofs.Selecting.{is_held}

record Says (rows : List Row) (select : List BitId) (k : OneBit) : Type 0 where
  pub bits : select ≡ k.bit ∷ []
  pub zero : k.zero ≡ row_from 0 rows (false ∷ [])
  pub one : k.one ≡ row_from 0 rows (true ∷ [])

says : (rows : List Row) (select : List BitId) (k : OneBit)
    → one_bit_of rows select ≡ Some k → Says rows select k
says rows [] k e = absurd (let none : None ≡ Some k = e in cc)
says rows (b ∷ []) k e =
    let same : unwrap_or (one_bit_of rows (b ∷ [])) k ≡ k = ap (λ o. unwrap_or o k) e in
    record {
      bits = ap (λ x. x.bit ∷ []) same;
      zero = sym (ap (λ x. x.zero) same);
      one = sym (ap (λ x. x.one) same);
    }
says rows (b ∷ c ∷ bs) k e = absurd (let none : None ≡ Some k = e in cc)

pub some_mux : (ms : List Mux) (m : ℕ) → m < length ms → Mux
some_mux [] m l = absurd (omega (arith, l))
some_mux (x ∷ ms) m l = x

-- what is known of a mux that one bit selects
pub record IsKnown (net : Net) (holds : Holds) (m : ℕ) (k : OneBit) : Type 0 where
  pub held : IsHeld holds k.bit
  pub row : (bit : Bool) → hold_at holds k.bit ≡ bit
      → row_of net holds m ≡ row_from 0 (rows_of net m) (bit ∷ [])
  pub zero : k.zero ≡ row_from 0 (rows_of net m) (false ∷ [])
  pub one : k.one ≡ row_from 0 (rows_of net m) (true ∷ [])

pub is_known : (net : Net) (holds : Holds) (m : ℕ) (k : OneBit) (table : List (Option OneBit))
    (o : Option OneBit) → IsNet net → AreHolds net holds → m < length net.muxes.items → AreRows net table
    → o ≡ get_or table m o → o ≡ Some k → IsKnown net holds m k
is_known net holds m k table o n h l t g e =
    let d = some_mux net.muxes.items m l in
    let mux = get_or net.muxes.items m d in
    let fits : IsMux net mux = n.muxes m d l in
    let there : mux_rows mux ≡ Some k =
    sym (get_or-map mux_rows net.muxes.items m d o l) ∙ ap (λ x. get_or x m o) (sym t) ∙ sym g ∙ e in
    let s = says mux.rows.items mux.select.items k there in
    let rows : rows_of net m ≡ mux.rows.items = get_or-map (λ x. x.rows.items) net.muxes.items m d [] l in
    let value : select_value net holds m ≡ hold_at holds k.bit ∷ [] =
    ap (map (hold_at holds)) (get_or-map (λ x. x.select.items) net.muxes.items m d [] l ∙ s.bits) in
    record {
      held = is_held net holds k.bit h ((subst (All (IsBitOf net)) s.bits fits.select) 0 k.bit (omega arith));
      row = λ bit b. ap (row_from 0 (rows_of net m)) (value ∙ ap (λ x. x ∷ []) b);
      zero = s.zero ∙ ap (λ r. row_from 0 r (false ∷ [])) (sym rows);
      one = s.one ∙ ap (λ r. row_from 0 r (true ∷ [])) (sym rows);
    }
