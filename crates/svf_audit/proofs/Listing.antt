-- Where each mux is in one of its rows, each has a row that lists its select value.
use Rattle.std.proofs.Common.{◌≡◌, ⊎_elim, ℕ, suc, ◌<◌, length, arith, Bool, true, false, List, [], ◌∷◌, Some}
use Rattle.std.proofs.Common.{refl, sym, ap, ◌∙◌}
use Rattle.std.specs.Prelude.{◌||◌, map, get_or, IsSome}
use Rattle.std.specs.Option.{is_some}
use Rattle.std.specs.List.{list_all, list_any}
use Rattle.std.proofs.lemmas.Bool.{and_from, cases_Bool}
use Rattle.net_graph.specs.declared.net.Mux.{Mux}
use Rattle.net_graph.specs.declared.net.Net.{Net}
use Rattle.net_graph.specs.declared.net.Row.{Row}
use Rattle.net_graph.specs.Path.{AreListed}
use Rattle.net_graph.specs.Signals.{Holds, hold_at, row_point, some_matches}
use Rattle.svf_audit.specs.Audit.{has_row}

row_point_some : (rows : List Row) (bits : List Bool)
    → is_some (row_point rows bits) ≡ list_any (λ row. some_matches row.values.items bits) rows
row_point_some [] bits = refl
row_point_some (r ∷ rs) bits =
    let rest = list_any (λ row. some_matches row.values.items bits) rs in
    ⊎_elim
    (λ t. ap (λ b. is_some (elim b [ true ↦ Some r.from | false ↦ row_point rs bits ])) t
    ∙ sym (ap (λ b. b || rest) t))
    (λ t. ap (λ b. is_some (elim b [ true ↦ Some r.from | false ↦ row_point rs bits ])) t
    ∙ row_point_some rs bits ∙ sym (ap (λ b. b || rest) t))
    (cases_Bool (some_matches r.values.items bits))

-- each of these muxes is in one of its rows
abbrev InRows : Holds → List Mux → Type 0
InRows holds muxes =
    (m : ℕ) → m < length muxes → IsSome (row_point (get_or (map (λ mux. mux.rows.items) muxes) m [])
    (map (hold_at holds) (get_or (map (λ mux. mux.select.items) muxes) m [])))

rows_all : (holds : Holds) (muxes : List Mux) → InRows holds muxes → list_all (has_row holds) muxes ≡ true
rows_all holds [] listed = refl
rows_all holds (x ∷ muxes) listed =
    and_from (has_row holds x) (list_all (has_row holds) muxes)
    (sym (row_point_some x.rows.items (map (hold_at holds) x.select.items)) ∙ listed 0 (omega arith))
    (rows_all holds muxes (λ m l. listed (suc m) (omega (arith, l))))

pub all_have_rows : (net : Net) (holds : Holds) → AreListed net holds
    → list_all (has_row holds) net.muxes.items ≡ true
all_have_rows net holds listed = rows_all holds net.muxes.items listed
