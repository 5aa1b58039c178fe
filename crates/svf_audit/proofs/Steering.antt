-- The active path and the rows of muxes depend on the bits that select alone.
use Rattle.std.proofs.Common.{◌≡◌, ℕ, zero, suc, true, ◌+◌, List, [], ◌∷◌, length, get_or, map, Option, Some}
use Rattle.std.proofs.Common.{None, refl, ap, ◌∙◌}
use Rattle.std.specs.Prelude.{◌&&◌, flat_map, option_map, unwrap_or}
use Rattle.std.specs.List.{list_all, list_any}
use Rattle.std.specs.Option.{option_and_then}
use Rattle.std.proofs.lemmas.Bool.{false≢true, or_left, or_right}
use Rattle.std.proofs.lemmas.List.Folds.{list_any-append}
use Rattle.net_graph.specs.declared.net.BitId.{BitId}
use Rattle.net_graph.specs.declared.net.Mux.{Mux}
use Rattle.net_graph.specs.declared.net.Net.{Net}
use Rattle.net_graph.specs.declared.net.Point.{Point}
use Rattle.net_graph.specs.declared.net.Point.TheVariants.{Entry, Reg, Mux as FromMux}
use Rattle.net_graph.specs.Path.{is_select, mux_source, reg_source, rows_of, same_place, trace, route_of}
use Rattle.net_graph.specs.Signals.{Holds, hold_at, row_point, some_matches}
use Rattle.path_planner.proofs.Steering.{then_alike}
use Rattle.svf_audit.specs.Audit.{has_row}
use Rattle.svf_audit.proofs.Places.{place_of}

-- two holds have these bits alike
abbrev pub Alike : Holds → Holds → List BitId → Type 0
Alike s t bits = (b : BitId) → list_any (same_place b) bits ≡ true → hold_at s b ≡ hold_at t b

abbrev selects : Mux → List BitId
selects mux = mux.select.items

module _ (s t : Holds) where
  values_alike : (bits : List BitId) → Alike s t bits → map (hold_at s) bits ≡ map (hold_at t) bits
  values_alike [] e = refl
  values_alike (b ∷ bs) e =
      ap (λ v. v ∷ map (hold_at s) bs)
      (e b (or_left (same_place b b) (list_any (same_place b) bs) (place_of b b refl refl)))
      ∙ ap (λ vs. hold_at t b ∷ vs)
      (values_alike bs (λ c h. e c (or_right (same_place c b) (list_any (same_place c) bs) h)))

  alike_first : (mux : Mux) (muxes : List Mux)
      → Alike s t (flat_map selects (mux ∷ muxes)) → Alike s t mux.select.items
  alike_first mux muxes e b h =
      e b (list_any-append (same_place b) mux.select.items (flat_map selects muxes) ∙ or_left
      (list_any (same_place b) mux.select.items) (list_any (same_place b) (flat_map selects muxes)) h)

  alike_rest : (mux : Mux) (muxes : List Mux)
      → Alike s t (flat_map selects (mux ∷ muxes)) → Alike s t (flat_map selects muxes)
  alike_rest mux muxes e b h =
      e b (list_any-append (same_place b) mux.select.items (flat_map selects muxes) ∙ or_right
      (list_any (same_place b) mux.select.items) (list_any (same_place b) (flat_map selects muxes)) h)

  alike_at : (muxes : List Mux) (m : ℕ) → Alike s t (flat_map selects muxes)
      → Alike s t (get_or (map selects muxes) m [])
  alike_at [] m e b h = absurd (false≢true h)
  alike_at (mux ∷ muxes) zero e b h = alike_first mux muxes e b h
  alike_at (mux ∷ muxes) (suc m) e b h = alike_at muxes m (alike_rest mux muxes e) b h

  rows_alike : (muxes : List Mux) → Alike s t (flat_map selects muxes)
      → list_all (has_row s) muxes ≡ list_all (has_row t) muxes
  rows_alike [] e = refl
  rows_alike (mux ∷ muxes) e =
      ap (λ bits. list_any (λ row. some_matches row.values.items bits) mux.rows.items && list_all
      (has_row s) muxes) (values_alike mux.select.items (alike_first mux muxes e))
      ∙ ap (λ t2. has_row t mux && t2) (rows_alike muxes (alike_rest mux muxes e))

module _ (net : Net) (s t : Holds) (same : (b : BitId)
    → is_select net b ≡ true → hold_at s b ≡ hold_at t b) where
  source_same : (m : ℕ) → mux_source net s m ≡ mux_source net t m
  source_same m =
      ap (row_point (rows_of net m))
      (values_alike s t (get_or (map selects net.muxes.items) m []) (alike_at s t net.muxes.items m same))

  trace_same : (n : ℕ) (p : Point) → trace net s n p ≡ trace net t n p
  trace_same n Entry = refl
  trace_same zero (Reg r) = refl
  trace_same zero (FromMux m) = refl
  trace_same (suc n) (Reg r) = ap (option_map (λ rs. r ∷ rs)) (trace_same n (reg_source net r))
  trace_same (suc n) (FromMux m) =
      ap (option_and_then (trace net s n)) (source_same m)
      ∙ then_alike (trace net s n) (trace net t n) (trace_same n) (mux_source net t m)

  pub path_same : route_of net s ≡ route_of net t
  path_same = ap (λ o. unwrap_or o []) (trace_same (length net.regs.items + length net.muxes.items) net.out)

  pub rows_same : list_all (has_row s) net.muxes.items ≡ list_all (has_row t) net.muxes.items
  rows_same = rows_alike s t net.muxes.items same
