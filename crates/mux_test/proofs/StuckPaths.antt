-- The active path, also where one mux is stuck, as a loop finds it.
use Rattle.std.proofs.Common.{◌≡◌, ℕ, zero, suc, ◌+◌, ◌-◌, ◌<◌, ◌≤◌, ◌≢◌, Bool, true, false, List, [], ◌∷◌}
use Rattle.std.proofs.Common.{◌++◌, length, get_or, Option, Some, None, refl, sym, ap, ◌∙◌, subst, arith}
use Rattle.std.proofs.Common.{length-append}
use Rattle.std.specs.Prelude.{map, All, option_map, ◌==◌, unwrap_or}
use Rattle.std.specs.List.{slice_get}
use Rattle.std.specs.Option.{option_and_then}
use Rattle.std.proofs.lemmas.Bool.{eq-eqb, eqb-true}
use Rattle.std.proofs.lemmas.List.{append_assoc, append-nil, get_or-map}
use Rattle.std.proofs.lemmas.List.Elements.{All-head, All-tail}
use Rattle.std.proofs.lemmas.Option.{same_Some, none-some}
use Rattle.ij_bits.proofs.Lists.{map_some}
use Rattle.net_graph.specs.Chain.{IsRoute}
use Rattle.net_graph.specs.declared.branch.Branch.{Branch}
use Rattle.net_graph.specs.declared.net.Mux.{Mux}
use Rattle.net_graph.specs.declared.net.Net.{Net}
use Rattle.net_graph.specs.declared.net.Point.{Point}
use Rattle.net_graph.specs.declared.net.Point.TheVariants.{Entry, Reg, Mux as FromMux}
use Rattle.net_graph.specs.declared.net.Row.{Row}
use Rattle.net_graph.specs.Named.{IsPointOf}
use Rattle.net_graph.specs.Nets.{IsNet}
use Rattle.net_graph.specs.Path.{reg_source, rows_of, row_from, row_of, select_value, mux_source}
use Rattle.net_graph.specs.Signals.{Holds, row_point, some_matches}
use Rattle.net_graph.specs.Stuck.{trace_by, row_source, stuck_source}
use Rattle.net_graph.specs.Tracing.{registers_at}
use Rattle.net_graph.proofs.Routes.{route_is}
use Rattle.net_graph.proofs.Stuck.{stuck_route_is, trace_is_by, row_point_is}
use Rattle.net_graph.proofs.Tracing.{before_is_point, mux_points, route_fits}
use Rattle.path_planner.specs.Planning.{IsBranchOf}
use Rattle.mux_test.specs.Steps.{before, route_where, source_of}

-- ---- what a mux passes on

row_at : (rs : List Row) (q : ℕ) (row : Row) → q < length rs → row ≡ get_or rs q row
    → Some row.from ≡ slice_get (map (λ r. r.from) rs) q
row_at [] q row l e = absurd (omega (arith, l))
row_at (r ∷ rs) zero row l e = ap (λ x. Some x.from) e
row_at (r ∷ rs) (suc q) row l e = row_at rs q row (omega (arith, l)) e

pub rows_are : (net : Net) (m : ℕ) (mux : Mux) → m < length net.muxes.items
    → mux ≡ get_or net.muxes.items m mux → rows_of net m ≡ mux.rows.items
rows_are net m mux l e =
    get_or-map (λ x. x.rows.items) net.muxes.items m mux [] l ∙ ap (λ x. x.rows.items) (sym e)

-- the row that lists the select value
row_found : (k : ℕ) (rs : List Row) (bits : List Bool) (q : ℕ) → row_from k rs bits ≡ Some q
    → (i : ℕ) × (k + i ≡ q) × (i < length rs) × (row_point rs bits ≡ slice_get (map (λ r. r.from) rs) i)
row_found k [] bits q e = absurd (none-some q e)
row_found k (r ∷ rs) bits q e = on (some_matches r.values.items bits) e (row_found (suc k) rs bits q)
  where
    on : (t : Bool) → elim t as (λ _. Option ℕ) [ true ↦ Some k | false ↦ row_from (suc k) rs bits ] ≡ Some q
        → (row_from (suc k) rs bits ≡ Some q → (i : ℕ) × (suc k + i ≡ q) × (i < length rs)
        × (row_point rs bits ≡ slice_get (map (λ r. r.from) rs) i))
        → (i : ℕ) × (k + i ≡ q) × (i < length (r ∷ rs))
        × (elim t as (λ _. Option Point) [ true ↦ Some r.from | false ↦ row_point rs bits ]
        ≡ slice_get (map (λ r. r.from) (r ∷ rs)) i)
    on true f later = (0, (let s : k ≡ q = same_Some k q f in omega (arith, s)), omega arith, refl)
    on false f later = let (i, s, l, p) = later f in (suc i, omega (arith, s), omega (arith, l), p)

pub record IsSelected (net : Net) (holds : Holds) (b : Branch) : Type 0 where
  pub there : IsBranchOf net b
  pub source : mux_source net holds b.mux ≡ row_source net b

pub selected : (net : Net) (holds : Holds) (m q : ℕ) → m < length net.muxes.items
    → row_of net holds m ≡ Some q → IsSelected net holds (record { mux = m; row = q })
selected net holds m q l e =
    let (i, s, k, p) = row_found 0 (rows_of net m) (select_value net holds m) q e in
    let same : i ≡ q = omega (arith, s) in
    record {
      there = record { mux = l; row = omega (arith, same, k) };
      source = p ∙ ap (slice_get (map (λ r. r.from) (rows_of net m))) same;
    }

no_row : (k : ℕ) (rs : List Row) (bits : List Bool) → row_from k rs bits ≡ None → row_point rs bits ≡ None
no_row k [] bits e = refl
no_row k (r ∷ rs) bits e = on (some_matches r.values.items bits) e (no_row (suc k) rs bits)
  where
    on : (t : Bool) → elim t as (λ _. Option ℕ) [ true ↦ Some k | false ↦ row_from (suc k) rs bits ] ≡ None
        → (row_from (suc k) rs bits ≡ None → row_point rs bits ≡ None)
        → elim t as (λ _. Option Point) [ true ↦ Some r.from | false ↦ row_point rs bits ] ≡ None
    on true f later = absurd (none-some k (sym f))
    on false f later = later f

pub stuck_elsewhere : (net : Net) (b : Branch) (holds : Holds) (m : ℕ) → m ≢ b.mux
    → mux_source net holds m ≡ stuck_source net b holds m
stuck_elsewhere net b holds m n = on (m == b.mux) (λ t. n (eqb-true m b.mux t))
  where
    on : (t : Bool) → (t ≡ true → ⊥) → mux_source net holds m
        ≡ elim t as (λ _. Option Point) [ true ↦ row_source net b | false ↦ mux_source net holds m ]
    on true h = absurd (h refl)
    on false h = refl

-- ---- what is met next is there

pub before_there : (net : Net) (stuck : Option Branch) (holds : Holds) (p q : Point) → IsNet net
    → IsPointOf net p → before net (source_of net stuck holds) p ≡ Some q → IsPointOf net q
before_there net stuck holds Entry q w i e = before_is_point net holds Entry q w i e
before_there net stuck holds (Reg r) q w i e = before_is_point net holds (Reg r) q w i e
before_there net None holds (FromMux m) q w i e = before_is_point net holds (FromMux m) q w i e
before_there net (Some b) holds (FromMux m) q w i e = on (m == b.mux) e
  where
    on : (t : Bool) → elim t as (λ _. Option Point) [
      | true ↦ row_source net b
      | false ↦ mux_source net holds m
    ] ≡ Some q → IsPointOf net q
    on true f = row_point_is net (rows_of net b.mux) b.row q
        (mux_points net net.muxes.items b.mux w.muxes) f
    on false f = before_is_point net holds (FromMux m) q w i f

-- ---- the registers met so far, and what is still to be traced

abbrev pub moves : Net → ℕ
moves net = length net.regs.items + length net.muxes.items

module _ (net : Net) (source : ℕ → Option Point) where
  abbrev pub route : List ℕ
  route = unwrap_or (trace_by net source (moves net) net.out) []

  abbrev pub IsTracedBy : ℕ → Point → List ℕ → Type 0
  IsTracedBy n p met = trace_by net source (moves net) net.out
      ≡ option_map (λ rs. met ++ rs) (trace_by net source n p)

  -- one step of a trace: what a point is, then what is met before it
  pub by_step : (n : ℕ) (p : Point) → trace_by net source (suc n) p ≡ option_and_then
      (λ q. option_map (λ rs. registers_at p ++ rs) (trace_by net source n q)) (before net source p)
  by_step n Entry = on n
    where
      on : (n : ℕ) → Some [] ≡ option_map (λ rs. [] ++ rs) (trace_by net source n Entry)
      on zero = refl
      on (suc n) = refl
  by_step n (Reg r) = refl
  by_step n (FromMux m) = on (source m)
    where
      same : (o : Option (List ℕ)) → o ≡ option_map (λ rs. [] ++ rs) o
      same None = refl
      same (Some rs) = refl

      on : (o : Option Point) → option_and_then (trace_by net source n) o
          ≡ option_and_then (λ q. option_map (λ rs. [] ++ rs) (trace_by net source n q)) o
      on None = refl
      on (Some q) = same (trace_by net source n q)

  map_twice : (a b : List ℕ) (o : Option (List ℕ))
      → option_map (λ rs. a ++ rs) (option_map (λ rs. b ++ rs) o) ≡ option_map (λ rs. (a ++ b) ++ rs) o
  map_twice a b None = refl
  map_twice a b (Some rs) = ap Some (sym (append_assoc a b rs))

  pub by_turn : (i : ℕ) (p q : Point) (met now : List ℕ) → i < moves net → Some q ≡ before net source p
      → now ≡ met ++ registers_at p → IsTracedBy (moves net - i) p met
      → IsTracedBy (moves net - (i + 1)) q now
  by_turn i p q met now l e a t =
      let n = moves net - (i + 1) in
      let z : moves net - i ≡ suc n = omega (arith, l) in
      subst (IsTracedBy n q) (sym a) (
      subst (λ k. IsTracedBy k p met) z t
      ∙ ap (option_map (λ rs. met ++ rs)) (by_step n p ∙ ap
      (option_and_then (λ x. option_map (λ rs. registers_at p ++ rs) (trace_by net source n x))) (sym e))
      ∙ map_twice met (registers_at p) (trace_by net source n q)
      )

  empty : (n : ℕ) (p : Point) (met : List ℕ)
      → trace_by net source n p ≡ None → IsTracedBy n p met → [] ≡ route
  empty n p met e t = ap (λ o. unwrap_or o []) (sym (t ∙ ap (option_map (λ rs. met ++ rs)) e))

  -- no path where a mux passes on nothing
  pub by_none : (i : ℕ) (p : Point) (met now : List ℕ) → i < moves net → None ≡ before net source p → now ≡ []
      → IsTracedBy (moves net - i) p met → now ≡ route
  by_none i p met now l e a t =
      let n = moves net - (i + 1) in
      let z : moves net - i ≡ suc n = omega (arith, l) in
      a ∙ empty (suc n) p met (by_step n p ∙ ap
      (option_and_then (λ x. option_map (λ rs. registers_at p ++ rs) (trace_by net source n x))) (sym e))
      (subst (λ k. IsTracedBy k p met) z t)

  -- the end, at the entry or elsewhere
  pub by_entry : (n : ℕ) (p : Point) (met : List ℕ) → p ≡ Entry → IsTracedBy n p met → met ≡ route
  by_entry n p met e t =
      sym (ap (λ o. unwrap_or o [])
      (t ∙ ap (λ x. option_map (λ rs. met ++ rs) (trace_by net source n x)) e ∙ ended n) ∙ append-nil met)
    where
      ended : (n : ℕ) → option_map (λ rs. met ++ rs) (trace_by net source n Entry) ≡ Some (met ++ [])
      ended zero = refl
      ended (suc n) = refl

  pub by_end : (n : ℕ) (p : Point) (met now : List ℕ) → n ≡ 0 → (p ≡ Entry → ⊥)
      → now ≡ [] → IsTracedBy n p met → now ≡ route
  by_end n p met now z e a t = a ∙ empty 0 p met (stops p e) (subst (λ k. IsTracedBy k p met) z t)
    where
      stops : (p : Point) → (p ≡ Entry → ⊥) → trace_by net source 0 p ≡ None
      stops Entry e = absurd (e refl)
      stops (Reg r) e = refl
      stops (FromMux m) e = refl

  -- no path with more registers than there are
  pub by_full : (n : ℕ) (p : Point) (met now : List ℕ) → registers_at p ≢ []
      → length met ≡ length net.regs.items → IsRoute (length net.regs.items) route
      → now ≡ [] → IsTracedBy n p met → now ≡ route
  by_full n Entry met now h l r a t = absurd (h refl)
  by_full n (FromMux m) met now h l r a t = absurd (h refl)
  by_full n (Reg x) met now h l r a t = a ∙ on (trace_by net source (moves net) net.out) refl
    where
      longer : (n : ℕ) (tail : List ℕ) → trace_by net source n (Reg x) ≡ Some tail → 1 ≤ length tail
      longer zero tail e = absurd (none-some tail e)
      longer (suc n) tail e =
          let (rest, f, g) = map_some (λ rs. x ∷ rs) (trace_by net source n (reg_source net x)) tail e in
          omega (arith, ap length g)

      on : (o : Option (List ℕ)) → trace_by net source (moves net) net.out ≡ o → [] ≡ unwrap_or o []
      on None e = refl
      on (Some whole) e =
          let (tail, f, g) = map_some (λ rs. met ++ rs) (trace_by net source n (Reg x)) whole (sym t ∙ e) in
          let fits = route_fits (length net.regs.items) whole
          (subst (λ o. IsRoute (length net.regs.items) (unwrap_or o [])) e r) in
          absurd (omega (arith, fits, l, longer n tail f, ap length g, length-append met tail))

-- ---- the path, also where one mux is stuck, as it is traced by sources

where_route : (net : Net) (stuck : Option Branch) (holds : Holds)
    → route net (source_of net stuck holds) ≡ route_where net stuck holds
where_route net None holds = ap (λ o. unwrap_or o []) (trace_is_by net holds (moves net) net.out)
where_route net (Some b) holds = refl

where_route_is : (net : Net) (stuck : Option Branch) (holds : Holds) → IsNet net
    → IsRoute (length net.regs.items) (route net (source_of net stuck holds))
where_route_is net None holds w =
    subst (IsRoute (length net.regs.items)) (sym (where_route net None holds)) (route_is net holds w)
where_route_is net (Some b) holds w = stuck_route_is net b holds w

module _ (net : Net) (stuck : Option Branch) (holds : Holds) where
  abbrev pub IsTraced : ℕ → Point → List ℕ → Type 0
  IsTraced n p met = IsTracedBy net (source_of net stuck holds) n p met

  pub entry_where : (n : ℕ) (p : Point) (met : List ℕ) → p ≡ Entry
      → IsTraced n p met → met ≡ route_where net stuck holds
  entry_where n p met e t = by_entry net (source_of net stuck holds) n p met e t ∙ where_route net stuck holds

  pub none_where : (i : ℕ) (p : Point) (met now : List ℕ) → i < moves net
      → None ≡ before net (source_of net stuck holds) p → now ≡ []
      → IsTraced (moves net - i) p met → now ≡ route_where net stuck holds
  none_where i p met now l e a t =
      by_none net (source_of net stuck holds) i p met now l e a t ∙ where_route net stuck holds

  pub end_where : (n : ℕ) (p : Point) (met now : List ℕ) → n ≡ 0 → (p ≡ Entry → ⊥) → now ≡ []
      → IsTraced n p met → now ≡ route_where net stuck holds
  end_where n p met now z e a t =
      by_end net (source_of net stuck holds) n p met now z e a t ∙ where_route net stuck holds

  pub full_where : (n : ℕ) (p : Point) (met now : List ℕ) → IsNet net → registers_at p ≢ []
      → length met ≡ length net.regs.items → now ≡ [] → IsTraced n p met → now ≡ route_where net stuck holds
  full_where n p met now w h l a t =
      by_full net (source_of net stuck holds) n p met now h l (where_route_is net stuck holds w) a t
      ∙ where_route net stuck holds
