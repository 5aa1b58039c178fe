-- The active path and the path with a stuck mux: where they go apart, and where they join again.
use Rattle.std.proofs.Common.{◌≡◌, ◌⊎◌, ⊎_elim, ℕ, zero, suc, ◌+◌, ◌<◌, ◌≤◌, Bool, true, false, List, [], ◌∷◌}
use Rattle.std.proofs.Common.{◌++◌, length, Option, Some, None, refl, sym, ap, ◌∙◌, subst, arith}
use Rattle.std.proofs.Common.{append_assoc}
use Rattle.std.specs.Prelude.{option_map, unwrap_or, IsSome}
use Rattle.std.specs.Option.{option_and_then}
use Rattle.std.proofs.lemmas.Bool.{cases_eq, true≢false}
use Rattle.std.proofs.lemmas.Option.{same_Some, none-some}
use Rattle.ij_bits.proofs.Lists.{map_some, then_some}
use Rattle.net_graph.specs.Chain.{IsRoute, NotIn}
use Rattle.net_graph.specs.declared.branch.Branch.{Branch}
use Rattle.net_graph.specs.declared.net.Net.{Net}
use Rattle.net_graph.specs.declared.net.Point.{Point}
use Rattle.net_graph.specs.declared.net.Point.TheVariants.{Entry, Reg, Mux as FromMux}
use Rattle.net_graph.specs.MuxesMet.{active_muxes, muxes_met}
use Rattle.net_graph.specs.Named.{IsPointOf}
use Rattle.net_graph.specs.Nets.{IsNet}
use Rattle.net_graph.specs.Path.{active, mux_source, reg_source, trace}
use Rattle.net_graph.specs.Signals.{Holds}
use Rattle.net_graph.specs.Stuck.{stuck_source, trace_by}
use Rattle.net_graph.specs.Tracing.{registers_at}
use Rattle.net_graph.proofs.Stuck.{trace_is_by}
use Rattle.net_graph.proofs.Tracing.{route_fits}
use Rattle.path_planner.proofs.Among.{Among}
use Rattle.mux_test.specs.Detours.{GoesTo, IsDetour, IsTracedFrom}
use Rattle.mux_test.specs.Steps.{before}
use Rattle.mux_test.proofs.StuckPaths.{before_there, by_step, moves, stuck_elsewhere}

-- ---- a trace that ends meets each point once, so it ends within as many moves as there are points

module _ (net : Net) (source : ℕ → Option Point) where
  -- a number for each point but the entry
  abbrev code : Point → ℕ
  code Entry = 0
  code (Reg r) = r
  code (FromMux m) = length net.regs.items + m

  -- the points that a trace meets
  abbrev points_met : ℕ → Point → List ℕ
  points_met n Entry = []
  points_met zero (Reg r) = []
  points_met zero (FromMux m) = []
  points_met (suc n) (Reg r) = r ∷ points_met n (reg_source net r)
  points_met (suc n) (FromMux m) =
      (length net.regs.items + m) ∷ elim (source m) [ Some p ↦ points_met n p | None ↦ [] ]

  enough : (n : ℕ) (p : Point) (met : List ℕ) (j : ℕ) → trace_by net source n p ≡ Some met
      → length (points_met n p) ≤ j → trace_by net source j p ≡ Some met
  enough n Entry met j e l = e
  enough zero (Reg r) met j e l = absurd (none-some met e)
  enough zero (FromMux m) met j e l = absurd (none-some met e)
  enough (suc n) (Reg r) met zero e l = absurd (omega (arith, l))
  enough (suc n) (FromMux m) met zero e l = absurd (omega (arith, l))
  enough (suc n) (Reg r) met (suc j) e l =
      let (rest, f, g) = map_some (λ rs. r ∷ rs) (trace_by net source n (reg_source net r)) met e in
      ap (option_map (λ rs. r ∷ rs)) (enough n (reg_source net r) rest j f (omega (arith, l))) ∙ ap Some g
  enough (suc n) (FromMux m) met (suc j) e l =
      let (q, f, g) = then_some (trace_by net source n) (source m) met e in
      let same = ap (λ o. length (elim o as (λ _. List ℕ) [ Some p ↦ points_met n p | None ↦ [] ])) f in
      ap (option_and_then (trace_by net source j)) f ∙ enough n q met j g (omega (arith, l, same))

  same_points : (n k : ℕ) (p : Point) (a c : List ℕ) → trace_by net source n p ≡ Some a
      → trace_by net source k p ≡ Some c → points_met n p ≡ points_met k p
  same_points n k Entry a c e f = refl
  same_points zero k (Reg r) a c e f = absurd (none-some a e)
  same_points zero k (FromMux m) a c e f = absurd (none-some a e)
  same_points (suc n) zero (Reg r) a c e f = absurd (none-some c f)
  same_points (suc n) zero (FromMux m) a c e f = absurd (none-some c f)
  same_points (suc n) (suc k) (Reg r) a c e f =
      let (x, g, h) = map_some (λ rs. r ∷ rs) (trace_by net source n (reg_source net r)) a e in
      let (y, i, j) = map_some (λ rs. r ∷ rs) (trace_by net source k (reg_source net r)) c f in
      ap (λ xs. r ∷ xs) (same_points n k (reg_source net r) x y g i)
  same_points (suc n) (suc k) (FromMux m) a c e f =
      let (q, g, h) = then_some (trace_by net source n) (source m) a e in
      let (z, i, j) = then_some (trace_by net source k) (source m) c f in
      let same : z ≡ q = same_Some z q (sym i ∙ g) in
      let here = ap (λ o. elim o as (λ _. List ℕ) [ Some p ↦ points_met n p | None ↦ [] ]) g in
      let there = ap (λ o. elim o as (λ _. List ℕ) [ Some p ↦ points_met k p | None ↦ [] ]) g in
      ap (λ xs. (length net.regs.items + m) ∷ xs)
      (here ∙ same_points n k q a c h (subst (λ y. trace_by net source k y ≡ Some c) same j) ∙ sym there)

  few_points : (n : ℕ) (p : Point) → length (points_met n p) ≤ n
  few_points n Entry = omega arith
  few_points zero (Reg r) = omega arith
  few_points zero (FromMux m) = omega arith
  few_points (suc n) (Reg r) = omega (arith, few_points n (reg_source net r))
  few_points (suc n) (FromMux m) = on (source m) (λ q. few_points n q)
    where
      on : (o : Option Point) → ((q : Point) → length (points_met n q) ≤ n)
          → length ((length net.regs.items + m)
          ∷ elim o as (λ _. List ℕ) [ Some p ↦ points_met n p | None ↦ [] ]) ≤ suc n
      on None f = omega arith
      on (Some q) f = omega (arith, f q)

  -- a point that a longer trace begins at isn't met
  longer : (n : ℕ) (p : Point) (met : List ℕ) (k : ℕ) (q : Point) (whole : List ℕ)
      → trace_by net source n p ≡ Some met → trace_by net source k q ≡ Some whole
      → length (points_met n p) < length (points_met k q) → p ≡ q → ⊥
  longer n p met k q whole e f l s =
      let same = same_points n k q met whole (subst (λ y. trace_by net source n y ≡ Some met) s e) f in
      absurd (omega (arith, l, ap (λ y. length (points_met n y)) s, ap length same))

  begins : (n k : ℕ) (q : Point) → n < length (points_met k q) → q ≡ Entry → ⊥
  begins n k q l e = absurd (omega (arith, l, ap (λ y. length (points_met k y)) e))

  reg_code : (r : ℕ) (q : Point) → r < length net.regs.items → r ≡ code q → (q ≡ Entry → ⊥) → Reg r ≡ q
  reg_code r Entry i e a = absurd (a refl)
  reg_code r (Reg s) i e a = ap Reg e
  reg_code r (FromMux m) i e a = absurd (omega (arith, i, e))

  mux_code : (m : ℕ) (q : Point) → IsPointOf net q
      → length net.regs.items + m ≡ code q → (q ≡ Entry → ⊥) → FromMux m ≡ q
  mux_code m Entry i e a = absurd (a refl)
  mux_code m (Reg r) i e a = absurd (omega (arith, i, e))
  mux_code m (FromMux k) i e a = let z : m ≡ k = omega (arith, e) in ap FromMux z

  module _ (next : (p q : Point) → IsPointOf net p → before net source p ≡ Some q → IsPointOf net q) where
    not_again : (n : ℕ) (p : Point) (met : List ℕ) (k : ℕ) (q : Point) (whole : List ℕ) → IsPointOf net p
        → IsPointOf net q → trace_by net source n p ≡ Some met → trace_by net source k q ≡ Some whole
        → length (points_met n p) < length (points_met k q) → NotIn (code q) (points_met n p)
    not_again n Entry met k q whole i j e f l = tt
    not_again zero (Reg r) met k q whole i j e f l = absurd (none-some met e)
    not_again zero (FromMux m) met k q whole i j e f l = absurd (none-some met e)
    not_again (suc n) (Reg r) met k q whole i j e f l =
        let (rest, g, h) = map_some (λ rs. r ∷ rs) (trace_by net source n (reg_source net r)) met e in (
          (λ s. longer (suc n) (Reg r) met k q whole e f l
              (reg_code r q i s (begins (length (points_met (suc n) (Reg r))) k q l))),
          not_again n (reg_source net r) rest k q whole
              (next (Reg r) (reg_source net r) i refl) j g f (omega (arith, l)),
        )
    not_again (suc n) (FromMux m) met k q whole i j e f l =
        let (z, g, h) = then_some (trace_by net source n) (source m) met e in
        let same = ap (λ o. length (elim o as (λ _. List ℕ) [ Some p ↦ points_met n p | None ↦ [] ])) g in (
          (λ s. longer (suc n) (FromMux m) met k q whole e f l
              (mux_code m q j s (begins (length (points_met (suc n) (FromMux m))) k q l))),
          subst (λ o. NotIn (code q) (elim o as (λ _. List ℕ) [ Some p ↦ points_met n p | None ↦ [] ]))
              (sym g) (not_again n z met k q whole (next (FromMux m) z i g) j h f (omega (arith, l, same))),
        )

    all_apart : (n : ℕ) (p : Point) (met : List ℕ) → IsPointOf net p
        → trace_by net source n p ≡ Some met → IsRoute (moves net) (points_met n p)
    all_apart n Entry met i e = tt
    all_apart zero (Reg r) met i e = absurd (none-some met e)
    all_apart zero (FromMux m) met i e = absurd (none-some met e)
    all_apart (suc n) (Reg r) met i e =
        let (rest, g, h) = map_some (λ rs. r ∷ rs) (trace_by net source n (reg_source net r)) met e in
        let j = next (Reg r) (reg_source net r) i refl in (
          omega (arith, i),
          not_again n (reg_source net r) rest (suc n) (Reg r) met j i g e (omega arith),
          all_apart n (reg_source net r) rest j g,
        )
    all_apart (suc n) (FromMux m) met i e =
        let (z, g, h) = then_some (trace_by net source n) (source m) met e in
        let same = ap (λ o. length (elim o as (λ _. List ℕ) [ Some p ↦ points_met n p | None ↦ [] ])) g in
        let j = next (FromMux m) z i g in (
          omega (arith, i),
          subst (λ o. NotIn (length net.regs.items + m)
              (elim o as (λ _. List ℕ) [ Some p ↦ points_met n p | None ↦ [] ])) (sym g)
              (not_again n z met (suc n) (FromMux m) met j i h e (omega (arith, same))),
          subst (λ o. IsRoute (moves net) (elim o as (λ _. List ℕ) [ Some p ↦ points_met n p | None ↦ [] ]))
              (sym g) (all_apart n z met j h),
        )

    within : (n : ℕ) (p : Point) (met : List ℕ) → IsPointOf net p → trace_by net source n p ≡ Some met
        → trace_by net source (moves net) p ≡ Some met
    within n p met i e = enough n p met (moves net) e
        (route_fits (moves net) (points_met n p) (all_apart n p met i e))

-- ---- two traces from a mux on

-- no mux is scan-in
abbrev is_start : Point → Bool
is_start Entry = true
is_start (Reg r) = false
is_start (FromMux m) = false

less : (p : Point) (m j k n : ℕ) → j ≤ k → (is_start p ≡ false → j < k)
    → k ≤ n → ((p ≡ FromMux m → ⊥) → k < n) → j < n
less Entry m j k n a b c d = omega (arith, a, d (λ s. absurd (true≢false (ap is_start s))))
less (Reg r) m j k n a b c d = omega (arith, b refl, c)
less (FromMux x) m j k n a b c d = omega (arith, b refl, c)

module _ (net : Net) (holds : Holds) where
  own_step : (k : ℕ) (p q : Point) (rest : List ℕ) → Some q ≡ before net (mux_source net holds) p
      → trace net holds k p ≡ Some rest → (j : ℕ) × (tail : List ℕ) × (trace net holds j q ≡ Some tail)
      × (rest ≡ registers_at p ++ tail) × (j ≤ k) × (is_start p ≡ false → j < k)
  own_step k Entry q rest e t = (
    k,
    rest,
    subst (λ y. trace net holds k y ≡ Some rest) (sym (same_Some q Entry e)) t,
    refl,
    omega arith,
    λ s. absurd (true≢false s),
  )
  own_step zero (Reg r) q rest e t = absurd (none-some rest t)
  own_step zero (FromMux m) q rest e t = absurd (none-some rest t)
  own_step (suc k) (Reg r) q rest e t =
      let (tail, f, g) = map_some (λ rs. r ∷ rs) (trace net holds k (reg_source net r)) rest t in (
        k,
        tail,
        subst (λ y. trace net holds k y ≡ Some tail) (sym (same_Some q (reg_source net r) e)) f,
        sym g,
        omega arith,
        λ s. omega arith,
      )
  own_step (suc k) (FromMux m) q rest e t =
      let (x, f, g) = then_some (trace net holds k) (mux_source net holds m) rest t in (
        k,
        rest,
        subst (λ y. trace net holds k y ≡ Some rest) (same_Some x q (sym f ∙ sym e)) g,
        refl,
        omega arith,
        λ s. omega arith,
      )

  go_step : (m : ℕ) (p q : Point) (met now : List ℕ) (n : ℕ) (whole : List ℕ)
      → Some q ≡ before net (mux_source net holds) p → now ≡ met ++ registers_at p
      → GoesTo net holds m p met n whole → GoesTo net holds m q now n whole
  go_step m p q met now n whole e a g =
      let (j, tail, y, z, i, f) = own_step g.left p q g.rest e g.ends in
      record {
        left = j;
        rest = tail;
        ends = y;
        all = g.all ∙ ap (λ xs. met ++ xs) z
            ∙ sym (append_assoc met (registers_at p) tail) ∙ ap (λ xs. xs ++ tail) (sym a);
        within = omega (arith, i, g.within);
        fewer = λ d. less p m j g.left n i f g.within g.fewer;
      }

  -- the active path from a mux on, as it is traced
  pub trace_start : (m : ℕ) (met : List ℕ) → m < length net.muxes.items → met ≡ []
      → IsTracedFrom net holds (FromMux m) met m
  trace_start m met l e =
      record {
        there = l;
        few = omega (arith, ap length e);
        goes = λ n whole t. record {
          left = n;
          rest = whole;
          ends = t;
          all = ap (λ xs. xs ++ whole) (sym e);
          within = omega arith;
          fewer = λ d. absurd (d refl);
        };
      }

  pub trace_on : (m : ℕ) (p q : Point) (met now : List ℕ) → IsNet net
      → Some q ≡ before net (mux_source net holds) p → now ≡ met ++ registers_at p
      → length now ≤ length net.regs.items → IsTracedFrom net holds p met m → IsTracedFrom net holds q now m
  trace_on m p q met now w e a l t =
      record {
        there = before_there net None holds p q w t.there (sym e);
        few = l;
        goes = λ n whole u. go_step m p q met now n whole e a (t.goes n whole u);
      }

  abbrev own_points : ℕ → Point → List ℕ
  own_points n p = points_met net (mux_source net holds) n p

  module _ (b : Branch) where
    abbrev stuck_trace : ℕ → Point → Option (List ℕ)
    stuck_trace n p = trace_by net (stuck_source net b holds) n p

    -- where the mux isn't met, both go the same way
    unmet : (n : ℕ) (p : Point) (xs : List ℕ) → trace net holds n p ≡ Some xs
        → NotIn (length net.regs.items + b.mux) (own_points n p) → stuck_trace n p ≡ Some xs
    unmet n Entry xs e h = e
    unmet zero (Reg r) xs e h = absurd (none-some xs e)
    unmet zero (FromMux x) xs e h = absurd (none-some xs e)
    unmet (suc n) (Reg r) xs e h =
        let (rest, f, g) = map_some (λ rs. r ∷ rs) (trace net holds n (reg_source net r)) xs e in
        ap (option_map (λ rs. r ∷ rs)) (unmet n (reg_source net r) rest f h.1) ∙ ap Some g
    unmet (suc n) (FromMux x) xs e h =
        let (q, f, g) = then_some (trace net holds n) (mux_source net holds x) xs e in
        let another : x ≡ b.mux → ⊥ = λ s. h.0 (ap (λ y. length net.regs.items + y) s) in
        ap (option_and_then (stuck_trace n)) (sym (stuck_elsewhere net b holds x another) ∙ f)
        ∙ unmet n q xs g (subst (λ o. NotIn (length net.regs.items + b.mux)
        (elim o as (λ _. List ℕ) [ Some p ↦ own_points n p | None ↦ [] ])) f h.1)

    -- the active path goes to the mux, and the path on which it is stuck goes there over the same registers
    record OnWay (p : Point) (met : List ℕ) : Type 0 where
      pub front : List ℕ
      pub rest : List ℕ
      pub left : ℕ
      pub ends : trace net holds left (FromMux b.mux) ≡ Some rest
      pub whole : met ≡ front ++ rest
      pub leads : (n : ℕ) (xs : List ℕ) → stuck_trace n (FromMux b.mux) ≡ Some xs
          → (k : ℕ) × (stuck_trace k p ≡ Some (front ++ xs))

    on_way : (n : ℕ) (p : Point) (met : List ℕ) → trace net holds n p ≡ Some met
        → Among b.mux (muxes_met net holds n p) → OnWay p met
    on_way n Entry met e a = absurd a
    on_way zero (Reg r) met e a = absurd a
    on_way zero (FromMux m) met e a = absurd a
    on_way (suc n) (Reg r) met e a =
        let (rest, f, g) = map_some (λ rs. r ∷ rs) (trace net holds n (reg_source net r)) met e in
        let w = on_way n (reg_source net r) rest f a in
        record {
          front = r ∷ w.front;
          rest = w.rest;
          left = w.left;
          ends = w.ends;
          whole = sym g ∙ ap (λ xs. r ∷ xs) w.whole;
          leads = λ j xs t. let (k, s) = w.leads j xs t in
              (suc k, ap (option_map (λ rs. r ∷ rs)) s);
        }
    on_way (suc n) (FromMux m) met e a =
        let (q, f, g) = then_some (trace net holds n) (mux_source net holds m) met e in
        ⊎_elim (λ s. record {
          front = [];
          rest = met;
          left = suc n;
          ends = subst (λ y. trace net holds (suc n) (FromMux y) ≡ Some met) s e;
          whole = refl;
          leads = λ j xs t. (j, subst (λ y. stuck_trace j (FromMux y) ≡ Some xs) (sym s) t);
        }) (λ d.
        let w = on_way n q met g (⊎_elim (λ s. absurd (d s)) (λ i. subst (λ o. Among b.mux
        (elim o as (λ _. List ℕ) [ Some p ↦ muxes_met net holds n p | None ↦ [] ])) f i) a) in
        record {
          front = w.front;
          rest = w.rest;
          left = w.left;
          ends = w.ends;
          whole = w.whole;
          leads = λ j xs t. let (k, s) = w.leads j xs t in
              (suc k, ap (option_and_then (stuck_trace k)) (sym (stuck_elsewhere net b holds m d) ∙ f) ∙ s);
        })
        (cases_eq m b.mux)

    -- the path on which the mux is stuck goes from it over these registers to a point
    pub record LeadsTo (p : Point) (met : List ℕ) : Type 0 where
      pub leads : (n : ℕ) (rest : List ℕ) → stuck_trace n p ≡ Some rest
          → (k : ℕ) × (stuck_trace k (FromMux b.mux) ≡ Some (met ++ rest))

    pub lead_start : (met : List ℕ) → met ≡ [] → LeadsTo (FromMux b.mux) met
    lead_start met e = record { leads = λ n rest t. (n, t ∙ ap (λ xs. Some (xs ++ rest)) (sym e)) }

    pub lead_on : (p q : Point) (met now : List ℕ) → Some q ≡ before net (stuck_source net b holds) p
        → now ≡ met ++ registers_at p → LeadsTo p met → LeadsTo q now
    lead_on p q met now e a l =
        record {
          leads = λ n rest t.
              let (k, f) = l.leads (suc n) (registers_at p ++ rest)
              (by_step net (stuck_source net b holds) n p
              ∙ ap (option_and_then (λ x. option_map (λ rs. registers_at p ++ rs) (stuck_trace n x))) (sym e)
              ∙ ap (option_map (λ rs. registers_at p ++ rs)) t) in (
                k,
                f
                    ∙ ap Some (sym (append_assoc met (registers_at p) rest))
                    ∙ ap (λ xs. Some (xs ++ rest)) (sym a),
              );
        }

    -- where they join, both have the same rest
    record HasRest (own other : List ℕ) (whole : List ℕ) : Type 0 where
      pub rest : List ℕ
      pub own_is : whole ≡ own ++ rest
      pub count : ℕ
      pub other_is : stuck_trace count (FromMux b.mux) ≡ Some (other ++ rest)

    has_rest : (own other : List ℕ) (at ahead : Point) → IsNet net → b.mux < length net.muxes.items
        → at ≡ ahead → (at ≡ FromMux b.mux → ⊥) → IsTracedFrom net holds ahead own b.mux → LeadsTo at other
        → (n : ℕ) (whole : List ℕ) → trace net holds n (FromMux b.mux) ≡ Some whole → HasRest own other whole
    has_rest own other at ahead w i s d t l n whole e =
        let source = mux_source net holds in
        let here = FromMux b.mux in
        let by : trace_by net source n here ≡ Some whole = trace_is_by net holds n here ∙ e in
        let few = length (own_points n here) in
        let g = t.goes few whole
        (sym (trace_is_by net holds few here) ∙ enough net source n here whole few by (omega arith)) in
        let short = g.fewer (λ a. d (s ∙ a)) in
        let apart = not_again net source (λ p q j k. before_there net None holds p q w j k) g.left ahead
        g.rest n here whole t.there i (trace_is_by net holds g.left ahead ∙ g.ends) by
        (omega (arith, few_points net source g.left ahead, short)) in
        let (c, u) = l.leads g.left g.rest (subst (λ p. stuck_trace g.left p ≡ Some g.rest) (sym s)
        (unmet g.left ahead g.rest g.ends apart)) in
        record { rest = g.rest; own_is = g.all; count = c; other_is = u }

    pub joined : (own other : List ℕ) (at ahead : Point) (path : List ℕ) → IsNet net
        → b.mux < length net.muxes.items → at ≡ ahead → (at ≡ FromMux b.mux → ⊥)
        → IsTracedFrom net holds ahead own b.mux → LeadsTo at other → active net holds ≡ Some path
        → Among b.mux (active_muxes net holds) → IsDetour net holds b own other
    joined own other at ahead path w i s d t l e a =
        let o = on_way (moves net) net.out path e a in
        let h = has_rest own other at ahead w i s d t l o.left o.rest o.ends in
        let (n, f) = o.leads h.count (other ++ h.rest) h.other_is in
        let all = within net (stuck_source net b holds) (λ p q j k. before_there net (Some b) holds p q w j k)
        n net.out (o.front ++ (other ++ h.rest)) w.output f in
        record {
          front = o.front;
          rest = h.rest;
          active = ap (λ x. unwrap_or x []) e ∙ o.whole
              ∙ ap (λ xs. o.front ++ xs) h.own_is;
          stuck = ap (λ x. unwrap_or x []) all;
        }

pub has_active : (net : Net) (holds : Holds) → IsSome (active net holds)
    → (path : List ℕ) × (active net holds ≡ Some path)
has_active net holds s = on (active net holds) s
  where
    on : (o : Option (List ℕ)) → IsSome o → (path : List ℕ) × (o ≡ Some path)
    on None s = absurd (true≢false (sym s))
    on (Some path) s = (path, refl)
