-- A round of an iApply takes each register that it can, in the order of the queue.
use Rattle.std.proofs.Common.{◌≡◌, ◌⊎◌, inl, inr, ⊎_elim, ◌≤◌, ℕ, zero, suc, ◌==◌, Bool, true, false, cond}
use Rattle.std.proofs.Common.{List, [], ◌∷◌, ◌++◌, length, refl, sym, ap, ◌∙◌, arith}
use Rattle.std.specs.Prelude.{All, not, ◌||◌, filter}
use Rattle.std.proofs.lemmas.Bool.{eqb-true, eq-eqb, or_left, or_right, or_parts, or_cases}
use Rattle.net_graph.specs.Path.{is_in}
use Rattle.pdl_targets.specs.Rounds.{Places, clash, clashes, round, left_over, rounds_upto}
use Rattle.pdl_targets.specs.Laws.{times, AreEachOnce, IsInOrder, FirstRoundIsGreedy, RoundsGoOn}
use Rattle.pdl_targets.specs.Laws.{RoundsKeepTheOrder}
use Rattle.pdl_targets.proofs.Apart.{fewer}
use Rattle.std.proofs.lemmas.List.Elements.{All-nil, All-cons}

-- ---- registers in a list

pub is_first : (q : ℕ) (qs : List ℕ) → is_in (q ∷ qs) q ≡ true
is_first q qs = or_left (q == q) (is_in qs q) (eq-eqb q q refl)

pub is_after : (p : ℕ) (qs : List ℕ) (q : ℕ) → is_in qs q ≡ true → is_in (p ∷ qs) q ≡ true
is_after p qs q e = or_right (p == q) (is_in qs q) e

pub not_in : (rs : List ℕ) (r : ℕ) → times rs r ≡ 0 → is_in rs r ≡ false
not_in [] r e = refl
not_in (q ∷ qs) r e = by_test (q == r) (not_in qs r) e
  where
    by_test : (t : Bool) → (times qs r ≡ 0 → is_in qs r ≡ false)
        → cond t (suc (times qs r)) (times qs r) ≡ 0 → (t || is_in qs r) ≡ false
    by_test true again e = absurd (omega (arith, e))
    by_test false again e = again e

-- the first of registers that are there once isn't after itself
pub not_again : (r : ℕ) (rs : List ℕ) → AreEachOnce (r ∷ rs) → is_in rs r ≡ false
not_again r rs h = not_in rs r (none (r == r) (eq-eqb r r refl) (h r))
  where
    none : (t : Bool) → t ≡ true → cond t (suc (times rs r)) (times rs r) ≤ 1 → times rs r ≡ 0
    none true e few = omega (arith, few)
    none false e few = absurd cc

pub others_once : (r : ℕ) (rs : List ℕ) → AreEachOnce (r ∷ rs) → AreEachOnce rs
others_once r rs h q = fewer_still (r == q) (h q)
  where
    fewer_still : (t : Bool) → cond t (suc (times rs q)) (times rs q) ≤ 1 → times rs q ≤ 1
    fewer_still true few = omega (arith, few)
    fewer_still false few = few

-- ---- order

in_order_after : (qs : List ℕ) (r : ℕ) (rs : List ℕ) → IsInOrder qs rs → IsInOrder qs (r ∷ rs)
in_order_after [] r rs h = tt
in_order_after (q ∷ qs) r rs h = inr h

in_order_both : (xs ys zs : List ℕ) → IsInOrder xs ys → IsInOrder ys zs → IsInOrder xs zs
in_order_both [] ys zs g h = tt
in_order_both (x ∷ xs) [] zs g h = absurd g
in_order_both (x ∷ xs) (y ∷ ys) [] g h = absurd h
in_order_both (x ∷ xs) (y ∷ ys) (z ∷ zs) g h =
    ⊎_elim (λ here. ⊎_elim (λ there. inl (there.0 ∙ here.0, in_order_both xs ys zs there.1 here.1))
    (λ there. inr (in_order_both (x ∷ xs) ys zs there here.1)) g)
    (λ after. inr (in_order_both (x ∷ xs) (y ∷ ys) zs g after)) h

module _ (places : Places) where
  round_in_order : (taken rs : List ℕ) → IsInOrder (round places taken rs) rs
  round_in_order taken [] = tt
  round_in_order taken (r ∷ rs) = by_clash (λ t. round_in_order t rs) (clashes places taken r)
    where
      by_clash : ((t : List ℕ) → IsInOrder (round places t rs) rs) → (b : Bool)
          → IsInOrder (cond b (round places taken rs) (r ∷ round places (taken ++ r ∷ []) rs)) (r ∷ rs)
      by_clash ih true = in_order_after (round places taken rs) r rs (ih taken)
      by_clash ih false = inl (refl, ih (taken ++ r ∷ []))

  left_in_order : (taken rs : List ℕ) → IsInOrder (left_over places taken rs) rs
  left_in_order taken [] = tt
  left_in_order taken (r ∷ rs) = by_clash (λ t. left_in_order t rs) (clashes places taken r)
    where
      by_clash : ((t : List ℕ) → IsInOrder (left_over places t rs) rs) → (b : Bool) → IsInOrder
          (cond b (r ∷ left_over places taken rs) (left_over places (taken ++ r ∷ []) rs)) (r ∷ rs)
      by_clash ih true = inl (refl, ih taken)
      by_clash ih false = in_order_after (left_over places (taken ++ r ∷ []) rs) r rs (ih (taken ++ r ∷ []))

  pub all_in_order : (registers : List ℕ) (n : ℕ) (rs : List ℕ) → IsInOrder rs registers
      → All (λ qs. IsInOrder qs registers) (rounds_upto places n rs)
  all_in_order registers zero rs h = All-nil (λ qs. IsInOrder qs registers)
  all_in_order registers (suc n) [] h = All-nil (λ qs. IsInOrder qs registers)
  all_in_order registers (suc n) (r ∷ rs) h =
      All-cons (λ qs. IsInOrder qs registers) (round places [] (r ∷ rs))
      (rounds_upto places n (left_over places [] (r ∷ rs)))
      (in_order_both (round places [] (r ∷ rs)) (r ∷ rs) registers (round_in_order [] (r ∷ rs)) h)
      (all_in_order registers n (left_over places [] (r ∷ rs))
      (in_order_both (left_over places [] (r ∷ rs)) (r ∷ rs) registers (left_in_order [] (r ∷ rs)) h))

  -- ---- what a round leaves

  -- one that a register waits for: it comes before, the round has it, and the two clash
  abbrev Waits : List ℕ → List ℕ → ℕ → Type 0
  Waits front taken q = (p : ℕ) × (is_in front p ≡ true) × (is_in taken p ≡ true) × (clash places p q ≡ true)

  after_another : (f : ℕ) (front taken : List ℕ) (q : ℕ) → Waits front taken q → Waits (f ∷ front) taken q
  after_another f front taken q w = (w.0, is_after f front w.0 w.1, w.2, w.3)

  with_another : (f : ℕ) (front taken : List ℕ) (q : ℕ)
      → Waits front taken q → Waits (f ∷ front) (f ∷ taken) q
  with_another f front taken q w = (w.0, is_after f front w.0 w.1, is_after f taken w.0 w.2, w.3)

  clashes_last : (taken : List ℕ) (f q : ℕ) → clashes places (taken ++ f ∷ []) q ≡ true
      → (clashes places taken q ≡ true) ⊎ (clash places f q ≡ true)
  clashes_last [] f q e = ⊎_elim (λ h. inr h) (λ h. absurd cc) (or_cases (clash places f q) false e)
  clashes_last (t ∷ ts) f q e =
      ⊎_elim (λ h. inl (or_left (clash places t q) (clashes places ts q) h)) (λ h. ⊎_elim (λ k. inl
      (or_right (clash places t q) (clashes places ts q) k)) (λ k. inr k) (clashes_last ts f q h))
      (or_cases (clash places t q) (clashes places (ts ++ f ∷ []) q) e)

  waits : (front taken back : List ℕ) (q : ℕ) → is_in (round places taken (front ++ q ∷ back)) q ≡ false
      → (clashes places taken q ≡ true) ⊎ Waits front (round places taken (front ++ q ∷ back)) q
  waits [] taken back q h = by_clash (clashes places taken q) refl h
    where
      by_clash : (b : Bool) → clashes places taken q ≡ b
          → is_in (cond b (round places taken back) (q ∷ round places (taken ++ q ∷ []) back)) q ≡ false
          → (clashes places taken q ≡ true)
          ⊎ Waits [] (cond b (round places taken back) (q ∷ round places (taken ++ q ∷ []) back)) q
      by_clash true e off = inl e
      by_clash false e off = let on = is_first q (round places (taken ++ q ∷ []) back) in absurd cc
  waits (f ∷ front) taken back q h = by_clash (λ t. waits front t back q) (clashes places taken f) h
    where
      by_clash : ((t : List ℕ) → is_in (round places t (front ++ q ∷ back)) q ≡ false
          → (clashes places t q ≡ true) ⊎ Waits front (round places t (front ++ q ∷ back)) q)
          → (b : Bool) → is_in (cond b (round places taken (front ++ q ∷ back))
          (f ∷ round places (taken ++ f ∷ []) (front ++ q ∷ back))) q ≡ false
          → (clashes places taken q ≡ true)
          ⊎ Waits (f ∷ front) (cond b (round places taken (front ++ q ∷ back))
          (f ∷ round places (taken ++ f ∷ []) (front ++ q ∷ back))) q
      by_clash ih true off = ⊎_elim (λ k. inl k)
          (λ w. inr (after_another f front (round places taken (front ++ q ∷ back)) q w)) (ih taken off)
      by_clash ih false off =
          ⊎_elim (λ k. ⊎_elim (λ before. inl before) (λ now. inr (
            f,
            is_first f front,
            is_first f
                (round places (taken ++ f ∷ []) (front ++ q ∷ back)),
            now,
          )) (clashes_last taken f q k))
          (λ w. inr (with_another f front (round places (taken ++ f ∷ []) (front ++ q ∷ back)) q w))
          (ih (taken ++ f ∷ [])
          (or_parts (f == q) (is_in (round places (taken ++ f ∷ []) (front ++ q ∷ back)) q) off).1)

  -- ---- the rounds after

  unnamed : (r : ℕ) (f : ℕ → Bool) (rs : List ℕ) → is_in rs r ≡ false
      → filter (λ q. not ((r == q) || f q)) rs ≡ filter (λ q. not (f q)) rs
  unnamed r f [] h = refl
  unnamed r f (q ∷ qs) h =
      let parts = or_parts (q == r) (is_in qs r) h in by_same (r == q) refl parts.0 (unnamed r f qs parts.1)
    where
      by_same : (t : Bool) → (r == q) ≡ t → (q == r) ≡ false
          → filter (λ p. not ((r == p) || f p)) qs ≡ filter (λ p. not (f p)) qs
          → cond (not (t || f q)) (q ∷ filter (λ p. not ((r == p) || f p)) qs)
          (filter (λ p. not ((r == p) || f p)) qs)
          ≡ cond (not (f q)) (q ∷ filter (λ p. not (f p)) qs) (filter (λ p. not (f p)) qs)
      by_same true e off ih = let on = eq-eqb q r (sym (eqb-true r q e)) in absurd cc
      by_same false e off ih = ap (λ (ps : List ℕ). cond (not (f q)) (q ∷ ps) ps) ih

  not_taken : (taken rs : List ℕ) (r : ℕ) → is_in rs r ≡ false → is_in (round places taken rs) r ≡ false
  not_taken taken [] r h = refl
  not_taken taken (q ∷ qs) r h =
      let parts = or_parts (q == r) (is_in qs r) h in
      by_clash (λ t. not_taken t qs r parts.1) parts.0 (clashes places taken q)
    where
      by_clash : ((t : List ℕ) → is_in (round places t qs) r ≡ false) → (q == r) ≡ false → (b : Bool)
          → is_in (cond b (round places taken qs) (q ∷ round places (taken ++ q ∷ []) qs)) r ≡ false
      by_clash ih other true = ih taken
      by_clash ih other false =
          ap (λ t. t || is_in (round places (taken ++ q ∷ []) qs) r) other ∙ ih (taken ++ q ∷ [])

  is_left : (taken rs : List ℕ) → AreEachOnce rs
      → left_over places taken rs ≡ filter (λ q. not (is_in (round places taken rs) q)) rs
  is_left taken [] h = refl
  is_left taken (r ∷ rs) h =
      by_clash (λ t. is_left t rs (others_once r rs h)) (not_again r rs h) (clashes places taken r)
    where
      kept : (t : Bool) (ps : List ℕ) → t ≡ false → r ∷ ps ≡ cond (not t) (r ∷ ps) ps
      kept true ps e = absurd cc
      kept false ps e = refl

      dropped : (t : Bool) (u : Bool) (ps : List ℕ) → t ≡ true → ps ≡ cond (not (t || u)) (r ∷ ps) ps
      dropped true u ps e = refl
      dropped false u ps e = absurd cc

      by_clash : ((t : List ℕ) → left_over places t rs ≡ filter (λ q. not (is_in (round places t rs) q)) rs)
          → is_in rs r ≡ false → (b : Bool)
          → cond b (r ∷ left_over places taken rs) (left_over places (taken ++ r ∷ []) rs)
          ≡ filter (λ q. not
          (is_in (cond b (round places taken rs) (r ∷ round places (taken ++ r ∷ []) rs)) q)) (r ∷ rs)
      by_clash ih off true =
          ap (λ (ps : List ℕ). r ∷ ps) (ih taken) ∙ kept (is_in (round places taken rs) r)
          (filter (λ q. not (is_in (round places taken rs) q)) rs) (not_taken taken rs r off)
      by_clash ih off false =
          ih (taken ++ r ∷ [])
          ∙ sym (unnamed r (is_in (round places (taken ++ r ∷ []) rs)) rs off)
          ∙ dropped (r == r) (is_in (round places (taken ++ r ∷ []) rs) r)
          (filter (λ q. not (is_in (r ∷ round places (taken ++ r ∷ []) rs) q)) rs) (eq-eqb r r refl)

  -- how far one counts is all the same, from the number of registers on
  pub any_count : (n m : ℕ) (rs : List ℕ) → length rs ≤ n → length rs ≤ m
      → rounds_upto places n rs ≡ rounds_upto places m rs
  any_count zero zero rs g h = refl
  any_count zero (suc m) [] g h = refl
  any_count zero (suc m) (r ∷ rs) g h = absurd (omega (arith, g))
  any_count (suc n) zero [] g h = refl
  any_count (suc n) zero (r ∷ rs) g h = absurd (omega (arith, h))
  any_count (suc n) (suc m) [] g h = refl
  any_count (suc n) (suc m) (r ∷ rs) g h =
      ap (λ rss. round places [] (r ∷ rs) ∷ rss) (any_count n m (left_over places [] (r ∷ rs))
      (omega (arith, fewer places (r ∷ []) rs, g)) (omega (arith, fewer places (r ∷ []) rs, h)))

pub first_is_greedy : FirstRoundIsGreedy
first_is_greedy places [] back q h = ⊎_elim (λ k. absurd cc) (λ w. w) (waits places [] [] back q h)
first_is_greedy places (f ∷ front) back q h =
    ⊎_elim (λ k. absurd cc) (λ w. w) (waits places (f ∷ front) [] back q h)

pub rounds_go_on : RoundsGoOn
rounds_go_on places r rs h =
    ap (λ rss. round places [] (r ∷ rs) ∷ rss)
    (any_count places (length rs) (length (left_over places [] (r ∷ rs))) (left_over places [] (r ∷ rs))
    (fewer places (r ∷ []) rs) (omega arith)
    ∙ ap (λ (qs : List ℕ). rounds_upto places (length qs) qs) (is_left places [] (r ∷ rs) h))

pub keep_the_order : RoundsKeepTheOrder
keep_the_order places registers =
    all_in_order places registers (length registers) registers (itself registers)
  where
    itself : (rs : List ℕ) → IsInOrder rs rs
    itself [] = tt
    itself (r ∷ rs) = inl (refl, itself rs)
