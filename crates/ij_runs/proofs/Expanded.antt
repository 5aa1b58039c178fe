-- The values of runs, by their positions.
use Rattle.std.proofs.Common.{◌≡◌, ◌<◌, ◌≤◌, ◌+◌, ◌-◌, ℕ, zero, suc, List, [], ◌∷◌, ◌++◌, map, length, get_or}
use Rattle.std.proofs.Common.{take, refl, sym, ap, subst, ◌∙◌, arith}
use Rattle.std.specs.Prelude.{All, slice_get, Option, Some, None}
use Rattle.std.specs.List.{range_with_len}
use Rattle.std.proofs.lemmas.List.{append_assoc, append-nil, length-append, length-map, map-append, take_all}
use Rattle.std.proofs.lemmas.List.{take_more}
use Rattle.std.proofs.lemmas.List.FromFn.{length-range_with_len}
use Rattle.std.proofs.lemmas.List.Elements.{All-head, All-tail}
use Rattle.std.proofs.lemmas.Option.{same_Some}
use Rattle.ij_bits.proofs.Lists.{no_cons}
use Rattle.ij_runs.specs.declared.runs.Run.{Run}
use Rattle.ij_runs.specs.Runs.{following, run_items, expanded, values_of, IsRun, AreRuns, AreAll, IsRunIn}
use Rattle.ij_runs.specs.Runs.{IsRunOf}

module _ {T : Type 0} (after : ℕ → T → T) where
  pub long : (x : T) (n : ℕ) → length (following after x n) ≡ n
  long x n = length-map (range_with_len 0 n) (λ k. after k x) ∙ length-range_with_len 0 n

  -- one value of a run
  get_from : (x : T) (a n k : ℕ) (rest : List T) (any : T) → k < n
      → get_or (map (λ j. after j x) (range_with_len a n) ++ rest) k any ≡ after (a + k) x
  get_from x a zero k rest any lt = absurd (omega (arith, lt))
  get_from x a (suc n) zero rest any lt = let e : a ≡ a + 0 = omega arith in ap (λ j. after j x) e
  get_from x a (suc n) (suc k) rest any lt =
      let e : a + 1 + k ≡ a + suc k = omega arith in
      get_from x (a + 1) n k rest any (omega (arith, lt)) ∙ ap (λ j. after j x) e

  pub get_following : (x : T) (n k : ℕ) (rest : List T) (any : T) → k < n
      → get_or (following after x n ++ rest) k any ≡ after k x
  get_following x n k rest any lt =
      let e : 0 + k ≡ k = omega arith in
      get_from x 0 n k rest any lt ∙ ap (λ j. after j x) e

  pub get_past : (xs ys : List T) (i k : ℕ) (any : T) → i ≡ length xs + k
      → get_or (xs ++ ys) i any ≡ get_or ys k any
  get_past [] ys i k any e = let same : i ≡ k = omega (arith, e) in ap (λ j. get_or ys j any) same
  get_past (x ∷ xs) ys zero k any e = absurd (omega (arith, e))
  get_past (x ∷ xs) ys (suc i) k any e = get_past xs ys i k any (omega (arith, e))

  begins : (room : T → ℕ) (from to : ℕ) (rs : List (Run T)) (j : ℕ) (r : Run T)
      → AreRuns room from rs to → slice_get rs j ≡ Some r → from ≤ r.start
  begins room from to [] j r are is = absurd cc
  begins room from to (s ∷ rs) zero r are is =
      let e : r.start ≡ s.start = ap (λ (q : Run T). q.start) (sym (same_Some s r is)) in
      let b = are.0 in
      omega (arith, e, b)
  begins room from to (s ∷ rs) (suc j) r are is =
      let b = begins room (from + s.len) to rs j r are.2 is in
      omega (arith, b)

  -- one value of a run among others
  pub get_at : (room : T → ℕ) (from to : ℕ) (rs : List (Run T)) (j : ℕ) (r : Run T) (rest : List T) (d k : ℕ)
      (any : T) → AreRuns room from rs to → slice_get rs j ≡ Some r → from + d ≡ r.start → k < r.len
      → get_or (expanded after rs ++ rest) (d + k) any ≡ after k r.first
  get_at room from to [] j r rest d k any are is e lt = absurd cc
  get_at room from to (s ∷ rs) zero r rest d k any are is e lt =
      let same : s ≡ r = same_Some s r is in
      let b = are.0 in
      let start : r.start ≡ s.start = ap (λ (q : Run T). q.start) (sym same) in
      let len : r.len ≡ s.len = ap (λ (q : Run T). q.len) (sym same) in
      let at : d + k ≡ k = omega (arith, e, b, start) in
      ap (λ i. get_or ((run_items after s ++ expanded after rs) ++ rest) i any) at
      ∙ ap (λ l. get_or l k any) (append_assoc (run_items after s) (expanded after rs) rest)
      ∙ get_following s.first s.len k (expanded after rs ++ rest) any (omega (arith, lt, len))
      ∙ ap (λ (q : Run T). after k q.first) same
  get_at room from to (s ∷ rs) (suc j) r rest d k any are is e lt =
      let past = begins room (from + s.len) to rs j r are.2 is in
      let n = long s.first s.len in
      ap (λ l. get_or l (d + k) any) (append_assoc (run_items after s) (expanded after rs) rest)
      ∙ get_past (run_items after s) (expanded after rs ++ rest) (d + k) (d - s.len + k) any
      (omega (arith, n, past, e))
      ∙ get_at room (from + s.len) to rs j r rest (d - s.len) k any are.2 is (omega (arith, past, e)) lt

  -- two runs, of which the second one follows the first one
  range_more : (a m n : ℕ) → range_with_len a (m + n) ≡ range_with_len a m ++ range_with_len (a + m) n
  range_more a zero n =
      let e : a ≡ a + 0 = omega arith in
      let none : 0 + n ≡ n = omega arith in
      ap (λ k. range_with_len a k) none ∙ ap (λ b. range_with_len b n) e
  range_more a (suc m) n =
      let e : a + 1 + m ≡ a + suc m = omega arith in
      let one : suc m + n ≡ suc (m + n) = omega arith in
      ap (λ k. range_with_len a k) one ∙ ap (λ l. a ∷ l)
      (range_more (a + 1) m n ∙ ap (λ b. range_with_len (a + 1) m ++ range_with_len b n) e)

  module _ (composes : (a b : ℕ) (x : T) → after a (after b x) ≡ after (b + a) x) where
    shifted : (x : T) (m b n : ℕ) → map (λ j. after j x) (range_with_len (m + b) n)
        ≡ map (λ j. after j (after m x)) (range_with_len b n)
    shifted x m b zero = refl
    shifted x m b (suc n) =
        let e : m + b + 1 ≡ m + (b + 1) = omega arith in
        ap (λ y. y ∷ map (λ j. after j x) (range_with_len (m + b + 1) n)) (sym (composes b m x))
        ∙ ap (λ l. after b (after m x) ∷ l)
        (ap (λ a. map (λ j. after j x) (range_with_len a n)) e ∙ shifted x m (b + 1) n)

    pub joined : (x y : T) (m n : ℕ) → y ≡ after m x
        → following after x (m + n) ≡ following after x m ++ following after y n
    joined x y m n e =
        let none : 0 + m ≡ m + 0 = omega arith in
        ap (λ l. map (λ j. after j x) l) (range_more 0 m n)
        ∙ map-append (λ j. after j x) (range_with_len 0 m) (range_with_len (0 + m) n)
        ∙ ap (λ l. following after x m ++ l)
        (ap (λ a. map (λ j. after j x) (range_with_len a n)) none ∙ shifted x m 0 n
        ∙ ap (λ z. following after z n) (sym e))

  -- one run more
  pub expanded_more : (rs : List (Run T)) (r : Run T)
      → expanded after (rs ++ r ∷ []) ≡ expanded after rs ++ run_items after r
  expanded_more [] r = append-nil (run_items after r)
  expanded_more (s ∷ rs) r =
      ap (λ l. run_items after s ++ l) (expanded_more rs r)
      ∙ sym (append_assoc (run_items after s) (expanded after rs) (run_items after r))

pub runs_more : {T : Type 0} (room : T → ℕ) (from to : ℕ) (rs : List (Run T)) (r : Run T)
    → AreRuns room from rs to → IsRun room r → r.start ≡ to → AreRuns room from (rs ++ r ∷ []) (to + r.len)
runs_more room from to [] r are is e = (e ∙ sym are, is, ap (λ n. n + r.len) are)
runs_more room from to (s ∷ rs) r are is e = (are.0, are.1, runs_more room (from + s.len) to rs r are.2 is e)

-- how many values there are
pub counted : {T : Type 0} (after : ℕ → T → T) (room : T → ℕ) (from to : ℕ) (rs : List (Run T))
    → AreRuns room from rs to → from + length (expanded after rs) ≡ to
counted after room from to [] are = omega (arith, are)
counted after room from to (s ∷ rs) are =
    let all = length-append (run_items after s) (expanded after rs) in
    let first = long after s.first s.len in
    let more = counted after room (from + s.len) to rs are.2 in
    omega (arith, all, first, more)

module _ {T : Type 0} (after : ℕ → T → T) (room : T → ℕ) (before : List (Run T)) where
  pub counted_all : (o : Option (Run T)) (r : Run T) → o ≡ Some r → AreAll room before o
      → length (values_of after before o) ≡ r.start + r.len
  counted_all None r e are = absurd cc
  counted_all (Some last) r e are =
      let same = same_Some last r e in
      let start : r.start ≡ last.start = ap (λ (q : Run T). q.start) (sym same) in
      let len : r.len ≡ last.len = ap (λ (q : Run T). q.len) (sym same) in
      let all = length-append (expanded after before) (run_items after last) in
      let first = counted after room 0 last.start before are.0 in
      let more = long after last.first last.len in
      omega (arith, all, first, more, start, len)

  pub last_in : (o : Option (Run T)) (r : Run T) → o ≡ Some r → AreAll room before o
      → IsRunIn after (values_of after before o) r
  last_in None r e are k lt any = absurd cc
  last_in (Some last) r e are k lt any =
      let same = same_Some last r e in
      let start : r.start ≡ last.start = ap (λ (q : Run T). q.start) (sym same) in
      let len : r.len ≡ last.len = ap (λ (q : Run T). q.len) (sym same) in
      let first = counted after room 0 last.start before are.0 in
      get_past after (expanded after before) (run_items after last) (r.start + k) k any
      (omega (arith, first, start))
      ∙ ap (λ l. get_or l k any) (sym (append-nil (run_items after last)))
      ∙ get_following after last.first last.len k [] any (omega (arith, lt, len))
      ∙ ap (λ (q : Run T). after k q.first) same

  pub early_in : (o : Option (Run T)) (j : ℕ) (r : Run T) → slice_get before j ≡ Some r → AreAll room before o
      → IsRunIn after (values_of after before o) r
  early_in None j r is are k lt any = absurd (no_run before j are is)
    where
      no_run : (rs : List (Run T)) (i : ℕ) → rs ≡ [] → slice_get rs i ≡ Some r → ⊥
      no_run [] i e h = cc
      no_run (s ∷ rs) i e h = no_cons s rs e
  early_in (Some last) j r is are k lt any =
      get_at after room 0 last.start before j r (run_items after last) r.start k any are.0 is (omega arith) lt

-- no run ends past the last one
grows : {T : Type 0} (room : T → ℕ) (from to : ℕ) (rs : List (Run T)) → AreRuns room from rs to → from ≤ to
grows room from to [] are = omega (arith, are)
grows room from to (s ∷ rs) are = let le = grows room (from + s.len) to rs are.2 in omega (arith, le)

ends : {T : Type 0} (room : T → ℕ) (from to : ℕ) (rs : List (Run T)) (j : ℕ) (r : Run T) → AreRuns room from
    rs to
    → slice_get rs j ≡ Some r → IsRun room r × (r.start + r.len ≤ to)
ends room from to [] j r are is = absurd cc
ends room from to (s ∷ rs) zero r are is =
    let same = same_Some s r is in
    let start : r.start ≡ s.start = ap (λ (q : Run _). q.start) (sym same) in
    let len : r.len ≡ s.len = ap (λ (q : Run _). q.len) (sym same) in
    let b = are.0 in
    let le = grows room (from + s.len) to rs are.2 in
    (subst (IsRun room) same are.1, omega (arith, start, len, b, le))
ends room from to (s ∷ rs) (suc j) r are is = ends room (from + s.len) to rs j r are.2 is

module _ {T : Type 0} (after : ℕ → T → T) (room : T → ℕ) (before : List (Run T)) where
  pub last_of : (o : Option (Run T)) (r : Run T) → o ≡ Some r → AreAll room before o
      → IsRunOf room after (values_of after before o) r
  last_of None r e are = absurd cc
  last_of (Some last) r e are =
      let n = counted_all after room before (Some last) r e are in
      record {
        run = subst (IsRun room) (same_Some last r e) are.1;
        values = last_in after room before (Some last) r e are;
        within = omega (arith, n);
      }

  pub early_of : (o : Option (Run T)) (j : ℕ) (r : Run T) → slice_get before j ≡ Some r → AreAll room before o
      → IsRunOf room after (values_of after before o) r
  early_of None j r is are = absurd (none before j are is)
    where
      none : (rs : List (Run T)) (i : ℕ) → rs ≡ [] → slice_get rs i ≡ Some r → ⊥
      none [] i e h = cc
      none (s ∷ rs) i e h = no_cons s rs e
  early_of (Some last) j r is are =
      let n = counted_all after room before (Some last) last refl are in
      let end = ends room 0 last.start before j r are.0 is in
      let le = end.1 in
      record {
        run = end.0;
        values = early_in after room before (Some last) j r is are;
        within = omega (arith, n, le);
      }

-- a position is past the runs that end before it
module _ {T : Type 0} (room : T → ℕ) (i : ℕ) where
  abbrev pub IsPast : Run T → Type 0
  IsPast q = q.start + q.len ≤ i

  pub reached : (from to : ℕ) (rs : List (Run T)) (j : ℕ) (r : Run T) → AreRuns room from rs to → from ≤ i
      → All IsPast (take j rs) → j < length rs → r ≡ get_or rs j r → (r.start ≤ i) × IsRun room r
  reached from to [] j r are le h lt is = absurd (omega (arith, lt))
  reached from to (s ∷ rs) zero r are le h lt is =
      let e : r.start ≡ s.start = ap (λ (q : Run T). q.start) is in
      let b = are.0 in
      (omega (arith, e, b, le), subst (IsRun room) (sym is) are.1)
  reached from to (s ∷ rs) (suc j) r are le h lt is =
      let b = are.0 in
      let past = All-head IsPast s (take j rs) h in
      reached (from + s.len) to rs j r are.2 (omega (arith, b, past)) (All-tail IsPast s (take j rs) h)
      (omega (arith, lt)) is

  pub passed : (from to : ℕ) (rs : List (Run T)) → AreRuns room from rs to → from ≤ i → All IsPast rs → to ≤ i
  passed from to [] are le h = omega (arith, are, le)
  passed from to (s ∷ rs) are le h =
      let b = are.0 in
      let past = All-head IsPast s rs h in
      passed (from + s.len) to rs are.2 (omega (arith, b, past)) (All-tail IsPast s rs h)

pub at : {A : Type 0} (xs : List A) (j : ℕ) (x : A) → j < length xs → x ≡ get_or xs j x → slice_get xs j ≡
    Some x
at [] j x lt is = absurd (omega (arith, lt))
at (y ∷ xs) zero x lt is = ap Some (sym is)
at (y ∷ xs) (suc j) x lt is = at xs j x (omega (arith, lt)) is

-- lists that are looked through
pub one_more : {A : Type 0} (xs ys : List A) (j : ℕ) (x : A) → ys ≡ xs → j < length ys → x ≡ get_or ys j x
    → take j xs ++ x ∷ [] ≡ take (j + 1) xs
one_more xs ys j x e lt is =
    let n = ap length e in
    let here : x ≡ get_or xs j x = is ∙ ap (λ l. get_or l j x) e in
    ap (λ y. take j xs ++ y ∷ []) here ∙ sym (take_more xs j x (omega (arith, lt, n)))

pub all_of : {A : Type 0} (xs ys : List A) (j : ℕ) → ys ≡ xs → length ys ≤ j → take j xs ≡ xs
all_of xs ys j e le = let n = ap length e in take_all j xs (omega (arith, le, n))
