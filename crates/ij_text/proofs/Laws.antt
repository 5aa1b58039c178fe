-- A reader of a symbol that is any number of times.
use Rattle.std.proofs.Common.{◌≡◌, ℕ, zero, suc, ◌+◌, ◌≤◌, Bool, true, false, cond, List, [], ◌∷◌, ◌++◌}
use Rattle.std.proofs.Common.{length, Some, Result, Ok, Err, refl, sym, ap, subst, ◌∙◌, append_assoc}
use Rattle.std.proofs.Common.{length-append, arith, inl, inr}
use Rattle.std.specs.Prelude.{◌||◌}
use Rattle.std.proofs.lemmas.List.{append-nil}
use Rattle.ij_text.specs.Reading.{Stop, Reader, left, read_on, read_parts, read_repeat}
use Rattle.ij_text.specs.Symbol.{Symbol, one, repeat, Parts, BeginsParts, BarsParts}
use Rattle.ij_text.proofs.Combinators.{or_false, ok_is, cond_chosen, cuts, shrinks, turn_ok, turn_err, Stops}
use Rattle.ij_text.proofs.Combinators.{Reads}

module _ {T W A S : Type 0} (part : S → Symbol T W A) (next : S → A
    → S) (first more : T → Bool) (r : S → Reader T W A)
    (law : (s : S) → Reads (part s) first more false (r s)) (apart : (t : T)
    → first t ≡ true → more t ≡ false) where
  step : ℕ → S → List T → Result (S × List T) (Stop W)
  step n s ts = read_parts first r next n s ts

  all : S → Symbol T W S
  all s = repeat part next s

  -- a part has a token
  part_not_empty : (s : S) (a : A) → (part s).derives [] a → ⊥
  part_not_empty s a d = let no : false ≡ true = (law s).nulls a d in cc

  parts_begin : (n : ℕ) (s : S) (t : T) (ts : List T) → BeginsParts part next n s (t ∷ ts) → first t ≡ true
  parts_begin zero s t ts v = (law s).begins t ts v
  parts_begin (suc n) s t ts ([], back, a, e, d, v) = absurd (part_not_empty s a d)
  parts_begin (suc n) s t ts (u ∷ front, back, a, e, d, v) =
      let same : u ≡ t = cc in
      subst (λ x. first x ≡ true) same ((law s).begins u front ((law s).derived (u ∷ front) a d))

  parts_derived : (n : ℕ) (s : S) (ts : List T) (last : S)
      → Parts part next n s ts last → BeginsParts part next n s ts
  parts_derived zero s ts last d = subst (λ l. (part s).viable l) (sym d.0) ((law s).empty)
  parts_derived (suc n) s ts last (front, back, a, e, d, f) =
      (front, back, a, e, d, parts_derived n (next s a) back last f)

  parts_closed : (n : ℕ) (s : S) (ts us : List T) → BeginsParts part next n s (ts ++ us)
      → (m : ℕ) × (BeginsParts part next m s ts)
  parts_closed zero s ts us v = (0, (law s).closed ts us v)
  parts_closed (suc n) s ts us (front, back, a, e, d, v) = elim (cuts ts us front back e) [
    | inl p ↦ (0, (law s).closed ts p.0 (subst (λ l. (part s).viable l) p.1 ((law s).derived front a d)))
    | inr p ↦
        let q = parts_closed n (next s a) p.0 us (subst (λ l. BeginsParts part next n (next s a) l) p.2 v) in
        (suc q.0, (front, p.0, a, p.1, d, q.1))
  ]

  step_takes : (n : ℕ) (s : S) (t : T) (ts : List T) → first t ≡ true
      → step (suc n) s (t ∷ ts) ≡ read_on (λ a rest. step n (next s a) rest) (r s (t ∷ ts))
  unfolding step
  step_takes n s t ts e = rw e refl

  step_ends : (n : ℕ) (s : S) (ts : List T) → Stops first ts → step n s ts ≡ Ok (s, ts)
  unfolding step
  step_ends zero s ts stops = refl
  step_ends (suc n) s [] stops = refl
  step_ends (suc n) s (t ∷ ts) stops = rw stops refl

  step_goes : (n : ℕ) (o : Result (A × List T) (Stop W)) (s : S) (k : ℕ)
      → ((s2 : S) (rest : List T) → left (step n s2 rest) ≤ length rest) → left o ≤ k
      → left (read_on (λ a rest. step n (next s a) rest) o) ≤ k
  step_goes n (Ok x) s k again h = let m = again (next s x.0) x.1 in omega (arith, m, h)
  step_goes n (Err m) s k again h = h

  step_shrinks : (n : ℕ) (s : S) (ts : List T) → left (step n s ts) ≤ length ts
  unfolding step
  step_shrinks zero s ts = omega arith
  step_shrinks (suc n) s [] = omega arith
  step_shrinks (suc n) s (t ∷ ts) = elim (first t) as (λ b. left
      (cond b (read_on (λ a rest. read_parts first r next n (next s a) rest) (r s (t ∷ ts))) (Ok (s, t ∷ ts)))
      ≤ suc (length ts)) [
        | true ↦ step_goes n (r s (t ∷ ts)) s (suc (length ts))
            (λ s2 rest. step_shrinks n s2 rest) (shrinks (law s) (t ∷ ts))
        | false ↦ omega arith
      ]

  stops_first : (rest : List T) → Stops (λ t. first t || more t) rest → Stops first rest
  stops_first [] stops = tt
  stops_first (t ∷ rest) stops = (or_false (first t) (more t) stops).0

  stops_more : (rest : List T) → Stops (λ t. first t || more t) rest → Stops more rest
  stops_more [] stops = tt
  stops_more (t ∷ rest) stops = (or_false (first t) (more t) stops).1

  part_stops : (n : ℕ) (s : S) (back rest : List T) → BeginsParts part next n s back
      → (back ≡ [] → Stops more rest) → Stops more (back ++ rest)
  part_stops n s [] rest v stops = stops refl
  part_stops n s (t ∷ back) rest v stops = apart t (parts_begin n s t back v)

  step_stuck : (n : ℕ) (s : S) (ts : List T) (k : Stop W) → step n s ts ≡ Err k → (front : List T)
      × (rest : List T) × (ts ≡ front ++ rest) × (length rest ≡ k.0) × ((all s).viable front)
  unfolding step all
  step_stuck zero s ts k h = absurd cc
  step_stuck (suc n) s [] k h = absurd cc
  step_stuck (suc n) s (t ∷ ts) k h = elim (cond_chosen (first t) _ _ _ h) [
    | inl e ↦ elim (turn_err (λ a rest. step n (next s a) rest) (r s (t ∷ ts)) k e.1) [
      | inl e ↦ let p = (law s).stuck (t ∷ ts) k e in (p.0, p.1, p.2, p.3, (0, p.4))
      | inr one ↦
          let p = (law s).sound (t ∷ ts) one.0.1 one.0.0 one.1 in
          let q = step_stuck n (next s one.0.0) one.0.1 k one.2 in (
            p.0 ++ q.0,
            q.1,
            p.1 ∙ ap (λ (l : List T). p.0 ++ l) q.2 ∙ sym (append_assoc p.0 q.0 q.1),
            q.3,
            (suc q.4.0, (p.0, q.0, one.0.0, refl, p.2, q.4.1)),
          )
    ]
    | inr e ↦ absurd cc
  ]

  step_sound : (n : ℕ) (s : S) (ts rest : List T) (last : S) → step n s ts ≡ Ok (last, rest)
      → (front : List T) × (ts ≡ front ++ rest) × ((all s).derives front last)
  unfolding step all
  step_sound zero s ts rest last h =
      let pair = ok_is (s, ts) (last, rest) h in
      ([], ap (λ (l : S × List T). l.1) pair, (0, (refl, sym (ap (λ (l : S × List T). l.0) pair))))
  step_sound (suc n) s [] rest last h =
      let pair = ok_is (s, []) (last, rest) h in
      ([], ap (λ (l : S × List T). l.1) pair, (0, (refl, sym (ap (λ (l : S × List T). l.0) pair))))
  step_sound (suc n) s (t ∷ ts) rest last h = elim (cond_chosen (first t) _ _ _ h) [
    | inl e ↦
        let one = turn_ok (λ a rest. step n (next s a) rest) (r s (t ∷ ts)) (last, rest) e.1 in
        let p = (law s).sound (t ∷ ts) one.0.1 one.0.0 one.1 in
        let q = step_sound n (next s one.0.0) one.0.1 rest last one.2 in (
          p.0 ++ q.0,
          p.1 ∙ ap (λ (l : List T). p.0 ++ l) q.1 ∙ sym (append_assoc p.0 q.0 rest),
          (suc q.2.0, (p.0, q.0, one.0.0, refl, p.2, q.2.1)),
        )
    | inr e ↦ let pair = ok_is (s, t ∷ ts) (last, rest) e.1 in
        ([], ap (λ (l : S × List T). l.1) pair, (0, (refl, sym (ap (λ (l : S × List T). l.0) pair))))
  ]

  -- the parts first, then the fuel: n parts, with fuel m
  step_whole : (n m : ℕ) (s : S) (front rest : List T) (last : S) → length (front ++ rest) ≤ m
      → Parts part next n s front last → Stops (λ t. first t || more t) rest
      → step m s (front ++ rest) ≡ Ok (last, rest)
  unfolding step
  step_whole zero m s front rest last fuel d stops =
      rw (d.0, d.1) (step_ends m s rest (stops_first rest stops))
  step_whole (suc n) m s ts rest last fuel ([], back, a, e, d, f) stops = absurd (part_not_empty s a d)
  step_whole (suc n) zero s ts rest last fuel (t ∷ front, back, a, e, d, f) stops =
      let long : length (ts ++ rest) ≡ suc (length ((front ++ back) ++ rest)) =
      ap (λ (l : List T). length (l ++ rest)) e in absurd (omega (arith, long, fuel))
  step_whole (suc n) (suc m) s ts rest last fuel (t ∷ front, back, a, e, d, f) stops =
      let begin = (law s).begins t front ((law s).derived (t ∷ front) a d) in
      let stop = part_stops n (next s a) back rest
      (parts_derived n (next s a) back last f) (λ nothing. stops_more rest stops) in
      let again = (law s).whole (t ∷ front) (back ++ rest) a d stop in
      let regrouped : ts ++ rest ≡ t ∷ (front ++ (back ++ rest)) =
      ap (λ (l : List T). l ++ rest) e ∙ append_assoc (t ∷ front) back rest in
      let long : length (ts ++ rest) ≡ suc (length front + length (back ++ rest)) =
      ap length regrouped ∙ ap suc (length-append front (back ++ rest)) in
      let enough : length (back ++ rest) ≤ m = omega (arith, long, fuel) in
      ap (λ l. step (suc m) s l) regrouped ∙ step_takes m s t (front ++ (back ++ rest)) begin
      ∙ ap (read_on (λ a rest. step m (next s a) rest)) again
      ∙ step_whole n m (next s a) back rest last enough f stops

  step_past : (n m : ℕ) (s : S) (front rest : List T) → length (front ++ rest) ≤ m
      → BeginsParts part next n s front → left (step m s (front ++ rest)) ≤ length rest
  unfolding step
  step_past zero m s [] rest fuel v = step_shrinks m s rest
  step_past zero zero s (t ∷ front) rest fuel v = absurd (omega (arith, fuel))
  step_past zero (suc m) s (t ∷ front) rest fuel v =
      rw (step_takes m s t (front ++ rest) ((law s).begins t front v))
      (step_goes m (r s (t ∷ (front ++ rest))) s (length rest)
      (λ s2 l. step_shrinks m s2 l) ((law s).past (t ∷ front) rest v))
  step_past (suc n) m s ts rest fuel ([], back, a, e, d, v) = absurd (part_not_empty s a d)
  step_past (suc n) zero s ts rest fuel (t ∷ front, back, a, e, d, v) =
      let long : length (ts ++ rest) ≡ suc (length ((front ++ back) ++ rest)) =
      ap (λ (l : List T). length (l ++ rest)) e in absurd (omega (arith, long, fuel))
  step_past (suc n) (suc m) s ts rest fuel (t ∷ front, [], a, e, d, v) =
      let same : ts ≡ t ∷ front = e ∙ append-nil (t ∷ front) in
      let whole = (law s).derived (t ∷ front) a d in
      subst (λ l. left (step (suc m) s (l ++ rest)) ≤ length rest) (sym same)
      (rw (step_takes m s t (front ++ rest) ((law s).begins t front whole))
      (step_goes m (r s (t ∷ (front ++ rest))) s (length rest)
      (λ s2 l. step_shrinks m s2 l) ((law s).past (t ∷ front) rest whole)))
  step_past (suc n) (suc m) s ts rest fuel (t ∷ front, u ∷ back, a, e, d, v) =
      let begin = (law s).begins t front ((law s).derived (t ∷ front) a d) in
      let stop = apart u (parts_begin n (next s a) u back v) in
      let again = (law s).whole (t ∷ front) (u ∷ (back ++ rest)) a d stop in
      let regrouped : ts ++ rest ≡ t ∷ (front ++ (u ∷ (back ++ rest))) =
      ap (λ (l : List T). l ++ rest) e ∙ append_assoc (t ∷ front) (u ∷ back) rest in
      let long : length (ts ++ rest) ≡ suc (length front + suc (length (back ++ rest))) =
      ap length regrouped ∙ ap suc (length-append front (u ∷ (back ++ rest))) in
      let enough : length ((u ∷ back) ++ rest) ≤ m = omega (arith, long, fuel) in
      subst (λ o. left o ≤ length rest) (sym (ap (λ l. step (suc m) s l) regrouped ∙ step_takes m s t
      (front ++ (u ∷ (back ++ rest))) begin ∙ ap (read_on (λ a rest. step m (next s a) rest)) again))
      (step_past n m (next s a) (u ∷ back) rest enough v)

  parts_bars_begin : (n : ℕ) (s : S) (t : T) (ts : List T) (w : W)
      → BarsParts part next n s (t ∷ ts) w → first t ≡ true
  parts_bars_begin zero s t ts w b = (law s).bars_begin t ts w b
  parts_bars_begin (suc n) s t ts w ([], back, a, e, d, b) = absurd (part_not_empty s a d)
  parts_bars_begin (suc n) s t ts w (u ∷ front, back, a, e, d, b) =
      let same : u ≡ t = cc in
      subst (λ x. first x ≡ true) same ((law s).begins u front ((law s).derived (u ∷ front) a d))

  parts_bars_some : (n : ℕ) (s : S) (w : W) → BarsParts part next n s [] w → ⊥
  parts_bars_some zero s w b = (law s).bars_some w b
  parts_bars_some (suc n) s w ([], back, a, e, d, b) = part_not_empty s a d
  parts_bars_some (suc n) s w (u ∷ front, back, a, e, d, b) = absurd cc

  step_is_barred : (n m : ℕ) (s : S) (ts rest : List T) (w : W) → length (ts ++ rest) ≤ m
      → BarsParts part next n s ts w → step m s (ts ++ rest) ≡ Err (suc (length rest), Some w)
  unfolding step
  step_is_barred zero m s [] rest w fuel b = absurd ((law s).bars_some w b)
  step_is_barred zero zero s (t ∷ ts) rest w fuel b = absurd (omega (arith, fuel))
  step_is_barred zero (suc m) s (t ∷ ts) rest w fuel b =
      step_takes m s t (ts ++ rest) ((law s).bars_begin t ts w b)
      ∙ ap (read_on (λ a rest. step m (next s a) rest)) ((law s).is_barred (t ∷ ts) rest w b)
  step_is_barred (suc n) m s ts rest w fuel ([], back, a, e, d, b) = absurd (part_not_empty s a d)
  step_is_barred (suc n) m s ts rest w fuel (t ∷ front, [], a, e, d, b) =
      absurd (parts_bars_some n (next s a) w b)
  step_is_barred (suc n) zero s ts rest w fuel (t ∷ front, u ∷ back, a, e, d, b) =
      let long : length (ts ++ rest) ≡ suc (length ((front ++ u ∷ back) ++ rest)) =
      ap (λ (l : List T). length (l ++ rest)) e in absurd (omega (arith, long, fuel))
  step_is_barred (suc n) (suc m) s ts rest w fuel (t ∷ front, u ∷ back, a, e, d, b) =
      let begin = (law s).begins t front ((law s).derived (t ∷ front) a d) in
      let stop = apart u (parts_bars_begin n (next s a) u back w b) in
      let again = (law s).whole (t ∷ front) (u ∷ (back ++ rest)) a d stop in
      let regrouped : ts ++ rest ≡ t ∷ (front ++ (u ∷ (back ++ rest))) =
      ap (λ (l : List T). l ++ rest) e ∙ append_assoc (t ∷ front) (u ∷ back) rest in
      let long : length (ts ++ rest) ≡ suc (length front + suc (length (back ++ rest))) =
      ap length regrouped ∙ ap suc (length-append front (u ∷ (back ++ rest))) in
      let enough : length ((u ∷ back) ++ rest) ≤ m = omega (arith, long, fuel) in
      ap (λ l. step (suc m) s l) regrouped ∙ step_takes m s t (front ++ (u ∷ (back ++ rest))) begin
      ∙ ap (read_on (λ a rest. step m (next s a) rest)) again
      ∙ step_is_barred n m (next s a) (u ∷ back) rest w enough b

  step_told : (m : ℕ) (s : S) (ts : List T) (n : ℕ) (w : W) → step m s ts ≡ Err (n, Some w)
      → (front : List T) × (t : T) × (rest : List T) × (ts ≡ front ++ (t ∷ rest))
      × (suc (length rest) ≡ n) × ((all s).bars (front ++ t ∷ []) w)
  unfolding step all
  step_told zero s ts n w h = absurd cc
  step_told (suc m) s [] n w h = absurd cc
  step_told (suc m) s (t ∷ ts) n w h = elim (cond_chosen (first t) _ _ _ h) [
    | inl e ↦ elim (turn_err (λ a rest. step m (next s a) rest) (r s (t ∷ ts)) (n, Some w) e.1) [
      | inl e ↦ let p = (law s).told (t ∷ ts) n w e in (p.0, p.1, p.2, p.3, p.4, (0, p.5))
      | inr one ↦
          let p = (law s).sound (t ∷ ts) one.0.1 one.0.0 one.1 in
          let q = step_told m (next s one.0.0) one.0.1 n w one.2 in (
            p.0 ++ q.0,
            q.1,
            q.2,
            p.1 ∙ ap (λ (l : List T). p.0 ++ l) q.3
                ∙ sym (append_assoc p.0 q.0 (q.1 ∷ q.2)),
            q.4,
            (suc q.5.0, (p.0, q.0 ++ q.1 ∷ [], one.0.0, append_assoc p.0 q.0 (q.1 ∷ []), p.2, q.5.1)),
          )
    ]
    | inr e ↦ absurd cc
  ]

  pub repeat_reads : (s : S)
      → Reads (repeat part next s) first (λ t. first t || more t) true (read_repeat first r next s)
  unfolding step all
  repeat_reads s = record {
    empty = (0, (law s).empty);
    derived = λ ts last d. (d.0, parts_derived d.0 s ts last d.1);
    closed = λ ts us v. parts_closed v.0 s ts us v.1;
    begins = λ t ts v. parts_begin v.0 s t ts v.1;
    nulls = λ last d. refl;
    sound = λ ts rest last h. step_sound (length ts) s ts rest last h;
    stuck = λ ts k h. step_stuck (length ts) s ts k h;
    whole = λ front rest last d stops. step_whole d.0
        (length (front ++ rest)) s front rest last (omega arith) d.1 stops;
    past = λ front rest v. step_past v.0 (length (front ++ rest)) s front rest (omega arith) v.1;
    bars_some = λ w b. parts_bars_some b.0 s w b.1;
    bars_begin = λ t ts w b. parts_bars_begin b.0 s t ts w b.1;
    is_barred = λ ts rest w b. step_is_barred b.0 (length (ts ++ rest)) s ts rest w (omega arith) b.1;
    told = λ ts n w h. step_told (length ts) s ts n w h;
  }

  -- a part that was read has a token
  part_shorter : (s : S) (t : T) (ts rest : List T) (a : A)
      → r s (t ∷ ts) ≡ Ok (a, rest) → length rest ≤ length ts
  part_shorter s t ts rest a h = from_parts ((law s).sound (t ∷ ts) rest a h)
    where
      from_parts : (front : List T) × (t ∷ ts ≡ front ++ rest)
          × ((part s).derives front a) → length rest ≤ length ts
      from_parts ([], e, d) = absurd (part_not_empty s a d)
      from_parts (u ∷ front, e, d) =
          let k : suc (length ts) ≡ suc (length (front ++ rest)) = ap length e in
          omega (arith, k, length-append front rest)

  -- any fuel does that is at least the number of tokens
  pub step_fuel : (n m : ℕ) (s : S) (ts : List T) → length ts ≤ n → length ts ≤ m
      → read_parts first r next n s ts ≡ read_parts first r next m s ts
  step_fuel n m s [] a b = sym (fuel_nil n s) ∙ fuel_nil m s
    where
      fuel_nil : (n : ℕ) (s : S) → Ok (s, []) ≡ read_parts first r next n s []
      fuel_nil zero s = refl
      fuel_nil (suc n) s = refl
  step_fuel zero m s (t ∷ ts) a b = absurd (omega (arith, a))
  step_fuel (suc n) zero s (t ∷ ts) a b = absurd (omega (arith, b))
  step_fuel (suc n) (suc m) s (t ∷ ts) a b =
      ap (λ o. cond (first t) o (Ok (s, t ∷ ts)))
      (same_on (r s (t ∷ ts)) (λ x rest h. let k = part_shorter s t ts rest x h in
      step_fuel n m (next s x) rest (omega (arith, a, k)) (omega (arith, b, k))))
    where
      same_on : (o : Result (A × List T) (Stop W)) → ((x : A) (rest : List T) → o ≡ Ok (x, rest)
          → read_parts first r next n (next s x) rest ≡ read_parts first r next m (next s x) rest)
          → read_on (λ a rest. read_parts first r next n (next s a) rest) o
          ≡ read_on (λ a rest. read_parts first r next m (next s a) rest) o
      same_on (Ok x) again = again x.0 x.1 refl
      same_on (Err k) again = refl

  -- one round of the loop: the part that was read is put into the state
  pub repeat_step : (s : S) (t : T) (ts : List T) → first t ≡ true → read_repeat first r next s (t ∷ ts)
      ≡ read_on (λ a rest. read_repeat first r next (next s a) rest) (r s (t ∷ ts))
  repeat_step s t ts e = ap (λ b. cond b (read_on
      (λ a rest. read_parts first r next (length ts) (next s a) rest) (r s (t ∷ ts))) (Ok (s, t ∷ ts))) e
      ∙ same_on (r s (t ∷ ts)) (λ x rest h. step_fuel (length ts) (length rest) (next s x) rest
      (part_shorter s t ts rest x h) (omega arith))
    where
      same_on : (o : Result (A × List T) (Stop W)) → ((x : A) (rest : List T) → o ≡ Ok (x, rest)
          → read_parts first r next (length ts) (next s x) rest ≡ read_repeat first r next (next s x) rest)
          → read_on (λ a rest. read_parts first r next (length ts) (next s a) rest) o
          ≡ read_on (λ a rest. read_repeat first r next (next s a) rest) o
      same_on (Ok x) again = again x.0 x.1 refl
      same_on (Err k) again = refl

  pub repeat_end : (s : S) (ts : List T) → Stops first ts → read_repeat first r next s ts ≡ Ok (s, ts)
  unfolding step
  repeat_end s ts stops = step_ends (length ts) s ts stops
