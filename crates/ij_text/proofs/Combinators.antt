-- A reader with one token of lookahead reads what a symbol derives, and stops at the first token after which
-- the list isn't viable.
use Rattle.std.proofs.Common.{◌≡◌, ◌⊎◌, ℕ, suc, ◌≤◌, Bool, true, false, cond, List, [], ◌∷◌, ◌++◌, length}
use Rattle.std.proofs.Common.{Option, Some, None, Result, Ok, Err, refl, sym, ap, subst, ◌∙◌, append_assoc}
use Rattle.std.proofs.Common.{arith, inl, inr, is_some}
use Rattle.std.specs.Prelude.{IsSome, ◌||◌, ◌&&◌}
use Rattle.std.proofs.lemmas.List.{append-nil}
use Rattle.ij_text.specs.Reading.{Stop, Reader, left, one_value, read_one, read_barred, read_on, read_in_turn}
use Rattle.ij_text.specs.Reading.{read_either}
use Rattle.ij_text.specs.Symbol.{Symbol, IsOne, BeginsOne, IsBarred, one, give, none, barred, ◌>>=◌, ◌<|>◌}

-- no further token by which the symbol would go on
abbrev pub Stops : {T : Type 0} → (T → Bool) → List T → Type 0
Stops more [] = Unit {0}
Stops more (t ∷ ts) = more t ≡ false

pub record Reads {T W A : Type 0} (S : Symbol T W A) (first more : T
    → Bool) (nullable : Bool) (r : Reader T W A) : Type 0 where
  pub empty : S.viable []
  pub derived : (ts : List T) (a : A) → S.derives ts a → S.viable ts
  pub closed : (ts us : List T) → S.viable (ts ++ us) → S.viable ts
  pub begins : (t : T) (ts : List T) → S.viable (t ∷ ts) → first t ≡ true
  pub nulls : (a : A) → S.derives [] a → nullable ≡ true
  pub sound : (ts rest : List T) (a : A) → r ts ≡ Ok (a, rest)
      → (front : List T) × (ts ≡ front ++ rest) × (S.derives front a)
  pub stuck : (ts : List T) (n : Stop W) → r ts ≡ Err n
      → (front : List T) × (rest : List T) × (ts ≡ front ++ rest) × (length rest ≡ n.0) × (S.viable front)
  pub whole : (front rest : List T) (a : A) → S.derives front a
      → Stops more rest → r (front ++ rest) ≡ Ok (a, rest)
  pub past : (front rest : List T) → S.viable front → left (r (front ++ rest)) ≤ length rest
  pub bars_some : (w : W) → S.bars [] w → ⊥
  pub bars_begin : (t : T) (ts : List T) (w : W) → S.bars (t ∷ ts) w → first t ≡ true
  pub is_barred : (ts rest : List T) (w : W) → S.bars ts w → r (ts ++ rest) ≡ Err (suc (length rest), Some w)
  pub told : (ts : List T) (n : ℕ) (w : W) → r ts ≡ Err (n, Some w) → (front : List T) × (t : T)
      × (rest : List T) × (ts ≡ front ++ (t ∷ rest)) × (suc (length rest) ≡ n) × (S.bars (front ++ t ∷ []) w)

-- ---- little laws

or_left : (a b : Bool) → a ≡ true → a || b ≡ true
or_left true b h = refl
or_left false b h = absurd cc

or_right : (a b : Bool) → b ≡ true → a || b ≡ true
or_right true b h = refl
or_right false b h = h

pub or_false : (a b : Bool) → a || b ≡ false → (a ≡ false) × (b ≡ false)
or_false true b h = absurd cc
or_false false b h = (refl, h)

-- a, and also b where n holds
abbrev pub also : Bool → Bool → Bool → Bool
also n a b = cond n (a || b) a

also_first : (n a b : Bool) → a ≡ true → also n a b ≡ true
also_first true a b h = or_left a b h
also_first false a b h = h

also_second : (n a b : Bool) → n ≡ true → b ≡ true → also n a b ≡ true
also_second true a b e h = or_right a b h
also_second false a b e h = absurd cc

also_false : (n a b : Bool) → also n a b ≡ false → a ≡ false
also_false true a b h = (or_false a b h).0
also_false false a b h = h

also_false_second : (n a b : Bool) → n ≡ true → also n a b ≡ false → b ≡ false
also_false_second true a b e h = (or_false a b h).1
also_false_second false a b e h = absurd cc

and_true : (a b : Bool) → a ≡ true → b ≡ true → a && b ≡ true
and_true true b h k = k
and_true false b h k = absurd cc

abbrev pub done : {A E : Type 0} → A → Result A E
done x = Ok x

pub ok_is : {A E : Type 0} (x y : A) → done {A = A} {E = E} x ≡ done y → x ≡ y
ok_is x y e = cc

abbrev pub failed : {A E : Type 0} → E → Result A E
failed x = Err x

pub err_is : {A E : Type 0} (x y : E) → failed {A = A} {E = E} x ≡ failed y → x ≡ y
err_is x y e = cc

-- a stop without a reason has none
no_reason : {A W : Type 0} (m n : ℕ) (w : W) → failed {A = A} {E = Stop W} (m, None) ≡ failed (n, Some w) → ⊥
no_reason {A} {W} m n w h =
    let no = ap (λ (x : Stop W). x.1) (err_is {A = A} {E = Stop W} (m, None) (n, Some w) h) in absurd cc

-- which way a test went
pub cond_chosen : {A : Type 0} (b : Bool) (x y z : A) → cond b x y ≡ z
    → ((b ≡ true) × (x ≡ z)) ⊎ ((b ≡ false) × (y ≡ z))
cond_chosen true x y z h = inl (refl, h)
cond_chosen false x y z h = inr (refl, h)

-- two cuts of a list: one lies before the other, or they are the same
pub cuts : {T : Type 0} (ts us front back : List T) → ts ++ us ≡ front ++ back
    → ((w : List T) × (front ≡ ts ++ w)) ⊎ ((w : List T) × (ts ≡ front ++ w) × (back ≡ w ++ us))
cuts [] us front back e = inl (front, refl)
cuts (t ∷ ts) us [] back e = inr (t ∷ ts, refl, sym e)
cuts {T} (t ∷ ts) us (u ∷ front) back e =
    let heads : t ≡ u = cc in
    let tails : ts ++ us ≡ front ++ back = cc in
    elim (cuts ts us front back tails) [
      | inl p ↦ inl (p.0, ap (λ (l : List T). u ∷ l) p.1 ∙ ap (λ (x : T). x ∷ (ts ++ p.0)) (sym heads))
      | inr p ↦ inr (p.0, ap (λ (l : List T). t ∷ l) p.1 ∙ ap (λ (x : T). x ∷ (front ++ p.0)) heads, p.2)
    ]

nil_front : {T : Type 0} (ts us : List T) → ts ++ us ≡ [] → ts ≡ []
nil_front [] us e = refl
nil_front (t ∷ ts) us e = absurd cc

-- a reader never adds tokens
pub shrinks : {T W A : Type 0} {S : Symbol T W A} {first more : T → Bool} {nullable : Bool} {r : Reader T W A}
    → Reads S first more nullable r → (ts : List T) → left (r ts) ≤ length ts
shrinks {T} {W} {A} {S} {first} {more} {nullable} {r} law ts = law.past [] ts law.empty

-- ---- one token

module _ {T : Type 0} (W : Type 0) {A : Type 0} (f : T → Option A) where
  abbrev token : Symbol T W A
  token = one f

  abbrev valued : Option A → List T → T → Result (A × List T) (Stop W)
  valued o ts t = one_value o ts t

  abbrev reading : Reader T W A
  reading = read_one f

  value_sound : (o : Option A) (t : T) (ts rest : List T) (a : A) → f t ≡ o → valued o ts t ≡ Ok (a, rest)
      → (front : List T) × (t ∷ ts ≡ front ++ rest) × (IsOne f front a)
  value_sound None t ts rest a e h = absurd cc
  value_sound (Some x) t ts rest a e h =
      let pair = ok_is {A = A × List T} {E = Stop W} (x, ts) (a, rest) h in
      (t ∷ [], ap (λ (l : A × List T). t ∷ l.1) pair, e ∙ ap (λ (l : A × List T). Some l.0) pair)

  value_stuck : (o : Option A) (t : T) (ts : List T) (n : Stop W) → valued o ts t ≡ Err n → (front : List T)
      × (rest : List T) × (t ∷ ts ≡ front ++ rest) × (length rest ≡ n.0) × (BeginsOne f front)
  value_stuck None t ts n h = (
    [],
    t ∷ ts,
    refl,
    ap (λ (x : Stop W). x.0) (err_is {A = A × List T} {E = Stop W} (suc (length ts), None) n h),
    tt,
  )
  value_stuck (Some x) t ts n h = absurd cc

  value_past : (o : Option A) (t : T) (ts : List T) → IsSome o → left (valued o ts t) ≤ length ts
  value_past None t ts h = absurd cc
  value_past (Some a) t ts h = omega arith

  value_told : (o : Option A) (t : T) (ts : List T) (n : ℕ) (w : W) → valued o ts t ≡ Err (n, Some w) → ⊥
  value_told None t ts n w h = no_reason {A = A × List T} (suc (length ts)) n w h
  value_told (Some a) t ts n w h = absurd cc

  one_derived : (ts : List T) (a : A) → IsOne f ts a → BeginsOne f ts
  one_derived [] a h = tt
  one_derived (t ∷ []) a h = rw h refl
  one_derived (t ∷ u ∷ ts) a h = h

  one_closed : (ts us : List T) → BeginsOne f (ts ++ us) → BeginsOne f ts
  one_closed [] us h = tt
  one_closed (t ∷ []) [] h = h
  one_closed (t ∷ []) (u ∷ us) h = absurd h
  one_closed (t ∷ u ∷ ts) us h = h

  one_begins : (t : T) (ts : List T) → BeginsOne f (t ∷ ts) → is_some (f t) ≡ true
  one_begins t [] h = h
  one_begins t (u ∷ ts) h = absurd h

  one_sounds : (ts rest : List T) (a : A) → reading ts ≡ Ok (a, rest)
      → (front : List T) × (ts ≡ front ++ rest) × (IsOne f front a)
  one_sounds [] rest a h = absurd cc
  one_sounds (t ∷ ts) rest a h = value_sound (f t) t ts rest a refl h

  one_stucks : (ts : List T) (n : Stop W) → reading ts ≡ Err n
      → (front : List T) × (rest : List T) × (ts ≡ front ++ rest) × (length rest ≡ n.0) × (BeginsOne f front)
  one_stucks [] n h =
      ([], [], refl, ap (λ (x : Stop W). x.0) (err_is {A = A × List T} {E = Stop W} (0, None) n h), tt)
  one_stucks (t ∷ ts) n h = value_stuck (f t) t ts n h

  one_whole : (front rest : List T) (a : A) → IsOne f front a → Stops (λ t. false) rest
      → reading (front ++ rest) ≡ Ok (a, rest)
  one_whole [] rest a h stops = absurd h
  one_whole (t ∷ []) rest a h stops = rw h refl
  one_whole (t ∷ u ∷ ts) rest a h stops = absurd h

  one_pasts : (front rest : List T) → BeginsOne f front → left (reading (front ++ rest)) ≤ length rest
  one_pasts [] [] h = omega arith
  one_pasts [] (t ∷ ts) h = elim (f t) as (λ o. left (valued o ts t) ≤ suc (length ts))
      [ None ↦ omega arith | Some a ↦ omega arith ]
  one_pasts (t ∷ []) rest h = value_past (f t) t rest h
  one_pasts (t ∷ u ∷ ts) rest h = absurd h

  one_told : (ts : List T) (n : ℕ) (w : W) → reading ts ≡ Err (n, Some w) → ⊥
  one_told [] n w h = no_reason {A = A × List T} 0 n w h
  one_told (t ∷ ts) n w h = value_told (f t) t ts n w h

  pub one_reads : Reads token (λ t. is_some (f t)) (λ t. false) false reading
  one_reads = record {
    empty = tt;
    derived = one_derived;
    closed = one_closed;
    begins = one_begins;
    nulls = λ a h. absurd h;
    sound = one_sounds;
    stuck = one_stucks;
    whole = one_whole;
    past = one_pasts;
    bars_some = λ w h. h;
    bars_begin = λ t ts w h. absurd h;
    is_barred = λ ts rest w h. absurd h;
    told = λ ts n w h. absurd (one_told ts n w h);
  }

-- ---- no token

module _ {T W A : Type 0} (x : A) where
  abbrev given : Reader T W A
  given ts = Ok (x, ts)

  abbrev no_token : Symbol T W A
  no_token = give x

  pub give_reads : Reads no_token (λ t. false) (λ t. false) true given
  give_reads = record {
    empty = refl;
    derived = λ ts a h. h.0;
    closed = λ ts us h. nil_front ts us h;
    begins = λ t ts h. absurd cc;
    nulls = λ a h. refl;
    sound = λ ts rest a h. let pair = ok_is {A = A × List T} {E = Stop W} (x, ts) (a, rest) h in
        ([], ap (λ (l : A × List T). l.1) pair, (refl, sym (ap (λ (l : A × List T). l.0) pair)));
    stuck = λ ts n h. absurd cc;
    whole = λ front rest a h stops. rw (h.0, h.1) refl;
    past = λ front rest h. rw h (omega arith);
    bars_some = λ w h. h;
    bars_begin = λ t ts w h. absurd h;
    is_barred = λ ts rest w h. absurd h;
    told = λ ts n w h. absurd cc;
  }

module _ {T W A : Type 0} where
  abbrev never : Reader T W A
  never ts = Err (length ts, None)

  abbrev nothing : Symbol T W A
  nothing = none

  pub none_reads : Reads nothing (λ t. false) (λ t. false) false never
  none_reads = record {
    empty = refl;
    derived = λ ts a h. absurd h;
    closed = λ ts us h. nil_front ts us h;
    begins = λ t ts h. absurd cc;
    nulls = λ a h. absurd h;
    sound = λ ts rest a h. absurd cc;
    stuck = λ ts n h. (
      [],
      ts,
      refl,
      ap (λ (k : Stop W). k.0) (err_is {A = A × List T} {E = Stop W} (length ts, None) n h),
      refl,
    );
    whole = λ front rest a h stops. absurd h;
    past = λ front rest h. rw h (omega arith);
    bars_some = λ w h. h;
    bars_begin = λ t ts w h. absurd h;
    is_barred = λ ts rest w h. absurd h;
    told = λ ts n w h. absurd (no_reason {A = A × List T} (length ts) n w h);
  }

-- ---- a token that is barred

module _ {T W : Type 0} (A : Type 0) (f : T → Option W) where
  abbrev bar : Symbol T W A
  bar = barred f

  abbrev stopping : Reader T W A
  stopping = read_barred f

  bar_begins : (t : T) (ts : List T) (w : W) → IsBarred f (t ∷ ts) w → is_some (f t) ≡ true
  bar_begins t [] w h = rw h refl
  bar_begins t (u ∷ ts) w h = absurd h

  bar_stuck : (ts : List T) (n : Stop W) → stopping ts ≡ Err n
      → (front : List T) × (rest : List T) × (ts ≡ front ++ rest) × (length rest ≡ n.0) × (front ≡ [])
  bar_stuck [] n h =
      ([], [], refl, ap (λ (k : Stop W). k.0) (err_is {A = A × List T} {E = Stop W} (0, None) n h), refl)
  bar_stuck (t ∷ ts) n h = (
    [],
    t ∷ ts,
    refl,
    ap (λ (k : Stop W). k.0) (err_is {A = A × List T} {E = Stop W} (suc (length ts), f t) n h),
    refl,
  )

  bar_sound : (ts rest : List T) (a : A) → stopping ts ≡ Ok (a, rest) → ⊥
  bar_sound [] rest a h = absurd cc
  bar_sound (t ∷ ts) rest a h = absurd cc

  bar_stops : (ts rest : List T) (w : W) → IsBarred f ts w
      → stopping (ts ++ rest) ≡ Err (suc (length rest), Some w)
  bar_stops [] rest w h = absurd h
  bar_stops (t ∷ []) rest w h = rw h refl
  bar_stops (t ∷ u ∷ ts) rest w h = absurd h

  bar_told : (ts : List T) (n : ℕ) (w : W) → stopping ts ≡ Err (n, Some w)
      → (front : List T) × (t : T) × (rest : List T) × (ts ≡ front ++ (t ∷ rest))
      × (suc (length rest) ≡ n) × (IsBarred f (front ++ t ∷ []) w)
  bar_told [] n w h = absurd (no_reason {A = A × List T} 0 n w h)
  bar_told (t ∷ ts) n w h =
      let same = err_is {A = A × List T} {E = Stop W} (suc (length ts), f t) (n, Some w) h in
      ([], t, ts, refl, ap (λ (k : Stop W). k.0) same, ap (λ (k : Stop W). k.1) same)

  bar_past : (rest : List T) → left (stopping rest) ≤ length rest
  bar_past [] = omega arith
  bar_past (t ∷ rest) = omega arith

  pub barred_reads : Reads bar (λ t. is_some (f t)) (λ t. false) false stopping
  barred_reads = record {
    empty = refl;
    derived = λ ts a h. absurd h;
    closed = λ ts us h. nil_front ts us h;
    begins = λ t ts h. absurd cc;
    nulls = λ a h. absurd h;
    sound = λ ts rest a h. absurd (bar_sound ts rest a h);
    stuck = bar_stuck;
    whole = λ front rest a h stops. absurd h;
    past = λ front rest h. rw h (bar_past rest);
    bars_some = λ w h. h;
    bars_begin = bar_begins;
    is_barred = bar_stops;
    told = bar_told;
  }

-- ---- one part after another

abbrev outcome : {T W A : Type 0} → Result (A × List T) (Stop W) → Result (A × List T) (Stop W)
outcome r = r

-- cases on what the first part gave
pub turn_ok : {T W A B : Type 0} (next : A → Reader T W B) (o : Result (A × List T) (Stop W)) (y : B × List T)
    → read_on next o ≡ Ok y → (x : A × List T) × (o ≡ Ok x) × (next x.0 x.1 ≡ Ok y)
turn_ok next (Ok x) y h = (x, refl, h)
turn_ok next (Err n) y h = absurd cc

pub turn_err : {T W A B : Type 0} (next : A → Reader T W B) (o : Result (A × List T) (Stop W)) (n : Stop W)
    → read_on next o ≡ Err n → (o ≡ Err n) ⊎ ((x : A × List T) × (o ≡ Ok x) × (next x.0 x.1 ≡ Err n))
turn_err next (Ok x) n h = inr (x, refl, h)
turn_err {T} {W} {A} {B} next (Err m) n h = inl (ap (λ (k : Stop W). outcome (Err k)) (err_is m n h))

module _ {T W A B : Type 0} (S : Symbol T W A) (next : A → Symbol T W B) (firstS moreS firstN moreN : T
    → Bool) (nullS nullN : Bool) (r : Reader T W A) (rn : A → Reader T W B)
    (lawS : Reads S firstS moreS nullS r) (lawN : (a : A) → Reads (next a) firstN moreN nullN (rn a))
    (apart : (t : T) → firstN t ≡ true → moreS t ≡ false) where
  both : Symbol T W B
  both = S >>= next

  -- where a second part begins, the first one doesn't go on
  stops_before : (back rest : List T) (a : A) → (next a).viable back
      → (back ≡ [] → Stops moreS rest) → Stops moreS (back ++ rest)
  stops_before [] rest a h stops = stops refl
  stops_before (t ∷ back) rest a h stops = apart t ((lawN a).begins t back h)

  stops_if_null : (rest : List T) → nullN ≡ true
      → Stops (λ t. also nullN (moreN t) (moreS t)) rest → Stops moreS rest
  stops_if_null [] e stops = tt
  stops_if_null (t ∷ rest) e stops = also_false_second nullN (moreN t) (moreS t) e stops

  stops_second : (rest : List T) → Stops (λ t. also nullN (moreN t) (moreS t)) rest → Stops moreN rest
  stops_second [] stops = tt
  stops_second (t ∷ rest) stops = also_false nullN (moreN t) (moreS t) stops

  turn_closed : (ts us : List T) → (both).viable (ts ++ us) → (both).viable ts
  unfolding both
  turn_closed ts us (inl v) = inl (lawS.closed ts us v)
  turn_closed ts us (inr (front, back, a, e, d, v)) = elim (cuts ts us front back e) [
    | inl p ↦ inl (lawS.closed ts p.0 (subst (λ l. S.viable l) p.1 (lawS.derived front a d)))
    | inr p ↦ inr (front, p.0, a, p.1, d, (lawN a).closed p.0 us (subst (λ l. (next a).viable l) p.2 v))
  ]

  turn_begins : (t : T) (ts : List T) → (both).viable (t ∷ ts) → also nullS (firstS t) (firstN t) ≡ true
  unfolding both
  turn_begins t ts (inl v) = also_first nullS _ _ (lawS.begins t ts v)
  turn_begins t ts (inr ([], back, a, e, d, v)) =
      also_second nullS _ _ (lawS.nulls a d) ((lawN a).begins t ts (subst (λ l. (next a).viable l) (sym e) v))
  turn_begins t ts (inr (u ∷ front, back, a, e, d, v)) = also_first nullS _ _ (let same : u ≡ t = cc in
      subst (λ x. firstS x ≡ true) same (lawS.begins u front (lawS.derived (u ∷ front) a d)))

  turn_nulls : (b : B) → (both).derives [] b → nullS && nullN ≡ true
  unfolding both
  turn_nulls b ([], [], a, e, d, f) = and_true _ _ (lawS.nulls a d) ((lawN a).nulls b f)
  turn_nulls b ([], u ∷ back, a, e, d, f) = absurd cc
  turn_nulls b (u ∷ front, back, a, e, d, f) = absurd cc

  turn_sound : (ts rest : List T) (b : B) → read_in_turn r rn ts ≡ Ok (b, rest)
      → (front : List T) × (ts ≡ front ++ rest) × ((both).derives front b)
  unfolding both
  turn_sound ts rest b h =
      let one = turn_ok rn (r ts) (b, rest) h in
      let p = lawS.sound ts one.0.1 one.0.0 one.1 in
      let q = (lawN one.0.0).sound one.0.1 rest b one.2 in (
        p.0 ++ q.0,
        p.1 ∙ ap (λ (l : List T). p.0 ++ l) q.1 ∙ sym (append_assoc p.0 q.0 rest),
        (p.0, q.0, one.0.0, refl, p.2, q.2),
      )

  turn_stuck : (ts : List T) (n : Stop W) → read_in_turn r rn ts ≡ Err n → (front : List T) × (rest : List T)
      × (ts ≡ front ++ rest) × (length rest ≡ n.0) × ((both).viable front)
  unfolding both
  turn_stuck ts n h = elim (turn_err rn (r ts) n h) [
    | inl e ↦ let p = lawS.stuck ts n e in (p.0, p.1, p.2, p.3, inl p.4)
    | inr one ↦
        let p = lawS.sound ts one.0.1 one.0.0 one.1 in
        let q = (lawN one.0.0).stuck one.0.1 n one.2 in (
          p.0 ++ q.0,
          q.1,
          p.1 ∙ ap (λ (l : List T). p.0 ++ l) q.2 ∙ sym (append_assoc p.0 q.0 q.1),
          q.3,
          inr (p.0, q.0, one.0.0, refl, p.2, q.4),
        )
  ]

  turn_whole : (front rest : List T) (b : B) → (both).derives front b
      → Stops (λ t. also nullN (moreN t) (moreS t)) rest → read_in_turn r rn (front ++ rest) ≡ Ok (b, rest)
  unfolding both
  turn_whole ts rest b (front, back, a, e, d, f) stops =
      let stop = stops_before back rest a ((lawN a).derived back b f) (λ nothing. stops_if_null rest
      ((lawN a).nulls b (subst (λ l. (next a).derives l b) nothing f)) stops) in
      let again = lawS.whole front (back ++ rest) a d stop in
      let regrouped : ts ++ rest ≡ front ++ (back ++ rest) =
      ap (λ (l : List T). l ++ rest) e ∙ append_assoc front back rest in
      ap (λ l. read_on rn (r l)) regrouped ∙ ap (read_on rn) again
      ∙ (lawN a).whole back rest b f (stops_second rest stops)

  turn_shrinks : (o : Result (A × List T) (Stop W)) (n : ℕ) → left o ≤ n → left (read_on rn o) ≤ n
  turn_shrinks (Ok x) n h = let k = shrinks (lawN x.0) x.1 in omega (arith, k, h)
  turn_shrinks (Err m) n h = h

  turn_past : (front rest : List T) → (both).viable front
      → left (read_in_turn r rn (front ++ rest)) ≤ length rest
  unfolding both
  turn_past ts rest (inl v) = turn_shrinks (r (ts ++ rest)) (length rest) (lawS.past ts rest v)
  turn_past ts rest (inr (front, [], a, e, d, v)) =
      let same : ts ≡ front = e ∙ append-nil front in
      turn_shrinks (r (ts ++ rest)) (length rest)
      (lawS.past ts rest (subst S.viable (sym same) (lawS.derived front a d)))
  turn_past ts rest (inr (front, t ∷ back, a, e, d, v)) =
      let stop = apart t ((lawN a).begins t back v) in
      let again = lawS.whole front (t ∷ (back ++ rest)) a d stop in
      let regrouped : ts ++ rest ≡ front ++ (t ∷ (back ++ rest)) =
      ap (λ (l : List T). l ++ rest) e ∙ append_assoc front (t ∷ back) rest in
      subst (λ o. left o ≤ length rest) (sym (ap (λ l. read_on rn (r l)) regrouped ∙ ap (read_on rn) again))
      ((lawN a).past (t ∷ back) rest v)

  turn_derived : (ts : List T) (b : B) → (both).derives ts b → (both).viable ts
  unfolding both
  turn_derived ts b (front, back, a, e, d, f) = inr (front, back, a, e, d, (lawN a).derived back b f)

  turn_bars_some : (w : W) → (both).bars [] w → ⊥
  unfolding both
  turn_bars_some w (inl b) = lawS.bars_some w b
  turn_bars_some w (inr ([], [], a, e, d, b)) = (lawN a).bars_some w b
  turn_bars_some w (inr ([], u ∷ back, a, e, d, b)) = absurd cc
  turn_bars_some w (inr (u ∷ front, back, a, e, d, b)) = absurd cc

  turn_bars_begin : (t : T) (ts : List T) (w : W) → (both).bars (t ∷ ts) w
      → also nullS (firstS t) (firstN t) ≡ true
  unfolding both
  turn_bars_begin t ts w (inl b) = also_first nullS _ _ (lawS.bars_begin t ts w b)
  turn_bars_begin t ts w (inr ([], back, a, e, d, b)) = also_second nullS _ _ (lawS.nulls a d)
      ((lawN a).bars_begin t ts w (subst (λ l. (next a).bars l w) (sym e) b))
  turn_bars_begin t ts w (inr (u ∷ front, back, a, e, d, b)) = also_first nullS _ _ (let same : u ≡ t = cc in
      subst (λ x. firstS x ≡ true) same (lawS.begins u front (lawS.derived (u ∷ front) a d)))

  turn_is_barred : (ts rest : List T) (w : W) → (both).bars ts w
      → read_in_turn r rn (ts ++ rest) ≡ Err (suc (length rest), Some w)
  unfolding both
  turn_is_barred ts rest w (inl b) = ap (read_on rn) (lawS.is_barred ts rest w b)
  turn_is_barred ts rest w (inr (front, [], a, e, d, b)) = absurd ((lawN a).bars_some w b)
  turn_is_barred ts rest w (inr (front, t ∷ back, a, e, d, b)) =
      let stop = apart t ((lawN a).bars_begin t back w b) in
      let again = lawS.whole front (t ∷ (back ++ rest)) a d stop in
      let regrouped : ts ++ rest ≡ front ++ (t ∷ (back ++ rest)) =
      ap (λ (l : List T). l ++ rest) e ∙ append_assoc front (t ∷ back) rest in
      ap (λ l. read_on rn (r l)) regrouped ∙ ap (read_on rn) again ∙ (lawN a).is_barred (t ∷ back) rest w b

  turn_told : (ts : List T) (n : ℕ) (w : W) → read_in_turn r rn ts ≡ Err (n, Some w)
      → (front : List T) × (t : T) × (rest : List T) × (ts ≡ front ++ (t ∷ rest))
      × (suc (length rest) ≡ n) × ((both).bars (front ++ t ∷ []) w)
  unfolding both
  turn_told ts n w h = elim (turn_err rn (r ts) (n, Some w) h) [
    | inl e ↦ let p = lawS.told ts n w e in (p.0, p.1, p.2, p.3, p.4, inl p.5)
    | inr one ↦
        let p = lawS.sound ts one.0.1 one.0.0 one.1 in
        let q = (lawN one.0.0).told one.0.1 n w one.2 in (
          p.0 ++ q.0,
          q.1,
          q.2,
          p.1 ∙ ap (λ (l : List T). p.0 ++ l) q.3 ∙ sym (append_assoc p.0 q.0
              (q.1 ∷ q.2)),
          q.4,
          inr (p.0, q.0 ++ q.1 ∷ [], one.0.0, append_assoc p.0 q.0 (q.1 ∷ []), p.2, q.5),
        )
  ]

  pub turn_reads : Reads (S >>= next) (λ t. also nullS (firstS t) (firstN t))
      (λ t. also nullN (moreN t) (moreS t)) (nullS && nullN) (read_in_turn r rn)
  unfolding both
  turn_reads = record {
    empty = inl lawS.empty;
    derived = turn_derived;
    closed = turn_closed;
    begins = turn_begins;
    nulls = turn_nulls;
    sound = turn_sound;
    stuck = turn_stuck;
    whole = turn_whole;
    past = turn_past;
    bars_some = turn_bars_some;
    bars_begin = turn_bars_begin;
    is_barred = turn_is_barred;
    told = turn_told;
  }

-- ---- one or the other, told apart by the next token

module _ {T W A : Type 0} (R S : Symbol T W A) (firstR moreR firstS moreS : T
    → Bool) (nullS : Bool) (r s : Reader T W A)
    (lawR : Reads R firstR moreR false r) (lawS : Reads S firstS moreS nullS s) (apart : (t : T)
    → firstS t ≡ true → firstR t ≡ false) where
  either : Symbol T W A
  either = R <|> S

  either_closed : (ts us : List T) → (either).viable (ts ++ us) → (either).viable ts
  unfolding either
  either_closed ts us (inl v) = inl (lawR.closed ts us v)
  either_closed ts us (inr v) = inr (lawS.closed ts us v)

  either_begins : (t : T) (ts : List T) → (either).viable (t ∷ ts) → firstR t || firstS t ≡ true
  unfolding either
  either_begins t ts (inl v) = or_left _ _ (lawR.begins t ts v)
  either_begins t ts (inr v) = or_right _ _ (lawS.begins t ts v)

  either_nulls : (a : A) → (either).derives [] a → nullS ≡ true
  unfolding either
  either_nulls a (inl d) = absurd (let no : false ≡ true = lawR.nulls a d in cc)
  either_nulls a (inr d) = lawS.nulls a d

  either_derived : (ts : List T) (a : A) → (either).derives ts a → (either).viable ts
  unfolding either
  either_derived ts a (inl d) = inl (lawR.derived ts a d)
  either_derived ts a (inr d) = inr (lawS.derived ts a d)

  either_sound : (ts rest : List T) (a : A) → read_either firstR r s ts ≡ Ok (a, rest)
      → (front : List T) × (ts ≡ front ++ rest) × ((either).derives front a)
  unfolding either
  either_sound [] rest a h = let p = lawS.sound [] rest a h in (p.0, p.1, inr p.2)
  either_sound (t ∷ ts) rest a h = elim (cond_chosen (firstR t) _ _ _ h) [
    | inl e ↦ let p = lawR.sound (t ∷ ts) rest a e.1 in (p.0, p.1, inl p.2)
    | inr e ↦ let p = lawS.sound (t ∷ ts) rest a e.1 in (p.0, p.1, inr p.2)
  ]

  either_stuck : (ts : List T) (n : Stop W) → read_either firstR r s ts ≡ Err n → (front : List T)
      × (rest : List T) × (ts ≡ front ++ rest) × (length rest ≡ n.0) × ((either).viable front)
  unfolding either
  either_stuck [] n h = let p = lawS.stuck [] n h in (p.0, p.1, p.2, p.3, inr p.4)
  either_stuck (t ∷ ts) n h = elim (cond_chosen (firstR t) _ _ _ h) [
    | inl e ↦ let p = lawR.stuck (t ∷ ts) n e.1 in (p.0, p.1, p.2, p.3, inl p.4)
    | inr e ↦ let p = lawS.stuck (t ∷ ts) n e.1 in (p.0, p.1, p.2, p.3, inr p.4)
  ]

  either_takes_first : (t : T) (ts : List T) → firstR t ≡ true → read_either firstR r s (t ∷ ts) ≡ r (t ∷ ts)
  either_takes_first t ts e = rw e refl

  either_takes_second : (t : T) (ts : List T) → firstR t ≡ false
      → read_either firstR r s (t ∷ ts) ≡ s (t ∷ ts)
  either_takes_second t ts e = rw e refl

  either_no_token : (rest : List T) → nullS ≡ true
      → Stops (λ t. also nullS (moreR t || moreS t) (firstR t)) rest
      → (read_either firstR r s rest ≡ s rest) × Stops moreS rest
  either_no_token [] e stops = (refl, tt)
  either_no_token (t ∷ rest) e stops = (
    either_takes_second t rest (also_false_second nullS _ _ e stops),
    (or_false (moreR t) _ (also_false nullS _ (firstR t) stops)).1,
  )

  either_stops_first : (rest : List T)
      → Stops (λ t. also nullS (moreR t || moreS t) (firstR t)) rest → Stops moreR rest
  either_stops_first [] stops = tt
  either_stops_first (t ∷ rest) stops = (or_false (moreR t) _ (also_false nullS _ (firstR t) stops)).0

  either_stops_second : (rest : List T)
      → Stops (λ t. also nullS (moreR t || moreS t) (firstR t)) rest → Stops moreS rest
  either_stops_second [] stops = tt
  either_stops_second (t ∷ rest) stops = (or_false (moreR t) _ (also_false nullS _ (firstR t) stops)).1

  either_whole : (front rest : List T) (a : A) → (either).derives front a
      → Stops (λ t. also nullS (moreR t || moreS t) (firstR t)) rest
      → read_either firstR r s (front ++ rest) ≡ Ok (a, rest)
  unfolding either
  either_whole [] rest a (inl d) stops = absurd (let no : false ≡ true = lawR.nulls a d in cc)
  either_whole (t ∷ front) rest a (inl d) stops =
      either_takes_first t (front ++ rest) (lawR.begins t front (lawR.derived (t ∷ front) a d))
      ∙ lawR.whole (t ∷ front) rest a d (either_stops_first rest stops)
  either_whole [] rest a (inr d) stops =
      let k = either_no_token rest (lawS.nulls a d) stops in k.0 ∙ lawS.whole [] rest a d k.1
  either_whole (t ∷ front) rest a (inr d) stops =
      either_takes_second t (front ++ rest) (apart t (lawS.begins t front (lawS.derived (t ∷ front) a d)))
      ∙ lawS.whole (t ∷ front) rest a d (either_stops_second rest stops)

  either_shrinks : (ts : List T) → left (read_either firstR r s ts) ≤ length ts
  either_shrinks [] = shrinks lawS []
  either_shrinks (t ∷ ts) = elim (firstR t) as (λ b. left (cond b (r (t ∷ ts)) (s (t ∷ ts)))
      ≤ length (t ∷ ts)) [ true ↦ shrinks lawR (t ∷ ts) | false ↦ shrinks lawS (t ∷ ts) ]

  either_past : (front rest : List T) → (either).viable front
      → left (read_either firstR r s (front ++ rest)) ≤ length rest
  unfolding either
  either_past [] rest v = either_shrinks rest
  either_past (t ∷ front) rest (inl v) =
      rw (either_takes_first t (front ++ rest) (lawR.begins t front v)) (lawR.past (t ∷ front) rest v)
  either_past (t ∷ front) rest (inr v) = rw
      (either_takes_second t (front ++ rest) (apart t (lawS.begins t front v))) (lawS.past (t ∷ front) rest v)

  either_bars_some : (w : W) → (either).bars [] w → ⊥
  unfolding either
  either_bars_some w (inl b) = lawR.bars_some w b
  either_bars_some w (inr b) = lawS.bars_some w b

  either_bars_begin : (t : T) (ts : List T) (w : W) → (either).bars (t ∷ ts) w → firstR t || firstS t ≡ true
  unfolding either
  either_bars_begin t ts w (inl b) = or_left _ _ (lawR.bars_begin t ts w b)
  either_bars_begin t ts w (inr b) = or_right _ _ (lawS.bars_begin t ts w b)

  either_is_barred : (ts rest : List T) (w : W) → (either).bars ts w
      → read_either firstR r s (ts ++ rest) ≡ Err (suc (length rest), Some w)
  unfolding either
  either_is_barred [] rest w (inl b) = absurd (lawR.bars_some w b)
  either_is_barred [] rest w (inr b) = absurd (lawS.bars_some w b)
  either_is_barred (t ∷ ts) rest w (inl b) =
      either_takes_first t (ts ++ rest) (lawR.bars_begin t ts w b) ∙ lawR.is_barred (t ∷ ts) rest w b
  either_is_barred (t ∷ ts) rest w (inr b) = either_takes_second t (ts ++ rest)
      (apart t (lawS.bars_begin t ts w b)) ∙ lawS.is_barred (t ∷ ts) rest w b

  either_told : (ts : List T) (n : ℕ) (w : W) → read_either firstR r s ts ≡ Err (n, Some w)
      → (front : List T) × (t : T) × (rest : List T) × (ts ≡ front ++ (t ∷ rest))
      × (suc (length rest) ≡ n) × ((either).bars (front ++ t ∷ []) w)
  unfolding either
  either_told [] n w h = let p = lawS.told [] n w h in (p.0, p.1, p.2, p.3, p.4, inr p.5)
  either_told (t ∷ ts) n w h = elim (cond_chosen (firstR t) _ _ _ h) [
    | inl e ↦ let p = lawR.told (t ∷ ts) n w e.1 in (p.0, p.1, p.2, p.3, p.4, inl p.5)
    | inr e ↦ let p = lawS.told (t ∷ ts) n w e.1 in (p.0, p.1, p.2, p.3, p.4, inr p.5)
  ]

  pub either_reads : Reads (R <|> S) (λ t. firstR t || firstS t)
      (λ t. also nullS (moreR t || moreS t) (firstR t)) nullS (read_either firstR r s)
  unfolding either
  either_reads = record {
    empty = inl lawR.empty;
    derived = either_derived;
    closed = either_closed;
    begins = either_begins;
    nulls = either_nulls;
    sound = either_sound;
    stuck = either_stuck;
    whole = either_whole;
    past = either_past;
    bars_some = either_bars_some;
    bars_begin = either_bars_begin;
    is_barred = either_is_barred;
    told = either_told;
  }

-- ---- the same with wider tests

stops_wider : {T : Type 0} (more wider : T → Bool) → ((t : T) → wider t ≡ false → more t ≡ false)
    → (ts : List T) → Stops wider ts → Stops more ts
stops_wider more wider h [] stops = tt
stops_wider more wider h (t ∷ ts) stops = h t stops

pub wider_reads : {T W A : Type 0} {S : Symbol T W A} {first more : T
    → Bool} {nullable : Bool} {r : Reader T W A} → Reads S first more nullable r
    → (first' more' : T → Bool) → ((t : T) → first t ≡ true → first' t ≡ true)
    → ((t : T) → more' t ≡ false → more t ≡ false) → Reads S first' more' nullable r
wider_reads {T} {W} {A} {S} {first} {more} {nullable} {r} law first' more' f m = record {
  empty = law.empty;
  derived = law.derived;
  closed = law.closed;
  begins = λ t ts v. f t (law.begins t ts v);
  nulls = law.nulls;
  sound = law.sound;
  stuck = law.stuck;
  whole = λ front rest a d stops. law.whole front rest a d (stops_wider more more' m rest stops);
  past = law.past;
  bars_some = law.bars_some;
  bars_begin = λ t ts w b. f t (law.bars_begin t ts w b);
  is_barred = law.is_barred;
  told = law.told;
}
