-- What a reader's answer says of the whole list.
use Rattle.std.proofs.Common.{◌≡◌, ℕ, suc, ◌≤◌, Bool, List, [], ◌∷◌, ◌++◌, length, Option, Some, None, Result}
use Rattle.std.proofs.Common.{Ok, Err, refl, sym, ap, subst, ◌∙◌, append_assoc, length-append, arith, inl}
use Rattle.std.proofs.Common.{inr}
use Rattle.std.proofs.lemmas.List.{append-nil}
use Rattle.ij_text.specs.Symbol.{Symbol}
use Rattle.ij_text.specs.Reading.{Stop, Reader, left, ended}
use Rattle.ij_text.specs.Refusal.{CantGoOn, Refused}
use Rattle.ij_text.proofs.Combinators.{Reads, err_is, cuts}

split_same : {T : Type 0} (a c b d : List T) → a ++ b ≡ c ++ d → length b ≡ length d → a ≡ c
split_same [] [] b d e h = refl
split_same [] (y ∷ c) b d e h =
    let k : length b ≡ suc (length (c ++ d)) = ap length e in absurd (omega (arith, k, length-append c d, h))
split_same (x ∷ a) [] b d e h =
    let k : suc (length (a ++ b)) ≡ length d = ap length e in absurd (omega (arith, k, length-append a b, h))
split_same {T} (x ∷ a) (y ∷ c) b d e h =
    let tails : a ++ b ≡ c ++ d = cc in
    let heads : x ≡ y = cc in
    ap (λ (z : T). z ∷ a) heads ∙ ap (λ (l : List T). y ∷ l) (split_same a c b d tails h)

-- the tokens before the last of a rest, with its first one
one_more : {T : Type 0} (ts front : List T) (t : T) (rest other : List T) (u : T) (others : List T)
    → ts ≡ front ++ t ∷ rest → ts ≡ other ++ u ∷ others
    → length (t ∷ rest) ≡ length (u ∷ others) → (front ++ t ∷ []) ≡ (other ++ u ∷ [])
one_more ts front t rest other u others e f k =
    split_same (front ++ t ∷ []) (other ++ u ∷ []) rest others (append_assoc front (t ∷ []) rest ∙ sym e ∙ f
    ∙ sym (append_assoc other (u ∷ []) others)) (omega (arith, k))

abbrev stop_of : {W : Type 0} → ℕ → Option W → Stop W
stop_of n why = (n, why)

module _ {T W A : Type 0} {S : Symbol T W A} {first more : T
    → Bool} {nullable : Bool} {r : Reader T W A} (law : Reads S first more nullable r) where
  abbrev Outcome : Type 0
  Outcome = Result (A × List T) (Stop W)

  -- what is read to the end is derived
  all_read : (ts : List T) (a : A) → r ts ≡ Ok (a, []) → S.derives ts a
  all_read ts a h =
      let p = law.sound ts [] a h in subst (λ l. S.derives l a) (sym (append-nil p.0) ∙ sym p.1) p.2

  -- what is derived is read
  derived_read : (ts : List T) (a : A) → S.derives ts a → r ts ≡ Ok (a, [])
  derived_read ts a d = ap r (sym (append-nil ts)) ∙ law.whole ts [] a d tt

  -- with one token more than was taken the list isn't viable
  not_past : (front : List T) (t : T) (rest : List T)
      → left (r (front ++ t ∷ rest)) ≡ suc (length rest) → S.viable (front ++ t ∷ []) → ⊥
  not_past front t rest h v =
      let regrouped : (front ++ t ∷ []) ++ rest ≡ front ++ t ∷ rest = append_assoc front (t ∷ []) rest in
      let k : left (r (front ++ t ∷ rest)) ≤ length rest =
      subst (λ l. left (r l) ≤ length rest) regrouped (law.past (front ++ t ∷ []) rest v) in
      omega (arith, h, k)

  -- a barred token is told
  bar_is_told : (ts front : List T) (t : T) (rest : List T) (w : W) → ts ≡ front ++ t ∷ rest
      → S.bars (front ++ t ∷ []) w → r ts ≡ Err (suc (length rest), Some w)
  bar_is_told ts front t rest w e b =
      let regrouped : (front ++ t ∷ []) ++ rest ≡ ts = append_assoc front (t ∷ []) rest ∙ sym e in
      subst (λ l. r l ≡ Err (suc (length rest), Some w)) regrouped (law.is_barred (front ++ t ∷ []) rest w b)

  too_long : (ts : List T) (a : A) (t : T) (rest : List T) → r ts ≡ Ok (a, t ∷ rest)
      → Refused S ts (suc (length rest), None)
  too_long ts a t rest h =
      let p = law.sound ts (t ∷ rest) a h in (
        p.0,
        t ∷ rest,
        p.1,
        refl,
        law.derived p.0 a p.2,
        (
          not_past p.0 t rest (ap (λ l. left (r l)) (sym p.1) ∙ ap left h),
          λ w b.
              let told = bar_is_told ts p.0 t rest w p.1 b in absurd cc,
        ),
      )

  -- why reading stopped
  stuck_why : (ts front rest : List T) (n : ℕ) (why : Option W) → r ts ≡ Err (n, why) → ts ≡ front ++ rest
      → length rest ≡ n → CantGoOn S front rest why
  stuck_why ts front [] n None h e k = (
    λ a d.
        let again : r ts ≡ Ok (a, []) = ap r (e ∙ append-nil front) ∙ derived_read front a d in absurd cc,
    refl,
  )
  stuck_why ts front [] n (Some w) h e k = absurd (let p = law.told ts n w h in omega (arith, p.4, k))
  stuck_why ts front (t ∷ rest) n None h e k = (
    not_past front t rest (ap (λ l. left (r l)) (sym e) ∙ ap left h ∙ sym k),
    λ w b. let told : r ts ≡ Err (suc (length rest), Some w) = bar_is_told ts front t rest w e b in
        let no = ap (λ (x : Stop W). x.1) (err_is {A = A × List T} {E = Stop W} (n, None)
        (suc (length rest), Some w) (sym h ∙ told)) in absurd cc,
  )
  stuck_why ts front (t ∷ rest) n (Some w) h e k = (
    not_past front t rest (ap (λ l. left (r l)) (sym e) ∙ ap left h ∙ sym k),
    let p = law.told ts n w h in
        let lengths : length (p.1 ∷ p.2) ≡ length (t ∷ rest) = p.4 ∙ sym k in
        let same : p.0 ≡ front = split_same p.0 front (p.1 ∷ p.2) (t ∷ rest) (sym p.3 ∙ e) lengths in
        let one : (p.0 ++ p.1 ∷ []) ≡ (front ++ t ∷ []) =
        split_same (p.0 ++ p.1 ∷ []) (front ++ t ∷ []) p.2 rest (append_assoc p.0 (p.1 ∷ []) p.2 ∙ sym p.3 ∙ e
        ∙ sym (append_assoc front (t ∷ []) rest)) (omega (arith, lengths)) in
        subst (λ l. S.bars l w) one p.5,
  )

  stuck_is_refused : (ts : List T) (stop : Stop W) → r ts ≡ Err stop → Refused S ts stop
  stuck_is_refused ts stop h =
      let p = law.stuck ts stop h in
      (p.0, p.1, p.2, p.3, p.4, stuck_why ts p.0 p.1 stop.0 stop.1 h p.2 p.3)

  from_outcome : (ts : List T) (a : A) (o : Outcome) → r ts ≡ o → ended o ≡ Ok a → S.derives ts a
  from_outcome ts a (Ok (b, [])) e h =
      let same : b ≡ a = cc in all_read ts a (e ∙ ap (λ (x : A). ok_pair x) same)
    where
      ok_pair : A → Outcome
      ok_pair x = Ok (x, [])
  from_outcome ts a (Ok (b, t ∷ rest)) e h = absurd cc
  from_outcome ts a (Err n) e h = absurd cc

  from_refusal : (ts : List T) (stop : Stop W) (o : Outcome) → r ts ≡ o
      → ended o ≡ Err stop → Refused S ts stop
  from_refusal ts stop (Ok (b, [])) e h = absurd cc
  from_refusal ts stop (Ok (b, t ∷ rest)) e h = subst (λ k. Refused S ts k)
      (err_is {A = A} {E = Stop W} (suc (length rest), None) stop h) (too_long ts b t rest e)
  from_refusal ts stop (Err m) e h =
      subst (λ k. Refused S ts k) (err_is {A = A} {E = Stop W} m stop h) (stuck_is_refused ts m e)

  -- the three laws of a whole list
  pub found : (ts : List T) (a : A) → ended (r ts) ≡ Ok a → S.derives ts a
  found ts a h = from_outcome ts a (r ts) refl h

  pub only : (ts : List T) (a : A) → S.derives ts a → ended (r ts) ≡ Ok a
  only ts a d = ap ended (derived_read ts a d)

  pub refused : (ts : List T) (stop : Stop W) → ended (r ts) ≡ Err stop → Refused S ts stop
  refused ts stop h = from_refusal ts stop (r ts) refl h

  -- ---- a list is refused in one way, and not where it is derived

  -- another viable front isn't longer than one after which reading can't go on
  no_longer : (front rest other others : List T) (why : Option W) → front ++ rest ≡ other ++ others
      → S.viable other → CantGoOn S front rest why → length rest ≤ length others
  no_longer front [] other others why e v h = omega arith
  no_longer front (t ∷ rest) other others why e v h =
      elim (cuts (front ++ t ∷ []) rest other others (append_assoc front (t ∷ []) rest ∙ e)) [
        | inl p ↦ absurd (h.0 (law.closed (front ++ t ∷ []) p.0 (subst (λ l. S.viable l) p.1 v)))
        | inr p ↦ beyond p.0 p.1 p.2
      ]
    where
      beyond : (w : List T) → front ++ t ∷ [] ≡ other ++ w
          → others ≡ w ++ rest → suc (length rest) ≤ length others
      beyond [] f g = absurd (h.0 (subst (λ l. S.viable l) (sym (f ∙ append-nil other)) v))
      beyond (u ∷ w) f g =
          let k : length others ≡ suc (length (w ++ rest)) = ap length g in
          omega (arith, k, length-append w rest)

  same_whys : (ts front rest other others : List T) (why whys : Option W) → ts ≡ front ++ rest
      → ts ≡ other ++ others → length rest ≡ length others → CantGoOn S front rest why
      → CantGoOn S other others whys → why ≡ whys
  same_whys ts front [] other [] why whys e f k h g = h.1 ∙ sym g.1
  same_whys ts front [] other (u ∷ others) why whys e f k h g = absurd (omega (arith, k))
  same_whys ts front (t ∷ rest) other [] why whys e f k h g = absurd (omega (arith, k))
  same_whys ts front (t ∷ rest) other (u ∷ others) None None e f k h g = refl
  same_whys ts front (t ∷ rest) other (u ∷ others) None (Some w) e f k h g =
      absurd (h.1 w (subst (λ l. S.bars l w) (sym (one_more ts front t rest other u others e f k)) g.1))
  same_whys ts front (t ∷ rest) other (u ∷ others) (Some w) None e f k h g =
      absurd (g.1 w (subst (λ l. S.bars l w) (one_more ts front t rest other u others e f k) h.1))
  same_whys ts front (t ∷ rest) other (u ∷ others) (Some w) (Some x) e f k h g =
      ap (λ (z : Stop W). z.1)
      (err_is {A = A × List T} {E = Stop W} (suc (length rest), Some w) (suc (length others), Some x)
      (sym (bar_is_told ts front t rest w e h.1) ∙ bar_is_told ts other u others x f g.1))

  same_stops : (m n : ℕ) (why whys : Option W) → m ≡ n → why ≡ whys → stop_of m why ≡ stop_of n whys
  same_stops m n why whys e f = ap (λ k. stop_of k why) e ∙ ap (λ y. stop_of n y) f

  pub refusals_are_one : (ts : List T) (m n : Stop W) → Refused S ts m → Refused S ts n → m ≡ n
  refusals_are_one ts m n p q =
      let a : length p.1 ≤ length q.1 = no_longer p.0 p.1 q.0 q.1 m.1 (sym p.2 ∙ q.2) q.4 p.5 in
      let b : length q.1 ≤ length p.1 = no_longer q.0 q.1 p.0 p.1 n.1 (sym q.2 ∙ p.2) p.4 q.5 in
      same_stops m.0 n.0 m.1 n.1 (omega (arith, a, b, p.3, q.3))
      (same_whys ts p.0 p.1 q.0 q.1 m.1 n.1 p.2 q.2 (omega (arith, a, b)) p.5 q.5)

  pub derived_not_refused : (ts : List T) (a : A) (n : Stop W) → S.derives ts a → Refused S ts n → ⊥
  derived_not_refused ts a n d p = by_rest p.0 p.1 n.1 p.2 p.5
    where
      by_rest : (front rest : List T) (why : Option W) → ts ≡ front ++ rest → CantGoOn S front rest why → ⊥
      by_rest front [] why e h = h.0 a (subst (λ l. S.derives l a) (e ∙ append-nil front) d)
      by_rest front (t ∷ rest) why e h = h.0 (law.closed (front ++ t ∷ []) rest
          (subst (λ l. S.viable l) (e ∙ sym (append_assoc front (t ∷ []) rest)) (law.derived ts a d)))
