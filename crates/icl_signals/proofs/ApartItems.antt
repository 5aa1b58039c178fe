-- Lists whose items are apart from one another, and the numbers of their items.
use Rattle.std.proofs.Common.{◌≡◌, ◌+◌, ◌<◌, ◌==◌, ℕ, zero, suc, Bool, true, false, cond, List, [], ◌∷◌, ◌++◌}
use Rattle.std.proofs.Common.{map, filter, flat_map, Contains, Some, refl, sym, ap, subst, ◌∙◌, arith}
use Rattle.std.specs.Prelude.{slice_get, position, unwrap_or}
use Rattle.std.specs.List.{AllByRecursion, enumerate_from, position_from}
use Rattle.std.proofs.lemmas.Bool.{eq-eqb, eqb-true}
use Rattle.std.proofs.lemmas.Iterator.Adapters.{position_from-zero}
use Rattle.ij_bits.specs.Different.{AreDifferent}
use Rattle.icl_signals.proofs.Paired.{all_at, all_kept, all_of_map, all_in_map, all_weaker}
use Rattle.std.proofs.lemmas.Option.{same_Some}

module _ {A : Type 0} (R : A → A → Type 0) where
  -- each item is apart from all later ones
  abbrev pub Apart : List A → Type 0
  Apart [] = Unit {0}
  Apart (x ∷ xs) = AllByRecursion (R x) xs × Apart xs

  pub apart_kept : (test : A → Bool) (xs : List A) → Apart xs → Apart (filter test xs)
  apart_kept test [] h = tt
  apart_kept test (x ∷ xs) h = by_test (test x) refl (apart_kept test xs h.1)
    where
      by_test : (b : Bool) → test x ≡ b → Apart (filter test xs) → Apart (filter test (x ∷ xs))
      by_test true e g = rw e (all_kept (R x) test xs h.0, g)
      by_test false e g = rw e g

  all_both : (P : A → Type 0) (xs ys : List A) → AllByRecursion P xs
      → AllByRecursion P ys → AllByRecursion P (xs ++ ys)
  all_both P [] ys p q = q
  all_both P (x ∷ xs) ys p q = (p.0, all_both P xs ys p.1 q)

  pub apart_append : (xs ys : List A) → Apart xs → Apart ys
      → AllByRecursion (λ x. AllByRecursion (R x) ys) xs → Apart (xs ++ ys)
  apart_append [] ys h g c = g
  apart_append (x ∷ xs) ys h g c = (all_both (R x) xs ys h.0 c.0, apart_append xs ys h.1 g c.1)

  -- two items at different places
  pub apart_at : (xs : List A) (j k : ℕ) (x y : A) → Apart xs → j < k
      → slice_get xs j ≡ Some x → slice_get xs k ≡ Some y → R x y
  apart_at [] j k x y h lt e f = absurd cc
  apart_at (z ∷ xs) j zero x y h lt e f = absurd (omega (arith, lt))
  apart_at (z ∷ xs) zero (suc k) x y h lt e f =
      subst (λ u. R u y) (same_Some z x e) (all_at (R z) xs k y h.0 f)
  apart_at (z ∷ xs) (suc j) (suc k) x y h lt e f = apart_at xs j k x y h.1 (omega (arith, lt)) e f

module _ {A : Type 0} (R S : A → A → Type 0) (f : (x y : A) → R x y → S x y) where
  pub apart_weaker : (xs : List A) → Apart R xs → Apart S xs
  apart_weaker [] h = tt
  apart_weaker (x ∷ xs) h = (all_weaker (R x) (S x) (f x) xs h.0, apart_weaker xs h.1)

pub apart_of_map : {A B : Type 0} (f : A → B) (R : B → B → Type 0) (xs : List A)
    → Apart (λ x y. R (f x) (f y)) xs → Apart R (map f xs)
apart_of_map f R [] h = tt
apart_of_map f R (x ∷ xs) h = (all_of_map f (R (f x)) xs h.0, apart_of_map f R xs h.1)

pub apart_in_map : {A B : Type 0} (f : A → B) (R : B → B → Type 0) (xs : List A)
    → Apart R (map f xs) → Apart (λ x y. R (f x) (f y)) xs
apart_in_map f R [] h = tt
apart_in_map f R (x ∷ xs) h = (all_in_map f (R (f x)) xs h.0, apart_in_map f R xs h.1)

-- ---- lists in which nothing is twice

none_equal : {B : Type 0} (x : B) (ys : List B) → AllByRecursion (λ y. x ≡ y → ⊥) ys → Contains ys x → ⊥
none_equal x [] h c = let lt = c.1 in omega (arith, lt)
none_equal {B} x (y ∷ ys) h (zero, lt, e) = h.0 (sym e)
none_equal {B} x (y ∷ ys) h (suc k, lt, e) = none_equal x ys h.1 (k, omega (arith, lt), e)

all_unequal : {B : Type 0} (x : B) (ys : List B) → (Contains ys x → ⊥) → AllByRecursion (λ y. x ≡ y → ⊥) ys
all_unequal x [] n = tt
all_unequal x (y ∷ ys) n = (
  λ e. n (0, omega arith, sym e),
  all_unequal x ys (λ c. n (suc c.0, let lt = c.1 in omega (arith, lt), c.2)),
)

pub apart_different : {B : Type 0} (xs : List B) → Apart (λ x y. x ≡ y → ⊥) xs → AreDifferent xs
apart_different [] h = tt
apart_different (x ∷ xs) h = (none_equal x xs h.0, apart_different xs h.1)

pub different_apart : {B : Type 0} (xs : List B) → AreDifferent xs → Apart (λ x y. x ≡ y → ⊥) xs
different_apart [] h = tt
different_apart (x ∷ xs) h = (all_unequal x xs h.0, different_apart xs h.1)

-- ---- the place of an item

pub record In {A : Type 0} (x : A) (xs : List A) : Type 0 where
  pub place : ℕ
  pub is : slice_get xs place ≡ Some x

pub in_later : {A : Type 0} (x y : A) (xs : List A) → In x xs → In x (y ∷ xs)
in_later x y xs h = record { place = suc h.place; is = h.is }

pub in_first : {A : Type 0} (x : A) (xs ys : List A) → In x xs → In x (xs ++ ys)
in_first {A} x xs ys h = record { place = h.place; is = go xs h.place h.is }
  where
    go : (zs : List A) (k : ℕ) → slice_get zs k ≡ Some x → slice_get (zs ++ ys) k ≡ Some x
    go [] k e = absurd cc
    go (z ∷ zs) zero e = e
    go (z ∷ zs) (suc k) e = go zs k e

pub in_second : {A : Type 0} (x : A) (xs ys : List A) → In x ys → In x (xs ++ ys)
in_second x [] ys h = h
in_second x (z ∷ xs) ys h = in_later x z (xs ++ ys) (in_second x xs ys h)

pub in_map : {A B : Type 0} (f : A → B) (x : A) (xs : List A) → In x xs → In (f x) (map f xs)
in_map {A} f x xs h = record { place = h.place; is = go xs h.place h.is }
  where
    go : (zs : List A) (k : ℕ) → slice_get zs k ≡ Some x → slice_get (map f zs) k ≡ Some (f x)
    go [] k e = absurd cc
    go (z ∷ zs) zero e = ap (λ u. Some (f u)) (same_Some z x e)
    go (z ∷ zs) (suc k) e = go zs k e

pub in_kept : {A : Type 0} (test : A → Bool) (x : A) (xs : List A)
    → In x xs → test x ≡ true → In x (filter test xs)
in_kept {A} test x xs h t = go xs h.place h.is
  where
    one_more : (z : A) (zs : List A) (b : Bool) → test z ≡ b
        → In x (filter test zs) → In x (filter test (z ∷ zs))
    one_more z zs true e g = rw e (in_later x z (filter test zs) g)
    one_more z zs false e g = rw e g

    go : (zs : List A) (k : ℕ) → slice_get zs k ≡ Some x → In x (filter test zs)
    go [] k e = absurd cc
    go (z ∷ zs) zero e =
        let u : test z ≡ true = ap test (same_Some z x e) ∙ t in
        rw u (record { place = 0; is = e })
    go (z ∷ zs) (suc k) e = one_more z zs (test z) refl (go zs k e)

pub in_flat : {A B : Type 0} (f : A → List B) (a : A) (x : B) (xs : List A)
    → In a xs → In x (f a) → In x (flat_map f xs)
in_flat {A} {B} f a x xs h g = go xs h.place h.is
  where
    go : (zs : List A) (k : ℕ) → slice_get zs k ≡ Some a → In x (flat_map f zs)
    go [] k e = absurd cc
    go (z ∷ zs) zero e = in_first x (f z) (flat_map f zs) (subst (λ u. In x (f u)) (sym (same_Some z a e)) g)
    go (z ∷ zs) (suc k) e = in_second x (f z) (flat_map f zs) (go zs k e)

pub in_numbered : {A : Type 0} (x : A) (n s k : ℕ) (xs : List A) → s + k ≡ n
    → slice_get xs k ≡ Some x → In (n, x) (enumerate_from s xs)
in_numbered x n s k [] e h = absurd cc
in_numbered x n s zero (y ∷ xs) e h =
    let m : s ≡ n = omega (arith, e) in
    record { place = 0; is = ap (λ i. Some (i, y)) m ∙ ap (λ z. Some (n, z)) (same_Some y x h) }
in_numbered x n s (suc k) (y ∷ xs) e h =
    in_later (n, x) (s, y) (enumerate_from (s + 1) xs) (in_numbered x n (s + 1) k xs (omega (arith, e)) h)

-- ---- the number of an item

pub position_at : {A : Type 0} (test : A → Bool) (i k : ℕ) (xs : List A) (x : A)
    → slice_get xs k ≡ Some x → test x ≡ true
    → Apart (λ y z. test y ≡ true → test z ≡ true → ⊥) xs → position_from test i xs ≡ Some (i + k)
position_at test i k [] x h t a = absurd cc
position_at test i zero (y ∷ xs) x h t a =
    let u : test y ≡ true = ap test (same_Some y x h) ∙ t in
    let n : i ≡ i + 0 = omega arith in
    rw u (ap (λ j. Some j) n)
position_at {A} test i (suc k) (y ∷ xs) x h t a =
    by_test (test y) refl (position_at test (i + 1) k xs x h t a.1)
  where
    by_test : (b : Bool) → test y ≡ b → position_from test (i + 1) xs ≡ Some (i + 1 + k)
        → cond b (Some i) (position_from test (i + 1) xs) ≡ Some (i + suc k)
    by_test true e g = absurd (all_at (λ z. test y ≡ true → test z ≡ true → ⊥) xs k x a.0 h e t)
    by_test false e g = let n : i + 1 + k ≡ i + suc k = omega arith in g ∙ ap (λ j. Some j) n

pub number_is : {A : Type 0} (test : A → Bool) (xs : List A) (k : ℕ) (x : A)
    → slice_get xs k ≡ Some x → test x ≡ true
    → Apart (λ y z. test y ≡ true → test z ≡ true → ⊥) xs → unwrap_or (position test xs) 0 ≡ k
number_is test xs k x h t a =
    let z : 0 + k ≡ k = omega arith in
    ap (λ o. unwrap_or o 0) (position_from-zero test xs ∙ position_at test 0 k xs x h t a) ∙ z

-- ---- items with their numbers

all_above : {A : Type 0} (s t : ℕ) (xs : List A) → s < t
    → AllByRecursion (λ (q : ℕ × A). s < q.0) (enumerate_from t xs)
all_above s t [] lt = tt
all_above s t (x ∷ xs) lt = (lt, all_above s (t + 1) xs (omega (arith, lt)))

pub numbers_rise : {A : Type 0} (s : ℕ) (xs : List A)
    → Apart (λ (p q : ℕ × A). p.0 < q.0) (enumerate_from s xs)
numbers_rise s [] = tt
numbers_rise s (x ∷ xs) = (all_above s (s + 1) xs (omega arith), numbers_rise (s + 1) xs)

-- the numbers are those of the places
pub all_numbered : {A : Type 0} (s : ℕ) (xs ys : List A) → ((i : ℕ) → slice_get xs (s + i) ≡ slice_get ys i)
    → AllByRecursion (λ (q : ℕ × A). slice_get xs q.0 ≡ Some q.1) (enumerate_from s ys)
all_numbered s xs [] h = tt
all_numbered s xs (y ∷ ys) h =
    let e : s ≡ s + 0 = omega arith in (
      ap (slice_get xs) e ∙ h 0,
      all_numbered (s + 1) xs ys (λ i.
          let n : s + 1 + i ≡ s + suc i = omega arith in ap (slice_get xs) n ∙ h (suc i)),
    )

pub known_numbers : {A : Type 0} (xs : List A)
    → AllByRecursion (λ (q : ℕ × A). slice_get xs q.0 ≡ Some q.1) (enumerate_from 0 xs)
known_numbers xs = all_numbered 0 xs xs (λ i. let z : 0 + i ≡ i = omega arith in ap (slice_get xs) z)

-- an item that is kept, at its number
pub kept_number : {A : Type 0} (test : A → Bool) (xs : List A) (j : ℕ) (x : A)
    → slice_get xs j ≡ Some x → test x ≡ true
    → slice_get (filter (λ q. test q.1) (enumerate_from 0 xs))
    (unwrap_or (position (λ (q : ℕ × A). q.0 == j) (filter (λ q. test q.1) (enumerate_from 0 xs))) 0)
    ≡ Some (j, x)
kept_number {A} test xs j x h t =
    let kept : In (j, x) (filter (λ q. test q.1) (enumerate_from 0 xs)) =
    in_kept (λ q. test q.1) (j, x) (enumerate_from 0 xs)
    (in_numbered x j 0 j xs (omega arith) h) t in
    let rise = apart_kept (λ (p q : ℕ × A). p.0 < q.0) (λ q. test q.1)
    (enumerate_from 0 xs) (numbers_rise 0 xs) in
    let apart = apart_weaker (λ (p q : ℕ × A). p.0 < q.0)
    (λ p q. (p.0 == j) ≡ true → (q.0 == j) ≡ true → ⊥) not_both
    (filter (λ q. test q.1) (enumerate_from 0 xs)) rise in
    ap (slice_get (filter (λ q. test q.1) (enumerate_from 0 xs)))
    (number_is (λ (q : ℕ × A). q.0 == j)
    (filter (λ q. test q.1) (enumerate_from 0 xs)) kept.place (j, x) kept.is
    (eq-eqb j j refl) apart) ∙ kept.is
  where
    not_both : (p q : ℕ × A) → p.0 < q.0 → (p.0 == j) ≡ true → (q.0 == j) ≡ true → ⊥
    not_both p q lt e f =
        let a : p.0 ≡ j = eqb-true p.0 j e in
        let b : q.0 ≡ j = eqb-true q.0 j f in
        omega (arith, lt, a, b)

-- the items alone
pub kept_items : {A : Type 0} (test : A → Bool) (s : ℕ) (xs : List A)
    → map (λ (q : ℕ × A). q.1) (filter (λ q. test q.1) (enumerate_from s xs)) ≡ filter test xs
kept_items test s [] = refl
kept_items {A} test s (x ∷ xs) = by_test (test x) (kept_items test (s + 1) xs)
  where
    by_test : (b : Bool)
        → map (λ (q : ℕ × A). q.1) (filter (λ q. test q.1) (enumerate_from (s + 1) xs)) ≡ filter test xs
        → map (λ (q : ℕ × A). q.1) (cond b ((s, x) ∷ filter (λ q. test q.1) (enumerate_from (s + 1) xs))
        (filter (λ q. test q.1) (enumerate_from (s + 1) xs))) ≡ cond b (x ∷ filter test xs) (filter test xs)
    by_test true g = ap (λ l. x ∷ l) g
    by_test false g = g
