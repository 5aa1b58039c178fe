-- The first item of a list that passes a test, and its number.
use Rattle.std.proofs.Common.{◌≡◌, ◌+◌, ◌-◌, ◌<◌, ◌&&◌, ℕ, suc, Bool, true, false, cond, ◌||◌, List, [], ◌∷◌}
use Rattle.std.proofs.Common.{◌++◌, length, get_or, Some, None, refl, ap, ◌∙◌, arith}
use Rattle.std.specs.Prelude.{is_some, find, slice_get}
use Rattle.std.specs.List.{list_any, list_all, position_from, range_with_len}
use Rattle.ij_text.specs.Options.{or_else}
use Rattle.std.proofs.lemmas.Option.{same_Some}

module _ {A : Type 0} (p : A → Bool) where
  pub any_position : (s : ℕ) (xs : List A) → is_some (position_from p s xs) ≡ list_any p xs
  any_position s [] = refl
  any_position s (x ∷ xs) = by_test (p x) (any_position (s + 1) xs)
    where
      by_test : (b : Bool) → is_some (position_from p (s + 1) xs) ≡ list_any p xs
          → is_some (cond b (Some s) (position_from p (s + 1) xs)) ≡ (b || list_any p xs)
      by_test true h = refl
      by_test false h = h

  pub position_push : (s : ℕ) (xs : List A) (y : A) → position_from p s (xs ++ y ∷ [])
      ≡ or_else (position_from p s xs) (cond (p y) (Some (s + length xs)) None)
  position_push s [] y = ap (λ n. cond (p y) (Some n) None) (omega arith)
  position_push s (x ∷ xs) y = by_test (p x) (position_push (s + 1) xs y)
    where
      by_test : (b : Bool) → position_from p (s + 1) (xs ++ y ∷ [])
          ≡ or_else (position_from p (s + 1) xs) (cond (p y) (Some (s + 1 + length xs)) None)
          → cond b (Some s) (position_from p (s + 1) (xs ++ y ∷ [])) ≡ or_else
          (cond b (Some s) (position_from p (s + 1) xs)) (cond (p y) (Some (s + suc (length xs))) None)
      by_test true h = refl
      by_test false h =
          h ∙ ap (λ n. or_else (position_from p (s + 1) xs) (cond (p y) (Some n) None)) (omega arith)

  pub any_push : (xs : List A) (y : A) → list_any p (xs ++ y ∷ []) ≡ (list_any p xs || p y)
  any_push [] y = by_test (p y)
    where
      by_test : (b : Bool) → (b || false) ≡ (false || b)
      by_test true = refl
      by_test false = refl
  any_push (x ∷ xs) y = by_test (p x) (any_push xs y)
    where
      by_test : (b : Bool) → list_any p (xs ++ y ∷ []) ≡ (list_any p xs || p y)
          → (b || list_any p (xs ++ y ∷ [])) ≡ ((b || list_any p xs) || p y)
      by_test true h = refl
      by_test false h = h

  -- no item passes
  pub none_found : (s : ℕ) (xs : List A) → position_from p s xs ≡ None → find p xs ≡ None
  none_found s [] h = refl
  none_found s (x ∷ xs) h = by_test (p x) h (λ g. none_found (s + 1) xs g)
    where
      by_test : (b : Bool) → cond b (Some s) (position_from p (s + 1) xs) ≡ None
          → (position_from p (s + 1) xs ≡ None → find p xs ≡ None) → cond b (Some x) (find p xs) ≡ None
      by_test true g again = absurd cc
      by_test false g again = again g

  -- an item passes
  pub record IsFirst (s k : ℕ) (xs : List A) : Type 0 where
    pub place : ℕ
    pub number : k ≡ s + place
    pub within : place < length xs
    pub found : (d : A) → find p xs ≡ Some (get_or xs place d)
    pub there : find p xs ≡ slice_get xs place

  pub first_found : (s k : ℕ) (xs : List A) → position_from p s xs ≡ Some k → IsFirst s k xs
  first_found s k [] h = absurd cc
  first_found s k (x ∷ xs) h = by_test (p x) refl h (λ g. first_found (s + 1) k xs g)
    where
      by_test : (b : Bool) → p x ≡ b → cond b (Some s) (position_from p (s + 1) xs) ≡ Some k
          → (position_from p (s + 1) xs ≡ Some k → IsFirst (s + 1) k xs) → IsFirst s k (x ∷ xs)
      by_test true e g again =
          let n : s ≡ k = same_Some s k g in record {
            place = 0;
            number = omega (arith, n);
            within = omega arith;
            found = λ d. ap (λ (b : Bool). cond b (Some x) (find p xs)) e;
            there = ap (λ (b : Bool). cond b (Some x) (find p xs)) e;
          }
      by_test false e g again =
          let a = again g in
          record {
            place = suc a.place;
            number =
                let n = a.number in omega (arith, n);
            within = let w = a.within in
                omega (arith, w);
            found = λ d. ap (λ (b : Bool). cond b (Some x) (find p xs)) e ∙ a.found d;
            there = ap (λ (b : Bool). cond b (Some x) (find p xs)) e ∙ a.there;
          }

  -- the item with that number
  pub first_at : (k : ℕ) (xs : List A) (d : A)
      → position_from p 0 xs ≡ Some k → find p xs ≡ Some (get_or xs k d)
  first_at k xs d h = let f = first_found 0 k xs h in
      let e : f.place ≡ k =
      let n = f.number in omega (arith, n) in f.found d ∙ ap (λ n. Some (get_or xs n d)) e

  pub first_get : (k : ℕ) (xs : List A) → position_from p 0 xs ≡ Some k → find p xs ≡ slice_get xs k
  first_get k xs h = let f = first_found 0 k xs h in
      let e : f.place ≡ k =
      let n = f.number in omega (arith, n) in f.there ∙ ap (slice_get xs) e

  pub first_within : (k : ℕ) (xs : List A) → position_from p 0 xs ≡ Some k → k < length xs
  first_within k xs h = let f = first_found 0 k xs h in
      let n = f.number in
      let w = f.within in omega (arith, n, w)

-- ---- positions from one on

pub range_step : (a n : ℕ) → a < n → range_with_len a (n - a) ≡ a ∷ range_with_len (a + 1) (n - (a + 1))
range_step a n lt = let e : n - a ≡ suc (n - (a + 1)) = omega (arith, lt) in ap (range_with_len a) e

pub all_step : (f : ℕ → Bool) (a n : ℕ) → a < n
    → list_all f (range_with_len a (n - a)) ≡ (f a && list_all f (range_with_len (a + 1) (n - (a + 1))))
all_step f a n lt = ap (list_all f) (range_step a n lt)

pub any_step : (f : ℕ → Bool) (a k n : ℕ) → k < n → list_any f (range_with_len (a + k) (n - k))
    ≡ (f (a + k) || list_any f (range_with_len (a + (k + 1)) (n - (k + 1))))
any_step f a k n lt =
    let e : n - k ≡ suc (n - (k + 1)) = omega (arith, lt) in
    let g : a + k + 1 ≡ a + (k + 1) = omega arith in
    ap (λ m. list_any f (range_with_len (a + k) m)) e
    ∙ ap (λ m. f (a + k) || list_any f (range_with_len m (n - (k + 1)))) g
