-- The names of a map by their bytes.
use Rattle.std.proofs.Common.{◌≡◌, ◌+◌, ◌<◌, ◌≤◌, ℕ, zero, suc, Bool, true, false, not, cond, nat_lt, List}
use Rattle.std.proofs.Common.{[], ◌∷◌, ◌++◌, length, map, Option, Some, None, is_some, refl, sym, ap, ◌∙◌}
use Rattle.std.proofs.Common.{arith, position}
use Rattle.std.specs.Prelude.{slice_index_or}
use Rattle.std.specs.List.{AllByRecursion, IsDistinct, position_or_len, prefix_len}
use Rattle.std.specs.Str.{bytes_eq}
use Rattle.std.specs.Map.{keys_of, values_of}
use Rattle.std.proofs.lemmas.Bool.{true≢false}
use Rattle.std.proofs.lemmas.Bool.Decides.{nat_tests}
use Rattle.std.proofs.lemmas.Slice.Eq.{bytes_eq-Decides}
use Rattle.indexmap.specs.IndexMap.{insert_entry}
use Rattle.ij_text.specs.Numbering.{AreDistinct, number_in, with_name}

eq_same : (n : List ℕ) → bytes_eq n n ≡ true
eq_same n = (bytes_eq-Decides n n).1 refl

module _ {K : Type 0} (f : K → List ℕ) where
  prefix_map : (p : List ℕ → Bool) (ks : List K) → prefix_len (λ k. p (f k)) ks ≡ prefix_len p (map f ks)
  prefix_map p [] = refl
  prefix_map p (k ∷ ks) = ap (λ n. cond (p (f k)) (1 + n) 0) (prefix_map p ks)

  map_length : (ks : List K) → length (map f ks) ≡ length ks
  map_length [] = refl
  map_length (k ∷ ks) = ap suc (map_length ks)

  -- the position of a key is that of its name
  pub position_map : (test : List ℕ → Bool) (ks : List K)
      → position (λ k. test (f k)) ks ≡ position test (map f ks)
  position_map test ks =
      ap (λ n. cond (nat_lt n (length ks)) (Some n) None) (prefix_map (λ n. not (test n)) ks)
      ∙ ap (λ n. cond (nat_lt (position_or_len test (map f ks)) n)
      (Some (position_or_len test (map f ks))) None) (sym (map_length ks))

  -- a name that no key has is at no place
  not_there : (n : List ℕ) (ks : List K) → AllByRecursion (λ k. bytes_eq n (f k) ≡ false) ks → (j : ℕ)
      → j < length (map f ks) → slice_index_or (map f ks) j [] ≡ n → ⊥
  not_there n [] all j lt e = absurd (omega (arith, lt))
  not_there n (k ∷ ks) all zero lt e = true≢false (sym (eq_same n) ∙ ap (bytes_eq n) (sym e) ∙ all.0)
  not_there n (k ∷ ks) all (suc j) lt e = not_there n ks all.1 j (omega (arith, lt)) e

  -- no key is twice, so no name does
  pub distinct : (ks : List K) → IsDistinct (λ a b. bytes_eq (f a) (f b)) ks → AreDistinct (map f ks)
  unfolding IsDistinct
  distinct [] h i j li lj e = absurd (omega (arith, li))
  distinct (k ∷ ks) h zero zero li lj e = refl
  distinct (k ∷ ks) h zero (suc j) li lj e = absurd (not_there (f k) ks h.0 j (omega (arith, lj)) (sym e))
  distinct (k ∷ ks) h (suc i) zero li lj e = absurd (not_there (f k) ks h.0 i (omega (arith, li)) e)
  distinct (k ∷ ks) h (suc i) (suc j) li lj e =
      ap suc (distinct ks h.1 i j (omega (arith, li)) (omega (arith, lj)) e)

-- no element passes a test that has no position
long_prefix : {X : Type 0} (p : X → Bool) (xs : List X)
    → length xs ≤ prefix_len p xs → AllByRecursion (λ x. p x ≡ true) xs
long_prefix p [] h = tt
long_prefix {X} p (x ∷ xs) h = by_test (p x) refl h (long_prefix p xs)
  where
    by_test : (t : Bool) → p x ≡ t → suc (length xs) ≤ cond t (1 + prefix_len p xs) 0
        → (length xs ≤ prefix_len p xs → AllByRecursion (λ (y : X). p y ≡ true) xs)
        → (p x ≡ true) × (AllByRecursion (λ (y : X). p y ≡ true) xs)
    by_test true e le again = (e, again (omega (arith, le)))
    by_test false e le again = absurd (omega (arith, le))

-- a name without a position is none of the names
pub absent : (n : List ℕ) (names : List (List ℕ)) → number_in names n ≡ None
    → AllByRecursion (λ m. bytes_eq n m ≡ false) names
absent n names e = negated names (long_prefix (λ m. not (bytes_eq n m)) names
    (by_test (nat_lt (position_or_len (bytes_eq n) names) (length names)) refl e))
  where
    by_test : (t : Bool) → nat_lt (position_or_len (bytes_eq n) names) (length names) ≡ t
        → cond t (Some (position_or_len (bytes_eq n) names)) None ≡ None
        → length names ≤ position_or_len (bytes_eq n) names
    by_test true lt h = absurd cc
    by_test false lt h = grind (arith, nat_tests)

    back : (b : Bool) → not b ≡ true → b ≡ false
    back true h = absurd cc
    back false h = refl

    negated : (ms : List (List ℕ)) → AllByRecursion (λ m. not (bytes_eq n m) ≡ true) ms
        → AllByRecursion (λ m. bytes_eq n m ≡ false) ms
    negated [] h = tt
    negated (m ∷ ms) h = (back (bytes_eq n m) h.0, negated ms h.1)

-- a new name goes last
module _ {K V : Type 0} (f : K → List ℕ) where
  pub inserted : (es : List (K × V)) (k : K) (v : V)
      → AllByRecursion (λ n. bytes_eq (f k) n ≡ false) (map f (keys_of es))
      → insert_entry (λ a b. bytes_eq (f a) (f b)) es k v ≡ es ++ (k, v) ∷ []
  inserted [] k v all = refl
  inserted (e ∷ es) k v all = rw all.0 (ap (λ (l : List (K × V)). e ∷ l) (inserted es k v all.1))

  pub keys_more : (es : List (K × V)) (k : K) (v : V)
      → map f (keys_of (es ++ (k, v) ∷ [])) ≡ map f (keys_of es) ++ f k ∷ []
  keys_more [] k v = refl
  keys_more (e ∷ es) k v = ap (λ (l : List (List ℕ)). f e.0 ∷ l) (keys_more es k v)

module _ {K V : Type 0} where
  pub values_more : (g : V → List ℕ) (es : List (K × V)) (k : K) (v : V)
      → map g (values_of (es ++ (k, v) ∷ [])) ≡ map g (values_of es) ++ g v ∷ []
  values_more g [] k v = refl
  values_more g (e ∷ es) k v = ap (λ (l : List (List ℕ)). g e.1 ∷ l) (values_more g es k v)

pub added : (names : List (List ℕ)) (n : List ℕ)
    → number_in names n ≡ None → names ++ n ∷ [] ≡ with_name names n
added names n e = sym (ap (λ (o : Option ℕ). cond (is_some o) names (names ++ n ∷ [])) e)
