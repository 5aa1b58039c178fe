-- Names that are found among different ones.
use Rattle.std.proofs.Common.{◌≡◌, ℕ, zero, suc, ◌+◌, ◌<◌, Bool, true, false, cond, List, [], ◌∷◌, ◌++◌}
use Rattle.std.proofs.Common.{length, Some, None, get_or, refl, ap, sym, ◌∙◌, subst, arith}
use Rattle.std.specs.Prelude.{◌||◌, Contains}
use Rattle.std.specs.Str.{bytes_eq}
use Rattle.std.proofs.lemmas.List.Elements.{Contains-get_or, Contains-append_left, Contains-append_right}
use Rattle.ij_bits.specs.Different.{AreDifferent}
use Rattle.table_file.specs.Tables.{named_from, named, stands_in, has_twice}
use Rattle.std.proofs.lemmas.Bool.{or_from}
use Rattle.ij_bits.proofs.Tests.{not_both}
use Rattle.ij_text.proofs.EqualTexts.{bytes_are, bytes_same}

-- two texts, one with a property that the other lacks
pub other_text : (p : List ℕ → Bool) (a b : List ℕ) → p a ≡ false → p b ≡ true → bytes_eq a b ≡ false
other_text p a b off on = one (bytes_eq a b) refl
  where
    one : (same : Bool) → bytes_eq a b ≡ same → same ≡ false
    one true is = absurd (not_both (p b) on (sym (ap p (bytes_are a b is)) ∙ off))
    one false is = refl

pub not_equal : (a b : List ℕ) → (a ≡ b → ⊥) → bytes_eq a b ≡ false
not_equal a b differ = one (bytes_eq a b) refl
  where
    one : (same : Bool) → bytes_eq a b ≡ same → same ≡ false
    one true is = absurd (differ (bytes_are a b is))
    one false is = refl

-- ---- parts of different ones

pub of_front : (xs ys : List (List ℕ)) → AreDifferent (xs ++ ys) → AreDifferent xs
of_front [] ys h = tt
of_front (x ∷ xs) ys h = ((λ c. h.0 (Contains-append_left xs ys x c)), of_front xs ys h.1)

pub of_back : (xs ys : List (List ℕ)) → AreDifferent (xs ++ ys) → AreDifferent ys
of_back [] ys h = h
of_back (x ∷ xs) ys h = of_back xs ys h.1

pub in_one_part : (xs ys : List (List ℕ)) (n : List ℕ)
    → AreDifferent (xs ++ ys) → Contains xs n → Contains ys n → ⊥
in_one_part [] ys n h (k, lt, e) there = omega (arith, lt)
in_one_part (x ∷ xs) ys n h (zero, lt, e) there =
    h.0 (Contains-append_right xs ys x (subst (Contains ys) (sym e) there))
in_one_part (x ∷ xs) ys n h (suc k, lt, e) there = in_one_part xs ys n h.1 (k, omega (arith, lt), e) there

-- ---- names that don't stand there

pub absent : (n : List ℕ) (xs : List (List ℕ)) → (Contains xs n → ⊥) → stands_in n xs ≡ false
absent n [] none = refl
absent n (x ∷ xs) none =
    or_from (bytes_eq n x) (stands_in n xs) (not_equal n x (λ e. none (zero, omega arith, sym e)))
    (absent n xs (λ c. none (one_further c)))
  where
    one_further : Contains xs n → Contains (x ∷ xs) n
    one_further (k, lt, e) = (suc k, omega (arith, lt), e)

not_named : (j : ℕ) (n : List ℕ) (xs : List (List ℕ)) → stands_in n xs ≡ false → named_from j n xs ≡ None
not_named j n [] h = refl
not_named j n (x ∷ xs) h =
    ap (λ k. cond k (Some j) (named_from (j + 1) n xs)) (first_false (bytes_eq n x) (stands_in n xs) h)
    ∙ not_named (j + 1) n xs (second_false (bytes_eq n x) (stands_in n xs) h)
  where
    first_false : (a b : Bool) → (a || b) ≡ false → a ≡ false
    first_false true b h = h
    first_false false b h = refl

    second_false : (a b : Bool) → (a || b) ≡ false → b ≡ false
    second_false true b h = absurd cc
    second_false false b h = h

pub no_number : (n : List ℕ) (xs : List (List ℕ)) → (Contains xs n → ⊥) → named n xs ≡ None
no_number n xs none = not_named 0 n xs (absent n xs none)

-- the next of different ones
pub next_absent : (xs : List (List ℕ)) (n : List ℕ) (ys : List (List ℕ))
    → AreDifferent (xs ++ n ∷ ys) → stands_in n xs ≡ false
next_absent xs n ys h = absent n xs (λ c. in_one_part xs (n ∷ ys) n h c (zero, omega arith, refl))

-- ---- the number of a name

found_from : (j k : ℕ) (xs : List (List ℕ)) → AreDifferent xs → k < length xs
    → named_from j (get_or xs k []) xs ≡ Some (j + k)
found_from j k [] h within = absurd (omega (arith, within))
found_from j zero (x ∷ xs) h within =
    let same : j ≡ j + 0 = omega arith in
    ap (λ b. cond b (Some j) (named_from (j + 1) x xs)) (bytes_same x x refl) ∙ ap (λ (n : ℕ). Some n) same
found_from j (suc k) (x ∷ xs) h within =
    let inner : k < length xs = omega (arith, within) in
    let next : j + 1 + k ≡ j + suc k = omega arith in
    let other : bytes_eq (get_or xs k []) x ≡ false =
    not_equal (get_or xs k []) x (λ e. h.0 (subst (Contains xs) e (Contains-get_or xs k [] inner))) in
    ap (λ b. cond b (Some j) (named_from (j + 1) (get_or xs k []) xs)) other
    ∙ found_from (j + 1) k xs h.1 inner ∙ ap (λ (n : ℕ). Some n) next

pub number_found : (k : ℕ) (xs : List (List ℕ)) → AreDifferent xs
    → k < length xs → named (get_or xs k []) xs ≡ Some k
number_found k xs h within =
    let none : 0 + k ≡ k = omega arith in found_from 0 k xs h within ∙ ap (λ (n : ℕ). Some n) none

-- ---- none is twice

pub none_twice : (xs : List (List ℕ)) → AreDifferent xs → has_twice xs ≡ false
none_twice [] h = refl
none_twice (x ∷ xs) h = or_from (stands_in x xs) (has_twice xs) (absent x xs h.0) (none_twice xs h.1)
