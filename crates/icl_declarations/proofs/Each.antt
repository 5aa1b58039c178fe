-- Going over a list, one item more.
use Rattle.std.proofs.Common.{◌≡◌, ◌<◌, ◌+◌, ℕ, List, [], ◌∷◌, ◌++◌, length, map, get_or, drop, Option, Some}
use Rattle.std.proofs.Common.{None, Result, Ok, Err, refl, sym, ap, ◌∙◌, append_assoc}
use Rattle.std.proofs.lemmas.List.{map-append}
use Rattle.icl_declarations.specs.Faults.{◌>>=◌, each, over, Fault, Fails}
use Rattle.ij_bits.proofs.Lists.{split_at}

-- what is given for the items that are left, after what was given before
abbrev pub more : {A B E : Type 0} → (A → Result B E) → List B → List A → Result (List B) E
more f out xs = each f xs >>= λ ys. Ok (out ++ ys)

-- one item is there
pub more_next : {A B E : Type 0} (f : A → Result B E) (out : List B) (x : A) (xs : List A) (y : B)
    → f x ≡ Ok y → more f (out ++ y ∷ []) xs ≡ more f out (x ∷ xs)
more_next {A} {B} {E} f out x xs y e = rw e (by_cases (each f xs))
  where
    by_cases : (r : Result (List B) E)
        → (r >>= λ ys. Ok ((out ++ y ∷ []) ++ ys)) ≡ ((r >>= λ ys. Ok (y ∷ ys)) >>= λ ys. Ok (out ++ ys))
    by_cases (Ok ys) = ap (λ l. Ok l) (append_assoc out (y ∷ []) ys)
    by_cases (Err e) = refl

-- one item fails
pub more_fails : {A B : Type 0} (f : A → Result B Fault) (out : List B) (x : A) (xs : List A)
    (e : Option Fault) → Fails e (f x) → Fails e (more f out (x ∷ xs))
more_fails f out x xs None h = tt
more_fails f out x xs (Some e) h = rw h refl

-- none is left
pub more_end : {A B E : Type 0} (f : A → Result B E) (out : List B) → more f out [] ≡ Ok out
more_end f out = ap (λ l. Ok l) (append_nil out)
  where
    append_nil : {B : Type 0} (l : List B) → l ++ [] ≡ l
    append_nil [] = refl
    append_nil (y ∷ l) = ap (λ m. y ∷ m) (append_nil l)

-- ---- in a loop over a list that is seen by a view

module _ {X A Y B E : Type 0} (see : X → A) (view : Y → B) (f : A → Result B E) where
  -- one item more was given
  pub round_goes : (xs : List X) (i : ℕ) (x : X) (outs more_outs : List Y) (y : Y) → i < length xs
      → x ≡ get_or xs i x → f (see x) ≡ Ok (view y) → more_outs ≡ outs ++ y ∷ []
      → more f (map view more_outs) (map see (drop (i + 1) xs)) ≡ more f (map view outs) (map see (drop i xs))
  round_goes xs i x outs more_outs y lt e h g =
      ap (λ l. more f l (map see (drop (i + 1) xs))) (ap (map view) g ∙ map-append view outs (y ∷ []))
      ∙ more_next f (map view outs) (see x) (map see (drop (i + 1) xs)) (view y) h
      ∙ sym (ap (λ (l : List X). more f (map view outs) (map see l)) (split_at xs i x lt e))

pub fails_along : {B : Type 0} (e : Option Fault) (r s : Result B Fault) → r ≡ s → Fails e r → Fails e s
fails_along None r s h k = tt
fails_along (Some e) r s h k = sym h ∙ k

module _ {X A Y B : Type 0} (see : X → A) (view : Y → B) (f : A → Result B Fault) where
  -- one item failed
  pub round_fails : (xs : List X) (i : ℕ) (x : X) (outs : List Y) (e : Option Fault)
      (whole : Result (List B) Fault) → i < length xs → x ≡ get_or xs i x → Fails e (f (see x))
      → more f (map view outs) (map see (drop i xs)) ≡ whole → Fails e whole
  round_fails xs i x outs e whole lt h k g =
      fails_along e (more f (map view outs) (map see (x ∷ drop (i + 1) xs))) whole
      (sym (ap (λ (l : List X). more f (map view outs) (map see l)) (split_at xs i x lt h)) ∙ g)
      (more_fails f (map view outs) (see x) (map see (drop (i + 1) xs)) e k)

-- ---- a state that each item changes

over_fails : {A S : Type 0} (f : S → A → Result S Fault) (s : S) (x : A) (xs : List A) (e : Option Fault)
    → Fails e (f s x) → Fails e (over f s (x ∷ xs))
over_fails f s x xs None h = tt
over_fails f s x xs (Some e) h = rw h refl

module _ {X A S : Type 0} (see : X → A) (f : S → A → Result S Fault) where
  -- one item more changed it
  pub over_goes : (xs : List X) (i : ℕ) (x : X) (s t : S) → i < length xs → x ≡ get_or xs i x
      → f s (see x) ≡ Ok t → over f t (map see (drop (i + 1) xs)) ≡ over f s (map see (drop i xs))
  over_goes xs i x s t lt e h =
      sym (ap (λ (l : List X). over f s (map see l)) (split_at xs i x lt e) ∙ rw h refl)

  -- one item failed
  pub over_stops : (xs : List X) (i : ℕ) (x : X) (s : S) (e : Option Fault) (whole : Result S Fault)
      → i < length xs → x ≡ get_or xs i x → Fails e (f s (see x))
      → over f s (map see (drop i xs)) ≡ whole → Fails e whole
  over_stops xs i x s e whole lt h k g =
      fails_along e (over f s (map see (x ∷ drop (i + 1) xs))) whole
      (sym (ap (λ (l : List X). over f s (map see l)) (split_at xs i x lt h)) ∙ g)
      (over_fails f s (see x) (map see (drop (i + 1) xs)) e k)
