-- What a list contains.
use Rattle.std.proofs.Common.{◌≡◌, ◌⊎◌, inl, inr, zero, suc, List, [], ◌∷◌, map, refl, sym, ap, arith}
use Rattle.std.specs.Prelude.{All, Contains}

pub none_in : {A : Type 0} (x : A) → Contains [] x → ⊥
none_in x (k, l, e) = omega (arith, l)

pub first_in : {A : Type 0} (x : A) (xs : List A) → Contains (x ∷ xs) x
first_in x xs = (0, omega arith, refl)

pub later_in : {A : Type 0} (x y : A) (xs : List A) → Contains xs y → Contains (x ∷ xs) y
later_in x y xs (k, l, e) = (suc k, omega (arith, l), e)

pub cases_in : {A : Type 0} (x y : A) (xs : List A) → Contains (x ∷ xs) y → (x ≡ y) ⊎ Contains xs y
cases_in x y xs (zero, l, e) = inl e
cases_in x y xs (suc k, l, e) = inr (k, omega (arith, l), e)

pub only_in : {A : Type 0} (x c : A) → Contains (x ∷ []) c → c ≡ x
only_in x c (zero, l, e) = sym e
only_in x c (suc n, l, e) = absurd (omega (arith, l))

pub map_in : {A B : Type 0} (f : A → B) (xs : List A) (x : A) → Contains xs x → Contains (map f xs) (f x)
map_in f [] x (k, l, e) = absurd (omega (arith, l))
map_in f (y ∷ ys) x (zero, l, e) = (zero, omega arith, ap f e)
map_in f (y ∷ ys) x (suc k, l, e) =
    let (j, within, at) = map_in f ys x (k, omega (arith, l), e) in
    (suc j, omega (arith, within), at)

pub all_contained : {A : Type 0} (P : A → Type 0) (xs : List A) → ((x : A) → Contains xs x → P x) → All P xs
all_contained P [] h k d l = absurd (omega (arith, l))
all_contained P (y ∷ ys) h zero d l = h y (0, omega arith, refl)
all_contained P (y ∷ ys) h (suc k) d l =
    all_contained P ys (λ x (i, j, q). h x (suc i, omega (arith, j), q)) k d (omega (arith, l))
