-- What lists contain, and what holds of all of it.
use Rattle.std.proofs.Common.{◌≡◌, Bool, true, false, cond, List, [], ◌∷◌, find, Option, Some, None, ap}
use Rattle.std.proofs.Common.{subst, Contains}
use Rattle.std.specs.List.{AllByRecursion}
use Rattle.std.proofs.lemmas.List.Elements.{All-from_recursion, All-contains}
use Rattle.ij_bits.proofs.Contained.{first_in, later_in}

-- ---- what a list contains

pub all_in : {A : Type 0} (P : A → Type 0) (xs : List A) (x : A) → AllByRecursion P xs → Contains xs x → P x
all_in P xs x all h = All-contains P xs x (All-from_recursion P xs all) h

pub find_in : {A : Type 0} (p : A → Bool) (xs : List A) (y : A) → find p xs ≡ Some y → Contains xs y
find_in p [] y h = absurd cc
find_in {A} p (x ∷ xs) y h = by_test (p x) h (λ g. find_in p xs y g)
  where
    value : A → Option A → A
    value d None = d
    value d (Some z) = z

    by_test : (b : Bool) → cond b (Some x) (find p xs) ≡ Some y
        → (find p xs ≡ Some y → Contains xs y) → Contains (x ∷ xs) y
    by_test true g again = subst (λ (z : A). Contains (x ∷ xs) z) (ap (value x) g) (first_in x xs)
    by_test false g again = later_in x y xs (again g)
