-- Lists in which nothing is twice.
use Rattle.std.proofs.Common.{◌≡◌, ◌⊎◌, inl, inr, List, [], ◌∷◌, ◌++◌, sym, subst}
use Rattle.std.specs.Prelude.{Contains}
use Rattle.std.proofs.lemmas.List.Elements.{Contains-append_cases}
use Rattle.ij_bits.specs.Different.{AreDifferent}
use Rattle.ij_bits.proofs.Contained.{none_in, first_in, later_in, cases_in}

pub different_more : {A : Type 0} (xs ys : List A) → AreDifferent xs → AreDifferent ys
    → ((z : A) → Contains xs z → Contains ys z → ⊥) → AreDifferent (xs ++ ys)
different_more [] ys d e apart = e
different_more {A} (x ∷ xs) ys d e apart = (
  λ h. by_place (Contains-append_cases xs ys x h),
  different_more xs ys d.1 e (λ z k l. apart z (later_in x z xs k) l),
)
  where
    by_place : Contains xs x ⊎ Contains ys x → ⊥
    by_place (inl k) = d.0 k
    by_place (inr k) = apart x (first_in x xs) k

pub different_one : {A : Type 0} (xs : List A) (y : A) → AreDifferent xs
    → (Contains xs y → ⊥) → AreDifferent (xs ++ y ∷ [])
different_one {A} xs y d new =
    different_more xs (y ∷ []) d (λ h. none_in y h, tt) (λ z k l. by_place z k (cases_in y z [] l))
  where
    by_place : (z : A) → Contains xs z → (y ≡ z) ⊎ Contains [] z → ⊥
    by_place z k (inl e) = new (subst (Contains xs) (sym e) k)
    by_place z k (inr l) = none_in z l
