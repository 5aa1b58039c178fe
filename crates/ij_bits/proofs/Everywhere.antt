-- What holds of each element of a list, of its parts and of what is put together.
use Rattle.std.proofs.Common.{◌≡◌, ℕ, zero, suc, Bool, true, false, List, [], ◌∷◌, ◌++◌, Option, Some, None}
use Rattle.std.proofs.Common.{refl, ap, subst}
use Rattle.std.specs.Prelude.{All, filter, slice_get}
use Rattle.std.specs.List.{AllByRecursion}
use Rattle.std.proofs.lemmas.List.Elements.{All-head, All-tail, All-nil, All-cons}

pub all_both : {A : Type 0} (P : A → Type 0) (xs ys : List A) → AllByRecursion P xs
    → AllByRecursion P ys → AllByRecursion P (xs ++ ys)
all_both P [] ys p q = q
all_both P (x ∷ xs) ys p q = (p.0, all_both P xs ys p.1 q)

pub all_one : {A : Type 0} (P : A → Type 0) (xs : List A) (x : A)
    → AllByRecursion P xs → P x → AllByRecursion P (xs ++ x ∷ [])
all_one P xs x all p = all_both P xs (x ∷ []) all (p, tt)

pub all_front : {A : Type 0} (P : A → Type 0) (xs ys : List A)
    → AllByRecursion P (xs ++ ys) → AllByRecursion P xs
all_front P [] ys h = tt
all_front P (x ∷ xs) ys h = (h.0, all_front P xs ys h.1)

pub all_back : {A : Type 0} (P : A → Type 0) (xs ys : List A)
    → AllByRecursion P (xs ++ ys) → AllByRecursion P ys
all_back P [] ys h = h
all_back P (x ∷ xs) ys h = all_back P xs ys h.1

pub all_at : {A : Type 0} (P : A → Type 0) (xs : List A) (i : ℕ) (x : A)
    → AllByRecursion P xs → slice_get xs i ≡ Some x → P x
all_at P [] i x h e = absurd cc
all_at {A} P (y ∷ xs) zero x h e = subst P (ap value_of e) h.0
  where
    value_of : Option A → A
    value_of None = y
    value_of (Some z) = z
all_at P (y ∷ xs) (suc i) x h e = all_at P xs i x h.1 e

pub all_kept : {A : Type 0} (P : A → Type 0) (test : A → Bool) (xs : List A)
    → AllByRecursion P xs → AllByRecursion P (filter test xs)
all_kept P test [] h = tt
all_kept {A} P test (x ∷ xs) h = by_test (test x) refl (all_kept P test xs h.1)
  where
    by_test : (b : Bool) → test x ≡ b → AllByRecursion P (filter test xs)
        → AllByRecursion P (filter test (x ∷ xs))
    by_test true e g = rw e (h.0, g)
    by_test false e g = rw e g

-- ---- the same of `All`

pub front_holds : {A : Type 0} (P : A → Type 0) (xs ys : List A) → All P (xs ++ ys) → All P xs
front_holds P [] ys a = All-nil P
front_holds P (x ∷ xs) ys a =
    All-cons P x xs (All-head P x (xs ++ ys) a) (front_holds P xs ys (All-tail P x (xs ++ ys) a))

pub middle_holds : {A : Type 0} (P : A → Type 0) (front : List A) (x : A) (back : List A)
    → All P (front ++ x ∷ back) → P x
middle_holds P [] x back all = All-head P x back all
middle_holds P (y ∷ ys) x back all = middle_holds P ys x back (All-tail P y (ys ++ x ∷ back) all)
