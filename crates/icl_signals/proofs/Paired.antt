-- Lists side by side: what a function gives for each item, as a list seen by a view.
use Rattle.std.proofs.Common.{◌≡◌, ℕ, zero, suc, ◌<◌, Bool, true, false, List, [], ◌∷◌, map, length, filter}
use Rattle.std.proofs.Common.{Some, Result, Ok, refl, ap, subst, ◌∙◌, arith}
use Rattle.std.specs.Prelude.{slice_get}
use Rattle.std.specs.List.{AllByRecursion}
use Rattle.icl_declarations.specs.Faults.{◌>>=◌, each}
use Rattle.icl_frames.proofs.Answering.{both, ok_is}
use Rattle.std.proofs.lemmas.Option.{same_Some}
use Rattle.ij_bits.proofs.Lists.{head_same, tail_same}

-- ---- what holds of each item

module _ {A : Type 0} (P : A → Type 0) where
  pub all_at : (xs : List A) (k : ℕ) (x : A) → AllByRecursion P xs → slice_get xs k ≡ Some x → P x
  all_at [] k x h e = absurd cc
  all_at (y ∷ xs) zero x h e = subst P (same_Some y x e) h.0
  all_at (y ∷ xs) (suc k) x h e = all_at xs k x h.1 e

  pub all_kept : (test : A → Bool) (xs : List A) → AllByRecursion P xs → AllByRecursion P (filter test xs)
  all_kept test [] h = tt
  all_kept test (x ∷ xs) h = by_test (test x) refl (all_kept test xs h.1)
    where
      by_test : (b : Bool) → test x ≡ b → AllByRecursion P (filter test xs)
          → AllByRecursion P (filter test (x ∷ xs))
      by_test true e g = rw e (h.0, g)
      by_test false e g = rw e g

pub all_passing : {A : Type 0} (test : A → Bool) (xs : List A)
    → AllByRecursion (λ x. test x ≡ true) (filter test xs)
all_passing test [] = tt
all_passing {A} test (x ∷ xs) = by_test (test x) refl (all_passing test xs)
  where
    by_test : (b : Bool) → test x ≡ b → AllByRecursion (λ y. test y ≡ true) (filter test xs)
        → AllByRecursion (λ y. test y ≡ true) (filter test (x ∷ xs))
    by_test true e g = rw e (e, g)
    by_test false e g = rw e g

module _ {A : Type 0} (P Q : A → Type 0) where
  pub all_weaker : ((x : A) → P x → Q x) → (xs : List A) → AllByRecursion P xs → AllByRecursion Q xs
  all_weaker f [] h = tt
  all_weaker f (x ∷ xs) h = (f x h.0, all_weaker f xs h.1)

  pub all_and : (xs : List A) → AllByRecursion P xs → AllByRecursion Q xs → AllByRecursion (λ x. P x × Q x) xs
  all_and [] h g = tt
  all_and (x ∷ xs) h g = ((h.0, g.0), all_and xs h.1 g.1)

pub all_of_map : {A B : Type 0} (f : A → B) (P : B → Type 0) (xs : List A)
    → AllByRecursion (λ x. P (f x)) xs → AllByRecursion P (map f xs)
all_of_map f P [] h = tt
all_of_map f P (x ∷ xs) h = (h.0, all_of_map f P xs h.1)

pub all_in_map : {A B : Type 0} (f : A → B) (P : B → Type 0) (xs : List A)
    → AllByRecursion P (map f xs) → AllByRecursion (λ x. P (f x)) xs
all_in_map f P [] h = tt
all_in_map f P (x ∷ xs) h = (h.0, all_in_map f P xs h.1)

-- ---- pairs

module _ {A B : Type 0} (R : A → B → Type 0) where
  abbrev pub Paired : List A → List B → Type 0
  Paired [] [] = Unit {0}
  Paired [] (y ∷ ys) = ⊥
  Paired (x ∷ xs) [] = ⊥
  Paired (x ∷ xs) (y ∷ ys) = R x y × Paired xs ys

  pub paired_length : (xs : List A) (ys : List B) → Paired xs ys → length xs ≡ length ys
  paired_length [] [] h = refl
  paired_length [] (y ∷ ys) h = absurd h
  paired_length (x ∷ xs) [] h = absurd h
  paired_length (x ∷ xs) (y ∷ ys) h = ap suc (paired_length xs ys h.1)

  pub paired_maps : {C : Type 0} (f : A → C) (g : B → C)
      → ((x : A) (y : B) → R x y → f x ≡ g y) → (xs : List A) (ys : List B)
      → Paired xs ys → map f xs ≡ map g ys
  paired_maps f g e [] [] h = refl
  paired_maps f g e [] (y ∷ ys) h = absurd h
  paired_maps f g e (x ∷ xs) [] h = absurd h
  paired_maps f g e (x ∷ xs) (y ∷ ys) h =
      ap (λ l. f x ∷ l) (paired_maps f g e xs ys h.1) ∙ ap (λ z. z ∷ map g ys) (e x y h.0)

module _ {A B : Type 0} (P : A → Type 0) (R : A → B → Type 0) where
  pub paired_all : (Q : B → Type 0) → ((x : A) (y : B) → P x → R x y → Q y)
      → (xs : List A) (ys : List B) → AllByRecursion P xs
      → Paired R xs ys → AllByRecursion Q ys
  paired_all Q f [] [] p h = tt
  paired_all Q f [] (y ∷ ys) p h = absurd h
  paired_all Q f (x ∷ xs) [] p h = absurd h
  paired_all Q f (x ∷ xs) (y ∷ ys) p h = (f x y p.0 h.0, paired_all Q f xs ys p.1 h.1)

-- what is given for each item
pub each_paired : {A B E : Type 0} (f : A → Result B E) (xs : List A) (ys : List B) → each f xs ≡ Ok ys
    → Paired (λ x y. f x ≡ Ok y) xs ys
each_paired f [] [] h = tt
each_paired f [] (y ∷ ys) h = absurd cc
each_paired f (x ∷ xs) [] h =
    let a = both (f x) (λ z. each f xs >>= λ zs. Ok (z ∷ zs)) [] h in
    let b = both (each f xs) (λ zs. Ok (a.first ∷ zs)) [] a.then' in
    let e = b.then' in
    absurd cc
each_paired f (x ∷ xs) (y ∷ ys) h =
    let a = both (f x) (λ z. each f xs >>= λ zs. Ok (z ∷ zs)) (y ∷ ys) h in
    let b = both (each f xs) (λ zs. Ok (a.first ∷ zs)) (y ∷ ys) a.then' in
    let e = ok_is (a.first ∷ b.first) (y ∷ ys) b.then' in (
      a.is ∙ ap (λ z. Ok z) (head_same a.first y b.first ys e),
      each_paired f xs ys (b.is ∙ ap (λ l. Ok l) (tail_same a.first y b.first ys e)),
    )

pub mapped_paired : {A B : Type 0} (f : A → B) (xs : List A) (ys : List B) → map f xs ≡ ys
    → Paired (λ x y. f x ≡ y) xs ys
mapped_paired f [] [] h = tt
mapped_paired f [] (y ∷ ys) h = absurd cc
mapped_paired f (x ∷ xs) [] h = absurd cc
mapped_paired f (x ∷ xs) (y ∷ ys) h =
    (head_same (f x) y (map f xs) ys h, mapped_paired f xs ys (tail_same (f x) y (map f xs) ys h))

-- ---- places

pub record IsAtPlace {A : Type 0} (xs : List A) (k : ℕ) : Type 0 where
  pub item : A
  pub is : slice_get xs k ≡ Some item

pub at_place : {A : Type 0} (xs : List A) (k : ℕ) → k < length xs → IsAtPlace xs k
at_place [] k lt = absurd (omega (arith, lt))
at_place (x ∷ xs) zero lt = record { item = x; is = refl }
at_place (x ∷ xs) (suc k) lt =
    let p = at_place xs k (omega (arith, lt)) in record { item = p.item; is = p.is }
