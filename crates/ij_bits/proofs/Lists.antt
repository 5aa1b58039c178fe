-- Lists and optional values, beside what std's lemmas say of them.
use Rattle.std.proofs.Common.{◌≡◌, ℕ, zero, suc, ◌+◌, ◌<◌, Bool, true, false, List, [], ◌∷◌, length, map}
use Rattle.std.proofs.Common.{take, drop, get_or, Option, Some, None, refl, sym, ap, ◌∙◌, arith}
use Rattle.std.specs.Prelude.{All, IsSome, ◌||◌, filter, flat_map, option_map, slice_get}
use Rattle.std.specs.List.{list_any}
use Rattle.std.specs.Option.{option_and_then}
use Rattle.std.proofs.lemmas.Bool.{true≢false, or_parts}
use Rattle.std.proofs.lemmas.List.{drop_more}
use Rattle.std.proofs.lemmas.List.Elements.{All-nil, All-cons}
use Rattle.std.proofs.lemmas.List.Folds.{list_any-append, list_any_more}
use Rattle.std.proofs.lemmas.Option.{none-some, same_Some}

-- ---- a first element

pub head_same : {A : Type 0} (x y : A) (xs ys : List A) → x ∷ xs ≡ y ∷ ys → x ≡ y
head_same x y xs ys e = cc

pub tail_same : {A : Type 0} (x y : A) (xs ys : List A) → x ∷ xs ≡ y ∷ ys → xs ≡ ys
tail_same x y xs ys e = cc

pub no_head : {A : Type 0} (x : A) (xs : List A) → [] ≡ x ∷ xs → ⊥
no_head x xs e = cc

pub no_cons : {A : Type 0} (x : A) (xs : List A) → x ∷ xs ≡ [] → ⊥
no_cons x xs e = cc

pub none_below : 0 < length {A = Bool} [] → ⊥
none_below h = omega arith

-- ---- elements by their place

pub split_at : {A : Type 0} (xs : List A) (i : ℕ) (x : A) → i < length xs
    → x ≡ get_or xs i x → drop i xs ≡ x ∷ drop (i + 1) xs
split_at xs i x h is = drop_more xs i x h ∙ ap (λ y. y ∷ drop (i + 1) xs) (sym is)

pub get_mapped : {A B : Type 0} (f : A → B) (d : B) (xs : List A) (k : ℕ) (x : A)
    → slice_get xs k ≡ Some x → get_or (map f xs) k d ≡ f x
get_mapped f d [] k x h = absurd cc
get_mapped f d (y ∷ xs) zero x h = ap f (same_Some y x h)
get_mapped f d (y ∷ xs) (suc k) x h = get_mapped f d xs k x h

-- ---- one function for another, two in a row

pub map_same : {A B : Type 0} (f g : A → B) → ((x : A) → f x ≡ g x) → (xs : List A) → map f xs ≡ map g xs
map_same f g h [] = refl
map_same f g h (x ∷ xs) = ap (λ y. y ∷ map f xs) (h x) ∙ ap (λ ys. g x ∷ ys) (map_same f g h xs)

pub map_twice : {A B C : Type 0} (f : B → C) (g : A → B) (xs : List A)
    → map f (map g xs) ≡ map (λ x. f (g x)) xs
map_twice f g [] = refl
map_twice f g (x ∷ xs) = ap (λ l. f (g x) ∷ l) (map_twice f g xs)

pub filter_twice : {A : Type 0} (test also : A → Bool)
    → ((x : A) → also x ≡ true → test x ≡ true) → (xs : List A)
    → filter also (filter test xs) ≡ filter also xs
filter_twice test also f [] = refl
filter_twice {A} test also f (x ∷ xs) = by_test (test x) refl (also x) refl (filter_twice test also f xs)
  where
    by_test : (b : Bool) → test x ≡ b → (c : Bool) → also x ≡ c
        → filter also (filter test xs) ≡ filter also xs
        → filter also (filter test (x ∷ xs)) ≡ filter also (x ∷ xs)
    by_test true e true d h = rw (e, d) (ap (λ l. x ∷ l) h)
    by_test true e false d h = rw (e, d) h
    by_test false e true d h = absurd (true≢false (sym (f x d) ∙ e))
    by_test false e false d h = rw (e, d) h

-- ---- some element passes

pub any_same : {A : Type 0} (f g : A → Bool) → ((x : A) → f x ≡ g x)
    → (xs : List A) → list_any f xs ≡ list_any g xs
any_same f g h [] = refl
any_same f g h (x ∷ xs) = ap (λ t. t || list_any f xs) (h x) ∙ ap (λ t. g x || t) (any_same f g h xs)

pub any_flat : {A B : Type 0} (p : B → Bool) (f : A → List B) (xs : List A)
    → list_any p (flat_map f xs) ≡ list_any (λ x. list_any p (f x)) xs
any_flat p f [] = refl
any_flat p f (x ∷ xs) = list_any-append p (f x) (flat_map f xs)
    ∙ ap (λ b. list_any p (f x) || b) (any_flat p f xs)

pub any_false : {A : Type 0} (f : A → Bool) (xs : List A) → list_any f xs ≡ false → All (λ x. f x ≡ false) xs
any_false f [] e = All-nil (λ x. f x ≡ false)
any_false f (x ∷ xs) e =
    let parts = or_parts (f x) (list_any f xs) e in
    All-cons (λ x. f x ≡ false) x xs parts.0 (any_false f xs parts.1)

pub any_word : {A : Type 0} (p : A → Bool) (xs : List A) (i : ℕ) (d : A) (before here now : Bool)
    → i < length xs
    → before ≡ list_any p (take i xs) → here ≡ p (get_or xs i d)
    → now ≡ (before || here) → now ≡ list_any p (take (i + 1) xs)
any_word p xs i d before here now within so_far is both =
    both ∙ ap (λ t. t || here) so_far ∙ ap (λ t. list_any p (take i xs) || t) is
    ∙ sym (list_any_more p xs i d within)

-- ---- what is there

pub map_some : {A B : Type 0} (f : A → B) (o : Option A) (y : B)
    → option_map f o ≡ Some y → (x : A) × (o ≡ Some x) × (f x ≡ y)
map_some f None y e = absurd (none-some y e)
map_some f (Some x) y e = (x, refl, same_Some (f x) y e)

pub then_some : {A B : Type 0} (f : A → Option B) (o : Option A) (y : B) → option_and_then f o ≡ Some y
    → (x : A) × (o ≡ Some x) × (f x ≡ Some y)
then_some f None y e = absurd (none-some y e)
then_some f (Some x) y e = (x, refl, e)

pub some_of : {A : Type 0} (o : Option A) → IsSome o → (x : A) × (o ≡ Some x)
some_of None e = absurd (true≢false (sym e))
some_of (Some x) e = (x, refl)
