-- Tests over a list, place by place.
use Rattle.std.proofs.Common.{◌≡◌, ℕ, ◌+◌, ◌<◌, ◌≤◌, Bool, true, false, List, [], ◌∷◌, length, drop, get_or}
use Rattle.std.proofs.Common.{Option, None, refl, sym, ap, ◌∙◌}
use Rattle.std.specs.Prelude.{◌||◌, ◌&&◌, not, cond, filter, map}
use Rattle.std.specs.List.{list_any, list_all}
use Rattle.std.proofs.lemmas.List.{drop_more, drop_all}
use Rattle.tap_machine.specs.Play.{is_empty}
use Rattle.svf_audit.specs.Audit.{same_expect, same_expects}

module _ {A : Type 0} (p : A → Bool) where
  pub any_step : (xs : List A) (k : ℕ) (d : A) → k < length xs
      → list_any p (drop k xs) ≡ (p (get_or xs k d) || list_any p (drop (k + 1) xs))
  any_step xs k d l = ap (list_any p) (drop_more xs k d l)

  pub any_end : (xs : List A) (k : ℕ) → length xs ≤ k → list_any p (drop k xs) ≡ false
  any_end xs k l = ap (list_any p) (drop_all k xs l)

  pub any_here : (xs : List A) (k : ℕ) (d : A) → k < length xs
      → p (get_or xs k d) ≡ true → list_any p (drop k xs) ≡ true
  any_here xs k d l e = any_step xs k d l ∙ ap (λ b. b || list_any p (drop (k + 1) xs)) e

  pub any_next : (xs : List A) (k : ℕ) (d : A) → k < length xs → p (get_or xs k d) ≡ false
      → list_any p (drop (k + 1) xs) ≡ list_any p (drop k xs)
  any_next xs k d l e = sym (any_step xs k d l ∙ ap (λ b. b || list_any p (drop (k + 1) xs)) e)

  pub all_step : (xs : List A) (k : ℕ) (d : A) → k < length xs
      → list_all p (drop k xs) ≡ (p (get_or xs k d) && list_all p (drop (k + 1) xs))
  all_step xs k d l = ap (list_all p) (drop_more xs k d l)

  pub all_end : (xs : List A) (k : ℕ) → length xs ≤ k → list_all p (drop k xs) ≡ true
  all_end xs k l = ap (list_all p) (drop_all k xs l)

  pub all_here : (xs : List A) (k : ℕ) (d : A) → k < length xs
      → p (get_or xs k d) ≡ false → list_all p (drop k xs) ≡ false
  all_here xs k d l e = all_step xs k d l ∙ ap (λ b. b && list_all p (drop (k + 1) xs)) e

  pub all_next : (xs : List A) (k : ℕ) (d : A) → k < length xs → p (get_or xs k d) ≡ true
      → list_all p (drop (k + 1) xs) ≡ list_all p (drop k xs)
  all_next xs k d l e = sym (all_step xs k d l ∙ ap (λ b. b && list_all p (drop (k + 1) xs)) e)

module _ {B : Type 0} (f : B → Option Bool) where
  pub same_step : (xs : List (Option Bool)) (ys : List B) (k : ℕ) (d : B) → k < length xs → k < length ys
      → same_expects (drop k xs) (map f (drop k ys)) ≡ (same_expect (get_or xs k None)
      (f (get_or ys k d)) && same_expects (drop (k + 1) xs) (map f (drop (k + 1) ys)))
  same_step xs ys k d l m =
      ap (λ zs. same_expects zs (map f (drop k ys))) (drop_more xs k None l)
      ∙ ap (λ zs. same_expects (get_or xs k None ∷ drop (k + 1) xs) (map f zs)) (drop_more ys k d m)

  pub same_end : (xs : List (Option Bool)) (ys : List B) (k : ℕ) → length xs ≤ k → length ys ≤ k
      → same_expects (drop k xs) (map f (drop k ys)) ≡ true
  same_end xs ys k l m =
      ap (λ zs. same_expects zs (map f (drop k ys))) (drop_all k xs l)
      ∙ ap (λ zs. same_expects [] (map f zs)) (drop_all k ys m)

-- ---- what a filter keeps

pub none_kept : {A : Type 0} (p : A → Bool) (xs : List A) → is_empty (filter p xs) ≡ not (list_any p xs)
none_kept p [] = refl
none_kept p (x ∷ xs) = by (p x) refl (none_kept p xs)
  where
    by : (t : Bool) → p x ≡ t → is_empty (filter p xs) ≡ not (list_any p xs)
        → is_empty (filter p (x ∷ xs)) ≡ not (list_any p (x ∷ xs))
    by true e f = ap (λ b. is_empty (cond b (x ∷ filter p xs) (filter p xs))) e
        ∙ sym (ap (λ b. not (b || list_any p xs)) e)
    by false e f = ap (λ b. is_empty (cond b (x ∷ filter p xs) (filter p xs))) e ∙ f
        ∙ sym (ap (λ b. not (b || list_any p xs)) e)

pub all_kept : {A : Type 0} (p q : A → Bool) (xs : List A)
    → list_all q (filter p xs) ≡ list_all (λ x. not (p x) || q x) xs
all_kept p q [] = refl
all_kept p q (x ∷ xs) = by (p x) refl (all_kept p q xs)
  where
    by : (t : Bool) → p x ≡ t → list_all q (filter p xs) ≡ list_all (λ y. not (p y) || q y) xs
        → list_all q (filter p (x ∷ xs)) ≡ list_all (λ y. not (p y) || q y) (x ∷ xs)
    by true e f =
        ap (λ b. list_all q (cond b (x ∷ filter p xs) (filter p xs))) e
        ∙ ap (λ r. q x && r) f
        ∙ sym (ap (λ b. (not b || q x) && list_all (λ y. not (p y) || q y) xs) e)
    by false e f =
        ap (λ b. list_all q (cond b (x ∷ filter p xs) (filter p xs))) e
        ∙ f
        ∙ sym (ap (λ b. (not b || q x) && list_all (λ y. not (p y) || q y) xs) e)
