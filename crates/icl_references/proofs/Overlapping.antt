-- Rows that overlap, found by comparing each with those before it.
use Rattle.std.proofs.Common.{◌≡◌, Bool, true, false, cond, List, [], ◌∷◌, ◌++◌, length, Some, None, refl}
use Rattle.std.proofs.Common.{sym, ap, ◌∙◌, arith}
use Rattle.std.specs.Prelude.{not, ◌&&◌, ◌||◌, filter}
use Rattle.std.specs.List.{list_any}
use Rattle.std.specs.Str.{bytes_eq}
use Rattle.icl_declarations.specs.Values.{OpenBits}
use Rattle.icl_references.specs.Muxes.{meet, rows_meet, some_meet}
use Rattle.icl_references.specs.Overlaps.{AreRowsAlike, AreWide, from_left, has_key, is_closed, key_of}
use Rattle.icl_references.specs.Overlaps.{values_meet}
use Rattle.icl_references.specs.Roles.{Choice}
use Rattle.std.proofs.lemmas.List.Folds.{list_any-append}
use Rattle.ij_bits.proofs.Tests.{or_four}
use Rattle.ij_bits.proofs.Everywhere.{all_both}

-- ---- tests of lists

or_assoc : (a b c : Bool) → (a || (b || c)) ≡ ((a || b) || c)
or_assoc true b c = refl
or_assoc false b c = refl

or_swap : (a b c : Bool) → (a || (b || c)) ≡ (b || (a || c))
or_swap true true c = refl
or_swap true false c = refl
or_swap false b c = refl

none_any : {A : Type 0} (xs : List A) → list_any (λ (x : A). false) xs ≡ false
none_any [] = refl
none_any (x ∷ xs) = none_any xs

any_or : {A : Type 0} (p q : A → Bool) (xs : List A)
    → list_any (λ (x : A). p x || q x) xs ≡ (list_any p xs || list_any q xs)
any_or p q [] = refl
any_or p q (x ∷ xs) = ap (λ b. (p x || q x) || b) (any_or p q xs)
    ∙ or_four (p x) (q x) (list_any p xs) (list_any q xs)

any_turned : {A B : Type 0} (f : A → B → Bool) (xs : List A) (ys : List B)
    → list_any (λ (y : B). list_any (λ (x : A). f x y) xs) ys ≡ list_any (λ (x : A). list_any (f x) ys) xs
any_turned f [] ys = none_any ys
any_turned f (x ∷ xs) ys = any_or (f x) (λ y. list_any (λ x. f x y) xs) ys
    ∙ ap (λ b. list_any (f x) ys || b) (any_turned f xs ys)

-- ---- from the left

-- whether a value meets one of a row
abbrev meets_in : OpenBits → Choice → Bool
meets_in u r = list_any (meet u) r.values

left_is : (values : List OpenBits) (rows : List Choice) → from_left values rows
    ≡ (list_any (λ (u : OpenBits). list_any (meets_in u) rows) values || some_meet rows)
left_is values [] = sym (ap (λ b. b || false) (none_any values))
left_is values (r ∷ rows) =
    let x = λ (us : List OpenBits). list_any (λ (u : OpenBits). list_any (meets_in u) rows) us in
    let m = list_any (λ (u : OpenBits). meets_in u r) values in
    ap (λ b. values_meet values r.values || b) (left_is (values ++ r.values) rows)
    ∙ ap (λ b. b || (x (values ++ r.values) || some_meet rows)) (any_turned meet values r.values)
    ∙ ap (λ b. m || (b || some_meet rows)) (list_any-append (λ (u : OpenBits). list_any (meets_in u) rows)
    values r.values ∙ ap (λ b. x values || b) (sym (any_turned meets_in r.values rows)))
    ∙ ap (λ b. m || b) (sym (or_assoc (x values) (list_any (rows_meet r) rows) (some_meet rows)))
    ∙ or_assoc m (x values) (list_any (rows_meet r) rows || some_meet rows)
    ∙ ap (λ b. b || (list_any (rows_meet r) rows || some_meet rows))
    (sym (any_or (λ (u : OpenBits). meets_in u r) (λ (u : OpenBits). list_any (meets_in u) rows) values))

pub all_from_left : (rows : List Choice) → from_left [] rows ≡ some_meet rows
all_from_left rows = left_is [] rows

pub alike_next : (values : List OpenBits) (r : Choice) (rows : List Choice) → AreRowsAlike values (r ∷ rows)
    → AreRowsAlike (values ++ r.values) rows
alike_next values r rows a = record {
  width = a.width;
  values_wide = all_both (λ (v : OpenBits). length v
      ≡ a.width) values r.values a.values_wide (a.rows_wide.0);
  rows_wide = a.rows_wide.1;
}

-- ---- values without x

-- two of one width meet where they have one key
closed_meet : (u v : OpenBits) → length u ≡ length v → is_closed u ≡ true → is_closed v ≡ true
    → meet u v ≡ bytes_eq (key_of v) (key_of u)
closed_meet [] [] e f g = refl
closed_meet [] (b ∷ v) e f g = absurd (omega (arith, e))
closed_meet (a ∷ u) [] e f g = absurd (omega (arith, e))
closed_meet (None ∷ u) (b ∷ v) e f g = absurd cc
closed_meet (Some a ∷ u) (None ∷ v) e f g = absurd cc
closed_meet (Some true ∷ u) (Some true ∷ v) e f g = closed_meet u v (omega (arith, e)) f g
closed_meet (Some true ∷ u) (Some false ∷ v) e f g = refl
closed_meet (Some false ∷ u) (Some true ∷ v) e f g = refl
closed_meet (Some false ∷ u) (Some false ∷ v) e f g = closed_meet u v (omega (arith, e)) f g

module _ (v : OpenBits) (closed : is_closed v ≡ true) where
  abbrev meets_v : List OpenBits → Bool
  meets_v us = list_any (λ (u : OpenBits). meet u v) us

  abbrev with_x : List OpenBits → List OpenBits
  with_x us = filter (λ (u : OpenBits). not (is_closed u)) us

  pub by_key : (us : List OpenBits) → AreWide (length v) us
      → meets_v us ≡ (list_any (has_key (key_of v)) us || meets_v (with_x us))
  by_key [] w = refl
  by_key (u ∷ us) w = by_test (is_closed u) refl (by_key us w.1)
    where
      by_test : (b : Bool) → is_closed u ≡ b
          → meets_v us ≡ (list_any (has_key (key_of v)) us || meets_v (with_x us))
          → (meet u v || meets_v us) ≡ (((b && bytes_eq (key_of v) (key_of u)) || list_any
          (has_key (key_of v)) us) || meets_v (cond (not b) (u ∷ with_x us) (with_x us)))
      by_test true e h =
          ap (λ b. b || meets_v us) (closed_meet u v w.0 e closed)
          ∙ ap (λ b. bytes_eq (key_of v) (key_of u) || b) h
          ∙ or_assoc (bytes_eq (key_of v) (key_of u)) (list_any (has_key (key_of v)) us) (meets_v (with_x us))
      by_test false e h = ap (λ b. meet u v || b) h
          ∙ or_swap (meet u v) (list_any (has_key (key_of v)) us) (meets_v (with_x us))

  pub key_found : (us : List OpenBits) → AreWide (length v) us
      → list_any (has_key (key_of v)) us ≡ true → true ≡ meets_v us
  key_found us w h = sym (by_key us w ∙ ap (λ b. b || meets_v (with_x us)) h)

  pub key_missing : (us : List OpenBits) → AreWide (length v) us
      → list_any (has_key (key_of v)) us ≡ false → meets_v (with_x us) ≡ meets_v us
  key_missing us w h = sym (by_key us w ∙ ap (λ b. b || meets_v (with_x us)) h)
