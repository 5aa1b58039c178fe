-- Names that are in a list, and lists in which none is twice.
use Rattle.std.proofs.Common.{◌≡◌, ◌⊎◌, inl, inr, ℕ, zero, suc, ◌+◌, ◌-◌, ◌<◌, ◌≤◌, Bool, true, false, cond}
use Rattle.std.proofs.Common.{List, [], ◌∷◌, ◌++◌, length, Option, Some, None, get_or, refl, ap, sym, ◌∙◌}
use Rattle.std.proofs.Common.{arith}
use Rattle.std.specs.Prelude.{Contains, IfSome, is_some, unwrap_or}
use Rattle.std.specs.Str.{bytes_eq}
use Rattle.std.proofs.lemmas.List.Elements.{Contains-append_left, Contains-append_right}
use Rattle.std.proofs.lemmas.List.Elements.{Contains-append_cases}
use Rattle.ij_bits.specs.Different.{AreDifferent}
use Rattle.table_file.specs.Tables.{named_from, named, stands_in}
use Rattle.ij_bits.proofs.Tests.{not_both, or_left_false, or_right_false}
use Rattle.ij_text.proofs.EqualTexts.{bytes_are, bytes_same}

-- ---- a name that doesn't stand there

pub not_there : (n : List ℕ) (xs : List (List ℕ)) → stands_in n xs ≡ false → Contains xs n → ⊥
not_there n [] h (k, lt, e) = absurd (omega (arith, lt))
not_there n (x ∷ xs) h (zero, lt, e) =
    not_both (bytes_eq n x) (bytes_same n x (sym e)) (or_left_false (bytes_eq n x) (stands_in n xs) h)
not_there n (x ∷ xs) h (suc k, lt, e) =
    not_there n xs (or_right_false (bytes_eq n x) (stands_in n xs) h) (k, omega (arith, lt), e)

-- one more name, at any place
pub one_more_name : (xs ys : List (List ℕ)) (n : List ℕ) → AreDifferent (xs ++ ys)
    → stands_in n (xs ++ ys) ≡ false → AreDifferent (xs ++ n ∷ ys)
one_more_name [] ys n h out = (not_there n ys out, h)
one_more_name (x ∷ xs) ys n h out = (
  (λ c. elsewhere (Contains-append_cases xs (n ∷ ys) x c)),
  one_more_name xs ys n h.1 (or_right_false (bytes_eq n x) (stands_in n (xs ++ ys)) out),
)
  where
    after : Contains (n ∷ ys) x → ⊥
    after (zero, lt, e) =
        not_both (bytes_eq n x) (bytes_same n x e) (or_left_false (bytes_eq n x) (stands_in n (xs ++ ys)) out)
    after (suc k, lt, e) = h.0 (Contains-append_right xs ys x (k, omega (arith, lt), e))

    elsewhere : (Contains xs x ⊎ Contains (n ∷ ys) x) → ⊥
    elsewhere (inl c) = h.0 (Contains-append_left xs ys x c)
    elsewhere (inr c) = after c

-- ---- the number of a name

pub record IsNumber (name : List ℕ) (list : List (List ℕ)) (k : ℕ) : Type 0 where
  pub within : k < length list
  pub at : get_or list k [] ≡ name

-- counted from j on
record IsNumberFrom (j : ℕ) (name : List ℕ) (list : List (List ℕ)) (k : ℕ) : Type 0 where
  low : j ≤ k
  within : k - j < length list
  at : get_or list (k - j) [] ≡ name

number_from : (j : ℕ) (name : List ℕ) (list : List (List ℕ))
    → IfSome (named_from j name list) (IsNumberFrom j name list)
number_from j name [] = tt
number_from j name (x ∷ xs) =
    one (bytes_eq name x) (named_from (j + 1) name xs) (bytes_are name x) (number_from (j + 1) name xs)
  where
    later : (k : ℕ) → IsNumberFrom (j + 1) name xs k → IsNumberFrom j name (x ∷ xs) k
    later k h =
        let next : k - j ≡ suc (k - (j + 1)) = omega (arith, h.low) in
        record {
          low = omega (arith, h.low);
          within = omega (arith, next, h.within);
          at = ap (λ i. get_or (x ∷ xs) i []) next ∙ h.at;
        }

    one : (b : Bool) (o : Option ℕ) → (b ≡ true → name ≡ x) → IfSome o (IsNumberFrom (j + 1) name xs)
        → IfSome (cond b (Some j) o) (IsNumberFrom j name (x ∷ xs))
    one true o same h =
        let here : j - j ≡ 0 = omega arith in
        record {
          low = omega arith;
          within = omega (arith, here);
          at = ap (λ i. get_or (x ∷ xs) i []) here ∙ sym (same refl);
        }
    one false None same h = tt
    one false (Some k) same h = later k h

pub number_of_name : (name : List ℕ) (list : List (List ℕ)) → IfSome (named name list) (IsNumber name list)
number_of_name name list = one (named name list) (number_from 0 name list)
  where
    one : (o : Option ℕ) → IfSome o (IsNumberFrom 0 name list) → IfSome o (IsNumber name list)
    one None h = tt
    one (Some k) h =
        let same : k - 0 ≡ k = omega arith in
        record { within = omega (arith, h.within); at = ap (λ i. get_or list i []) (sym same) ∙ h.at }

-- a name that is there has its number
pub there : (name : List ℕ) (list : List (List ℕ)) → is_some (named name list) ≡ true
    → IsNumber name list (unwrap_or (named name list) 0)
there name list h = one (named name list) (number_of_name name list) h
  where
    one : (o : Option ℕ) → IfSome o (IsNumber name list)
        → is_some o ≡ true → IsNumber name list (unwrap_or o 0)
    one None n h = absurd cc
    one (Some k) n h = n
