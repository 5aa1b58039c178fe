-- A number is too wide where it has a 1 or an x at the width or above.
use Rattle.std.proofs.Common.{◌≡◌, ◌≢◌, ℕ, zero, suc, ◌^◌, ◌<◌, ◌≤◌, Bool, true, false, cond, List, [], ◌∷◌}
use Rattle.std.proofs.Common.{length, drop, get_or, Option, Some, None, refl, ap, arith}
use Rattle.std.specs.Prelude.{nat_lt, not}
use Rattle.std.proofs.lemmas.Bool.{ltb-false, ltb-true}
use Rattle.ij_text.specs.declared.Place.{Place}
use Rattle.ij_text.specs.Numbers.{Written, InDecimal, InBits, IsWide, bits_in}
use Rattle.pdl_targets.specs.Targets.{Is, Fails, IsValueWide, all_zero, fitted, is_wide}

-- some item that isn't 0, from an index on
some_not_zero : (bits : List (Option Bool)) (from k : ℕ) → from ≤ k → k < length bits
    → get_or bits k (Some false) ≢ Some false → all_zero (drop from bits) ≡ false
some_not_zero [] from k h l n = absurd (omega (arith, l))
some_not_zero (b ∷ bits) (suc from) zero h l n = absurd (omega (arith, h))
some_not_zero (b ∷ bits) (suc from) (suc k) h l n =
    some_not_zero bits from k (omega (arith, h)) (omega (arith, l)) n
some_not_zero (None ∷ bits) zero k h l n = refl
some_not_zero (Some true ∷ bits) zero k h l n = refl
some_not_zero (Some false ∷ bits) zero zero h l n = absurd (n refl)
some_not_zero (Some false ∷ bits) zero (suc k) h l n =
    some_not_zero bits zero k (omega arith) (omega (arith, l)) n

abbrev is_zero : Option Bool → Bool
is_zero None = false
is_zero (Some true) = false
is_zero (Some false) = true

abbrev NotZero : List (Option Bool) → ℕ → Type 0
NotZero bits from = (k : ℕ) × (from ≤ k) × (k < length bits) × (get_or bits k (Some false) ≢ Some false)

one_after : (b : Option Bool) (bits : List (Option Bool)) (from : ℕ)
    → NotZero bits from → NotZero (b ∷ bits) (suc from)
one_after b bits from (k, h, l, n) = (suc k, omega (arith, h), omega (arith, l), n)

any_after : (b : Option Bool) (bits : List (Option Bool)) → NotZero bits 0 → NotZero (b ∷ bits) 0
any_after b bits (k, h, l, n) = (suc k, omega arith, omega (arith, l), n)

where_not_zero : (bits : List (Option Bool)) (from : ℕ)
    → all_zero (drop from bits) ≡ false → NotZero bits from
where_not_zero [] zero e = absurd cc
where_not_zero [] (suc from) e = absurd cc
where_not_zero (b ∷ bits) (suc from) e = one_after b bits from (where_not_zero bits from e)
where_not_zero (None ∷ bits) zero e =
    (0, omega arith, omega arith, λ h. let e : false ≡ true = ap is_zero h in absurd cc)
where_not_zero (Some true ∷ bits) zero e =
    (0, omega arith, omega arith, λ h. let e : false ≡ true = ap is_zero h in absurd cc)
where_not_zero (Some false ∷ bits) zero e = any_after (Some false) bits (where_not_zero bits zero e)

pub wide_is : (width : ℕ) (w : Written) → IsWide width w → is_wide width w ≡ true
wide_is width (InDecimal n) h = by_test (nat_lt n (2 ^ width)) refl
  where
    by_test : (t : Bool) → nat_lt n (2 ^ width) ≡ t → not t ≡ true
    by_test true e = absurd (omega (arith, h, ltb-true n (2 ^ width) e))
    by_test false e = refl
wide_is width (InBits bits) (k, h, l, n) = ap not (some_not_zero bits width k h l n)

pub is_wide_there : (width : ℕ) (w : Written) → is_wide width w ≡ true → IsWide width w
is_wide_there width (InDecimal n) e = by_test (nat_lt n (2 ^ width)) refl e
  where
    by_test : (t : Bool) → nat_lt n (2 ^ width) ≡ t → not t ≡ true → 2 ^ width ≤ n
    by_test true h e = absurd cc
    by_test false h e = ltb-false n (2 ^ width) h
is_wide_there width (InBits bits) e = by_test (all_zero (drop width bits)) refl e
  where
    by_test : (t : Bool) → all_zero (drop width bits) ≡ t → not t ≡ true → NotZero bits width
    by_test true h e = absurd cc
    by_test false h e = where_not_zero bits width h

pub fitted_wide : (at : Place) (width : ℕ) (w : Written) → IsWide width w
    → fitted at width w ≡ Fails (IsValueWide at)
fitted_wide at width w h =
    ap (λ b. cond b (Fails (IsValueWide at)) (Is (bits_in width w))) (wide_is width w h)

pub fitted_is : (at : Place) (width : ℕ) (w : Written) → (IsWide width w → ⊥)
    → fitted at width w ≡ Is (bits_in width w)
fitted_is at width w h = by_test (is_wide width w) refl
  where
    by_test : (t : Bool) → is_wide width w ≡ t
        → cond t (Fails (IsValueWide at)) (Is (bits_in width w)) ≡ Is (bits_in width w)
    by_test true e = absurd (h (is_wide_there width w e))
    by_test false e = refl
