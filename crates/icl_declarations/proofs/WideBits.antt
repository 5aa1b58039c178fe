-- Bits above a width.
use Rattle.std.proofs.Common.{◌≡◌, ◌≢◌, ◌<◌, ◌≤◌, ℕ, zero, suc, Bool, true, false, cond, nat_lt, ◌&&◌, List}
use Rattle.std.proofs.Common.{[], ◌∷◌, length, get_or, Option, Some, None, Ok, Err, refl, sym, ap, ◌∙◌, arith}
use Rattle.std.specs.List.{list_all}
use Rattle.std.proofs.lemmas.Bool.{lt-ltb, le-ltb, true≢false}
use Rattle.ij_text.specs.Numbers.{InBits, IsWide, bits_in}
use Rattle.std.specs.Option.{unwrap_or}
use Rattle.ij_text.specs.declared.Place.{Place}
use Rattle.icl_declarations.specs.Faults.{Answer, WidthDiffers}
use Rattle.icl_declarations.specs.Widths.{fit_sized}
use Rattle.icl_declarations.specs.Sized.{is_zero, fits, in_width, within_size, at_most_4096}

zero_is : (b : Option Bool) → is_zero b ≡ true → b ≡ Some false
zero_is None e = absurd (true≢false (sym e))
zero_is (Some true) e = absurd (true≢false (sym e))
zero_is (Some false) e = refl

-- each bit above is 0
fits_each : (width : ℕ) (bits : List (Option Bool)) → fits width bits ≡ true → (k : ℕ) → width ≤ k
    → get_or bits k (Some false) ≡ Some false
fits_each zero [] e k le = refl
fits_each (suc width) [] e k le = refl
fits_each zero (b ∷ bits) e zero le = zero_is b (left (is_zero b) (list_all is_zero bits) e)
  where
    left : (x y : Bool) → (x && y) ≡ true → x ≡ true
    left true y h = refl
    left false y h = h
fits_each zero (b ∷ bits) e (suc k) le =
    fits_each zero bits (right (is_zero b) (list_all is_zero bits) e) k (omega arith)
  where
    right : (x y : Bool) → (x && y) ≡ true → y ≡ true
    right true y h = h
    right false y h = absurd (true≢false (sym h))
fits_each (suc width) (b ∷ bits) e zero le = absurd (omega (arith, le))
fits_each (suc width) (b ∷ bits) e (suc k) le = fits_each width bits e k (omega (arith, le))

-- a bit above that isn't
unfit_one : (width : ℕ) (bits : List (Option Bool)) → fits width bits ≡ false → IsWide width (InBits bits)
unfit_one zero [] e = absurd (true≢false e)
unfit_one (suc width) [] e = absurd (true≢false e)
unfit_one zero (b ∷ bits) e = by_test (is_zero b) refl e (unfit_one zero bits)
  where
    ones : (c : Option Bool) → is_zero c ≡ false → c ≢ Some false
    ones None h g = absurd cc
    ones (Some true) h g = absurd cc
    ones (Some false) h g = true≢false h

    by_test : (t : Bool) → is_zero b ≡ t → (t && list_all is_zero bits) ≡ false
        → (list_all is_zero bits ≡ false → IsWide zero (InBits bits)) → IsWide zero (InBits (b ∷ bits))
    by_test true h g again = let w = again g in (suc w.0, omega arith, let lt = w.2 in omega (arith, lt), w.3)
    by_test false h g again = (zero, omega arith, omega arith, ones b h)
unfit_one (suc width) (b ∷ bits) e =
    let w = unfit_one width bits e in
    (suc w.0, let le = w.1 in omega (arith, le), let lt = w.2 in omega (arith, lt), w.3)

-- ---- what fitting gives

pub not_wide : (width : ℕ) (bits : List (Option Bool))
    → (IsWide width (InBits bits) → ⊥) → fits width bits ≡ true
not_wide width bits h = by_test (fits width bits) refl
  where
    by_test : (t : Bool) → fits width bits ≡ t → t ≡ true
    by_test true e = refl
    by_test false e = absurd (h (unfit_one width bits e))

pub is_wide : (width : ℕ) (bits : List (Option Bool)) → IsWide width (InBits bits) → fits width bits ≡ false
is_wide width bits w = by_test (fits width bits) refl
  where
    by_test : (t : Bool) → fits width bits ≡ t → t ≡ false
    by_test true e = absurd (w.3 (fits_each width bits e w.0 w.1))
    by_test false e = refl

pub within : (width : ℕ) (bits t : List (Option Bool)) → (IsWide width (InBits bits) → ⊥)
    → t ≡ bits_in width (InBits bits) → Some t ≡ within_size width bits
within width bits t h e = rw (not_wide width bits h) (ap (λ b. Some b) e)

pub beyond : (width : ℕ) (bits : List (Option Bool))
    → IsWide width (InBits bits) → None ≡ within_size width bits
beyond width bits w = rw (is_wide width bits w) refl

-- ---- how many bits

pub few : (bits : List (Option Bool)) (n : ℕ) → n ≡ length bits → n ≤ 4096 → Some bits ≡ at_most_4096 bits
few bits n e le =
    let t : nat_lt 4096 (length bits) ≡ false = le-ltb 4096 (length bits) (omega (arith, e, le)) in rw t refl

pub many : (bits : List (Option Bool)) (n : ℕ) → n ≡ length bits → 4096 < n → None ≡ at_most_4096 bits
many bits n e lt =
    let t : nat_lt 4096 (length bits) ≡ true = lt-ltb 4096 (length bits) (omega (arith, e, lt)) in rw t refl

-- ---- bits with a size

short_fits : (width : ℕ) (bits : List (Option Bool)) → length bits ≤ width → fits width bits ≡ true
short_fits zero [] le = refl
short_fits (suc width) [] le = refl
short_fits zero (b ∷ bits) le = absurd (omega (arith, le))
short_fits (suc width) (b ∷ bits) le = short_fits width bits (omega (arith, le))

pub sized_over : (holder : Place) (width : ℕ) (bits : List (Option Bool)) (n : ℕ) → n ≡ length bits
    → width < n → fit_sized holder width bits ≡ Err (WidthDiffers holder)
sized_over holder width bits n e lt =
    let t : nat_lt width (length bits) ≡ true = lt-ltb width (length bits) (omega (arith, e, lt)) in rw t refl

pub sized_some : (holder : Place) (width : ℕ) (bits t : List (Option Bool)) (n : ℕ) → n ≡ length bits
    → n ≤ width → Some t ≡ within_size width bits → fit_sized holder width bits ≡ Ok t
sized_some holder width bits t n e le h =
    let s : nat_lt width (length bits) ≡ false = le-ltb width (length bits) (omega (arith, e, le)) in
    let f : fits width bits ≡ true = short_fits width bits (omega (arith, e, le)) in
    let g : Some t ≡ cond true (Some (in_width width bits)) None =
    h ∙ ap (λ (b : Bool). cond b (Some (in_width width bits)) None) f in
    rw s (ap (λ (o : Option (List (Option Bool))). made (unwrap_or o [])) (sym g))
  where
    made : List (Option Bool) → Answer (List (Option Bool))
    made l = Ok l

pub sized_none : (width : ℕ) (bits : List (Option Bool)) (n : ℕ) → n ≡ length bits
    → n ≤ width → None ≡ within_size width bits → ⊥
sized_none width bits n e le h =
    let f : fits width bits ≡ true = short_fits width bits (omega (arith, e, le)) in
    never (in_width width bits) (h ∙ ap (λ (b : Bool). cond b (Some (in_width width bits)) None) f)
  where
    never : (x : List (Option Bool)) → None ≡ Some x → ⊥
    never x h = absurd cc
