-- What a scan shifts and looks for, position by position.
use Rattle.std.proofs.Common.{◌≡◌, ⊎_elim, ℕ, zero, suc, ◌+◌, ◌-◌, ◌*◌, ◌<◌, ◌/◌, ◌%◌, ◌==◌, Bool, true}
use Rattle.std.proofs.Common.{false, ◌≤◌, List, [], ◌∷◌, length, take, drop, Option, Some, None, refl, sym}
use Rattle.std.proofs.Common.{ap, ◌∙◌, arith}
use Rattle.std.specs.Prelude.{get_or, ◌&&◌, ◌||◌, not, cond, replicate, slice_range, unwrap_or, ◌↔◌, IsSome}
use Rattle.std.specs.Prelude.{IsTrue}
use Rattle.std.specs.List.{list_any}
use Rattle.std.specs.Option.{is_some}
use mathlib.Core.Bool.{beq}
use Rattle.std.proofs.lemmas.List.{drop_all, drop_more, drop-drop, length-replicate, take-append-drop}
use Rattle.std.proofs.lemmas.List.Folds.{list_any-append}
use Rattle.std.proofs.lemmas.Bool.Decides.{eqb_tells}
use Rattle.ij_bits.specs.BitLists.{bits_of, bits_eq, same_bit, has_one}
use Rattle.svf_writer.specs.Fits.{HasLength}
use Rattle.tap_machine.proofs.Shifts.{masked_at}
use Rattle.tap_machine.specs.Play.{expected, masked}
use Rattle.ij_bits.proofs.Tests.{same_truth, one_less}

abbrev nothing : Option Bool
nothing = None

none_at : (n k : ℕ) → get_or (replicate n nothing) k nothing ≡ nothing
none_at zero k = refl
none_at (suc n) zero = refl
none_at (suc n) (suc k) = none_at n k

-- nothing is expected without TDO
pub expected_none : (len k : ℕ) (tdo : Option (List Bool)) (mask : List Bool) → is_some tdo ≡ false
    → get_or (expected len tdo mask) k None ≡ None
expected_none len k None mask e = none_at len k
expected_none len k (Some tdo) mask e = absurd (cc)

-- with TDO what MASK compares
pub expected_given : (len k : ℕ) (tdo : Option (List Bool)) (mask : List Bool) (compared : Bool)
    → HasLength len tdo → is_some tdo ≡ true → k < len → get_or mask k false ≡ compared
    → get_or (expected len tdo mask) k None ≡ cond compared (Some (get_or (unwrap_or tdo []) k false)) None
expected_given len k None mask compared h s l e = absurd (cc)
expected_given len k (Some bits) mask compared h s l e =
    masked_at bits mask k (omega (arith, h, l)) ∙ ap (λ b. cond b (Some (get_or bits k false)) None) e

pub length-masked : (tdo mask : List Bool) → length (masked tdo mask) ≡ length tdo
length-masked [] mask = refl
length-masked (t ∷ ts) [] = ap suc (length-masked ts [])
length-masked (t ∷ ts) (m ∷ ms) = ap suc (length-masked ts ms)

pub length-expected : (len : ℕ) (tdo : Option (List Bool)) (mask : List Bool)
    → HasLength len tdo → length (expected len tdo mask) ≡ len
length-expected len None mask h = length-replicate len None
length-expected len (Some tdo) mask h = length-masked tdo mask ∙ h

-- whether TDO is there, by a test that was made
pub is_there : (b : Bool) (tdo : Option (List Bool)) → IsTrue b ↔ IsSome tdo → b ≡ true → is_some tdo ≡ true
is_there b tdo e n = e.0 n

pub is_absent : (b : Bool) (tdo : Option (List Bool))
    → IsTrue b ↔ IsSome tdo → b ≡ false → is_some tdo ≡ false
is_absent b tdo e n = same_truth (is_some tdo) b e.1 e.0 ∙ n

no_compare : (n : ℕ) → list_any is_some (replicate n nothing) ≡ false
no_compare zero = refl
no_compare (suc n) = no_compare n

pub none_compared : (len : ℕ) (tdo : Option (List Bool)) (mask : List Bool) → is_some tdo ≡ false
    → list_any is_some (expected len tdo mask) ≡ false
none_compared len None mask e = no_compare len
none_compared len (Some tdo) mask e = absurd (cc)

-- ---- words

pub nonzero : (n : ℕ) → 0 < n → not (n == 0) ≡ true
nonzero n h = ⊎_elim (λ t. absurd (omega (arith, h, t.1))) (λ t. ap not t.0) (eqb_tells n 0)

twice : (n : ℕ) → not ((0 + 2 * n) == 0) ≡ not (n == 0)
twice n =
    ⊎_elim (λ t. ap (λ k. not ((0 + 2 * k) == 0)) t.1 ∙ ap (λ k. not (k == 0)) (sym t.1))
    (λ t. nonzero (0 + 2 * n) (omega (arith, t.1)) ∙ sym (ap not t.0)) (eqb_tells n 0)

pub ones_some : (len from n : ℕ) → from + n ≤ len
    → has_one (take n (drop from (replicate len true))) ≡ not (n == 0)
ones_some len from zero l = refl
ones_some zero from (suc n) l = absurd (omega (arith, l))
ones_some (suc len) zero (suc n) l = sym (nonzero (suc n) (omega arith))
ones_some (suc len) (suc from) (suc n) l = ones_some len from (suc n) (omega (arith, l))

-- with TDO some bit is compared where MASK has one
any_masked : (bits mask : List Bool) → length bits ≡ length mask
    → list_any is_some (masked bits mask) ≡ has_one mask
any_masked [] [] e = refl
any_masked [] (m ∷ ms) e = absurd (omega (arith, e))
any_masked (b ∷ bs) [] e = absurd (omega (arith, e))
any_masked (b ∷ bs) (true ∷ ms) e = refl
any_masked (b ∷ bs) (false ∷ ms) e = any_masked bs ms (omega (arith, e))

pub any_compared : (len : ℕ) (tdo : Option (List Bool)) (mask : List Bool) → HasLength len tdo
    → length mask ≡ len → is_some tdo ≡ true → list_any is_some (expected len tdo mask) ≡ has_one mask
any_compared len None mask h m e = absurd (cc)
any_compared len (Some bits) mask h m e = any_masked bits mask (h ∙ sym m)

-- MASK has the length of its scan
pub mask_length : (len : ℕ) (mask : Option (List Bool)) → HasLength len mask
    → length (unwrap_or mask (replicate len true)) ≡ len
mask_length len None h = length-replicate len true
mask_length len (Some bits) h = h

before : (mask : List Bool) (from n : ℕ) → has_one (drop from mask)
    ≡ (has_one (slice_range mask from (from + n)) || has_one (drop (from + n) mask))
before mask from n =
    let size : from + n - from ≡ n = omega arith in
    ap has_one (sym (take-append-drop n (drop from mask)))
    ∙ list_any-append (λ b. b) (take n (drop from mask)) (drop n (drop from mask))
    ∙ ap (λ xs. has_one (take n (drop from mask)) || has_one xs) (drop-drop n from mask)
    ∙ ap (λ k. has_one (take k (drop from mask)) || has_one (drop (from + n) mask)) (sym size)

pub no_one_here : (mask : List Bool) (from n : ℕ) → has_one (slice_range mask from (from + n)) ≡ false
    → has_one (drop (from + n) mask) ≡ has_one (drop from mask)
no_one_here mask from n e = sym (before mask from n ∙ ap (λ t. t || has_one (drop (from + n) mask)) e)

pub one_here : (mask : List Bool) (from n : ℕ)
    → has_one (slice_range mask from (from + n)) ≡ true → has_one (drop from mask) ≡ true
one_here mask from n e = before mask from n ∙ ap (λ t. t || has_one (drop (from + n) mask)) e

-- ---- a number

pub eq_at : (xs : List Bool) (len i rest : ℕ) → length xs ≡ len → i < len
    → bits_eq (drop i xs) (bits_of (len - i) rest) ≡ (same_bit (get_or xs i false)
    ((rest % 2) == 1) && bits_eq (drop (i + 1) xs) (bits_of (len - (i + 1)) (rest / 2)))
eq_at xs len i rest e h =
    ap (λ ys. bits_eq ys (bits_of (len - i) rest)) (drop_more xs i false (omega (arith, e, h)))
    ∙ ap (λ k. bits_eq (get_or xs i false ∷ drop (i + 1) xs) (bits_of k rest)) (one_less len i h)

pub eq_end : (xs : List Bool) (len i rest : ℕ) → length xs ≡ len → len ≤ i
    → bits_eq (drop i xs) (bits_of (len - i) rest) ≡ true
eq_end xs len i rest e l =
    let none : len - i ≡ 0 = omega arith in
    ap (λ ys. bits_eq ys (bits_of (len - i) rest)) (drop_all i xs (omega (arith, e, l)))
    ∙ ap (λ k. bits_eq [] (bits_of k rest)) none

-- ---- bits that were compared

pub equal : (a b : Bool) → beq a b ≡ true → a ≡ b
equal true true e = refl
equal true false e = absurd (cc)
equal false true e = absurd (cc)
equal false false e = refl

pub alike : (a b : Bool) → beq a b ≡ true → same_bit b a ≡ true
alike true true e = refl
alike true false e = absurd (cc)
alike false true e = absurd (cc)
alike false false e = refl

pub unlike : (a b : Bool) → beq a b ≡ false → same_bit b a ≡ false
unlike true true e = absurd (cc)
unlike true false e = refl
unlike false true e = refl
unlike false false e = absurd (cc)
