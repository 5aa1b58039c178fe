-- The lowest bits of a number, taken from the highest of them down.
use Rattle.std.proofs.Common.{◌≡◌, ℕ, zero, suc, ◌+◌, ◌-◌, ◌*◌, ◌/◌, ◌%◌, ◌^◌, ◌<◌, ◌≤◌, Bool, true, false}
use Rattle.std.proofs.Common.{List, [], ◌∷◌, length, map, drop, get_or, Option, Some, refl, ap, sym, ◌∙◌}
use Rattle.std.proofs.Common.{arith, drop-cons}
use Rattle.std.specs.Prelude.{if◌then◌else◌, ◌==◌, is_some}
use Rattle.std.proofs.Math.ListN.{drop_of_length-le}
use Rattle.std.proofs.Math.Pow.{pow_mono}
use Rattle.std.proofs.lemmas.Nat.{pow-add, pow_pos, mod-pow-add}
use Rattle.std.proofs.Math.Nat.{mod-one, one-mul, mod-eq_of_lt}
use Rattle.std.proofs.lemmas.List.FromFn.{get_or-map-range_with_len, length-map-range_with_len}
use Rattle.ij_bits.specs.BitLists.{number_of, bits_of}
use Rattle.ij_text.specs.Numbers.{InDecimal, InBits, bits_in}
use Rattle.table_lines.specs.Words.{is_one}
use Rattle.ij_bits.proofs.WordBits.{length-bits_of}

pub start : (f : Option Bool → Bool) (width : ℕ) (xs : List (Option Bool))
    → 0 ≡ number_of (map f (drop (width - 0) (bits_in width (InBits xs))))
start f width xs =
    let long = length-map-range_with_len (λ k. get_or xs k (Some false)) 0 width in
    let all : length (bits_in width (InBits xs)) ≤ width - 0 = omega (arith, long) in
    sym (ap (λ bs. number_of (map f bs)) (drop_of_length-le (bits_in width (InBits xs)) all))

pub step : (f : Option Bool → Bool) (width k n : ℕ) (xs : List (Option Bool)) (b : Option Bool) → k < width
    → b ≡ get_or xs (width - 1 - k) (Some false)
    → n ≡ number_of (map f (drop (width - k) (bits_in width (InBits xs)))) → (if f b then 1 else 0) + 2 * n
    ≡ number_of (map f (drop (width - (k + 1)) (bits_in width (InBits xs))))
step f width k n xs b within is so_far =
    let bits = bits_in width (InBits xs) in
    let i = width - (k + 1) in
    let long = length-map-range_with_len (λ k. get_or xs k (Some false)) 0 width in
    let inside : i < length bits = omega (arith, within, long) in
    let below : i < width = omega (arith, within) in
    let next : suc i ≡ width - k = omega (arith, within) in
    let same : width - 1 - k ≡ i = omega (arith, within) in
    let at : get_or bits i (Some false) ≡ b = get_or-map-range_with_len (λ k. get_or xs k (Some false)) 0
    width i i (Some false) below (omega arith) ∙ ap (λ j. get_or xs j (Some false)) (sym same) ∙ sym is in
    let cut : drop i bits ≡ b ∷ drop (width - k) bits = drop-cons bits i (Some false) inside
    ∙ ap (λ x. x ∷ drop (suc i) bits) at ∙ ap (λ j. b ∷ drop j bits) next in
    sym (ap (λ bs. number_of (map f bs)) cut ∙ ap (λ m. (if f b then 1 else 0) + 2 * m) (sym so_far))

pub small_step : (bit : Bool) (k n : ℕ) → n < 2 ^ k → (if bit then 1 else 0) + 2 * n < 2 ^ (k + 1)
small_step true k n h = omega (arith, h, pow-add 2 k 1)
small_step false k n h = omega (arith, h, pow-add 2 k 1)

pub fits : (k width n : ℕ) → n < 2 ^ k → k < width → width ≤ 64 → n < 2 ^ 63
fits k width n h within few =
    let short : k ≤ 63 = omega (arith, within, few) in
    let most : 2 ^ k ≤ 2 ^ 63 = pow_mono short in
    omega (arith, h, most)

pub all_of : (f : Option Bool → Bool) (width k n : ℕ) (xs : List (Option Bool)) → k ≡ width
    → n ≡ number_of (map f (drop (width - k) (bits_in width (InBits xs))))
    → n ≡ number_of (map f (bits_in width (InBits xs)))
all_of f width k n xs end so_far =
    let none : width - k ≡ 0 = omega (arith, end) in
    so_far ∙ ap (λ j. number_of (map f (drop j (bits_in width (InBits xs))))) none

-- the lowest bits of a decimal
pub some_one : (bits : List Bool) → map is_one (map (λ bit. Some bit) bits) ≡ bits
some_one [] = refl
some_one (b ∷ bs) = ap (λ xs. b ∷ xs) (some_one bs)

low_bit : (m : ℕ) → m < 2 → (if m == 1 then 1 else 0) ≡ m
low_bit zero h = refl
low_bit (suc zero) h = refl
low_bit (suc (suc m)) h = absurd (omega (arith, h))

number_of_bits : (width n : ℕ) → number_of (bits_of width n) ≡ n % 2 ^ width
number_of_bits zero n = sym (mod-one n)
number_of_bits (suc width) n =
    let next : suc width ≡ width + 1 = omega arith in
    let small : n % 2 < 2 = omega arith in
    let cut = ap (λ k. n % 2 ^ k) next ∙ mod-pow-add n width 1 in
    let low = low_bit (n % 2) small in
    let rest = number_of_bits width (n / 2) in
    omega (arith, cut, low, rest)

pub decimal_bits : (width n : ℕ) → number_of (map is_one (bits_in width (InDecimal n))) ≡ n % 2 ^ width
decimal_bits width n = ap number_of (some_one (bits_of width n)) ∙ number_of_bits width n

-- all bits of a decimal count
all_some : (bits : List Bool) → number_of (map is_some (map (λ bit. Some bit) bits)) ≡ 2 ^ length bits - 1
all_some [] = refl
all_some (b ∷ bs) =
    let next : suc (length bs) ≡ length bs + 1 = omega arith in
    let up = ap (λ k. 2 ^ k) next ∙ pow-add 2 (length bs) 1 in
    let some = pow_pos (length bs) in
    let rest = all_some bs in
    omega (arith, up, some, rest)

pub known_bits : (width n : ℕ) → number_of (map is_some (bits_in width (InDecimal n))) ≡ 2 ^ width - 1
known_bits width n = all_some (bits_of width n) ∙ ap (λ k. 2 ^ k - 1) (length-bits_of width n)

pub shifted_one : (width : ℕ) → width ≤ 64 → 1 * 2 ^ width % 2 ^ 128 - 1 ≡ 2 ^ width - 1
shifted_one width few =
    let small : 2 ^ width ≤ 2 ^ 64 = pow_mono few in
    ap (λ m. m % 2 ^ 128 - 1) (one-mul (2 ^ width)) ∙ ap (λ m. m - 1) (mod-eq_of_lt (omega (arith, small)))
