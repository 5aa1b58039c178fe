-- The number of some bits, taken from the highest of them down.
use Rattle.std.proofs.Common.{◌≡◌, ℕ, zero, suc, ◌+◌, ◌-◌, ◌*◌, ◌^◌, ◌<◌, ◌≤◌, Bool, true, false, List, []}
use Rattle.std.proofs.Common.{◌∷◌, length, map, drop, get_or, Option, Some, refl, ap, sym, ◌∙◌, arith}
use Rattle.std.proofs.Common.{drop-cons}
use Rattle.std.specs.Prelude.{if◌then◌else◌}
use Rattle.std.proofs.Math.ListN.{drop_of_length-le}
use Rattle.ij_bits.specs.BitLists.{number_of}

-- the bits from an index on make a smaller number
pub fewer : (f : Option Bool → Bool) (i : ℕ) (xs : List (Option Bool))
    → number_of (map f (drop i xs)) ≤ number_of (map f xs)
fewer f zero xs = omega arith
fewer f (suc i) [] = omega arith
fewer f (suc i) (x ∷ xs) = shorter (f x) (number_of (map f (drop i xs))) (number_of (map f xs)) (fewer f i xs)
  where
    shorter : (b : Bool) (m n : ℕ) → m ≤ n → m ≤ (if b then 1 else 0) + 2 * n
    shorter true m n h = omega (arith, h)
    shorter false m n h = omega (arith, h)

pub none : (f : Option Bool → Bool) (len : ℕ) (xs : List (Option Bool)) → length xs ≡ len
    → 0 ≡ number_of (map f (drop (len - 0) xs))
none f len xs long =
    let all : length xs ≤ len - 0 = omega (arith, long) in
    sym (ap (λ bs. number_of (map f bs)) (drop_of_length-le xs all))

pub one_more : (f : Option Bool → Bool) (len k n : ℕ) (xs : List (Option Bool)) (b : Option Bool)
    → length xs ≡ len → k < len → b ≡ get_or xs (len - 1 - k) (Some false)
    → n ≡ number_of (map f (drop (len - k) xs))
    → (if f b then 1 else 0) + 2 * n ≡ number_of (map f (drop (len - (k + 1)) xs))
one_more f len k n xs b long within is so_far =
    let i = len - (k + 1) in
    let inside : i < length xs = omega (arith, within, long) in
    let next : suc i ≡ len - k = omega (arith, within) in
    let same : len - 1 - k ≡ i = omega (arith, within) in
    let at : get_or xs i (Some false) ≡ b = ap (λ j. get_or xs j (Some false)) (sym same) ∙ sym is in
    let cut : drop i xs ≡ b ∷ drop (len - k) xs = drop-cons xs i (Some false) inside
    ∙ ap (λ x. x ∷ drop (suc i) xs) at ∙ ap (λ j. b ∷ drop j xs) next in
    sym (ap (λ bs. number_of (map f bs)) cut ∙ ap (λ m. (if f b then 1 else 0) + 2 * m) (sym so_far))

pub half : (f : Option Bool → Bool) (b : Bool) (i n : ℕ) (xs : List (Option Bool))
    → (if b then 1 else 0) + 2 * n ≡ number_of (map f (drop i xs))
    → number_of (map f xs) < 2 ^ 64 → n < 2 ^ 63
half f true i n xs is few = omega (arith, is, few, fewer f i xs)
half f false i n xs is few = omega (arith, is, few, fewer f i xs)

pub whole : (f : Option Bool → Bool) (len k n : ℕ) (xs : List (Option Bool)) → len ≤ k
    → n ≡ number_of (map f (drop (len - k) xs)) → n ≡ number_of (map f xs)
whole f len k n xs end so_far =
    let zero_left : len - k ≡ 0 = omega (arith, end) in
    so_far ∙ ap (λ j. number_of (map f (drop j xs))) zero_left
