-- The bits of digits, 64 at a time.
use Rattle.std.proofs.Common.{◌≡◌, ℕ, zero, suc, ◌+◌, ◌*◌, ◌/◌, ◌%◌, ◌^◌, ◌<◌, ◌≤◌, Bool, true, false, not}
use Rattle.std.proofs.Common.{cond, List, [], ◌∷◌, ◌++◌, length, take, drop, replicate, refl, ap, sym, ◌∙◌}
use Rattle.std.proofs.Common.{arith, nat_lt}
use Rattle.std.specs.Prelude.{◌==◌, ◌||◌}
use Rattle.std.proofs.lemmas.Bool.Decides.{nat_tests}
use Rattle.std.proofs.Math.Nat.{pow-suc, zero-div, div-div-eq-div-mul}
use Rattle.std.proofs.lemmas.List.{drop_at, drop-drop, drop-append-le}
use Rattle.ij_bits.specs.BitLists.{bits_of, number_of, has_one}
use Rattle.svf_reader.specs.Values.{hex_bits, fitted, is_wide}
use Rattle.svf_reader.proofs.Putting.{hex_bits-append, hex_length}
use Rattle.svf_reader.proofs.Digits.{padded, padded_split, bits_again, high_bits}
use Rattle.ij_bits.proofs.Hex.{number_zero}

-- ---- exactly this many bits

take_padded : (n m : ℕ) (bs : List Bool) → n ≤ m → take n (bs ++ replicate m false) ≡ padded n bs
take_padded zero m bs h = refl
take_padded (suc n) m (b ∷ bs) h = ap (λ (l : List Bool). b ∷ l) (take_padded n m bs (omega arith))
take_padded (suc n) zero [] h = absurd (omega arith)
take_padded (suc n) (suc m) [] h = ap (λ (l : List Bool). false ∷ l) (take_padded n m [] (omega arith))

fitted_is : (n : ℕ) (bs : List Bool) → fitted n bs ≡ padded n bs
unfolding fitted
fitted_is n bs = take_padded n n bs (omega arith)

pub fitted_none : (bs : List Bool) → [] ≡ fitted 0 bs
unfolding fitted
fitted_none bs = refl

pub fitted_more : (k n : ℕ) (bs : List Bool) → fitted (k + n) bs ≡ fitted k bs ++ fitted n (drop k bs)
fitted_more k n bs =
    fitted_is (k + n) bs ∙ padded_split k n bs
    ∙ ap (λ (l : List Bool). l ++ padded n (drop k bs)) (sym (fitted_is k bs))
    ∙ ap (λ (l : List Bool). fitted k bs ++ l) (sym (fitted_is n (drop k bs)))

padded_front : (n : ℕ) (xs ys : List Bool) → n ≤ length xs → padded n (xs ++ ys) ≡ padded n xs
padded_front zero xs ys h = refl
padded_front (suc n) [] ys h = absurd (omega arith)
padded_front (suc n) (x ∷ xs) ys h = ap (λ (l : List Bool). x ∷ l) (padded_front n xs ys (omega arith))

drop_past : (n : ℕ) (xs : List Bool) → length xs ≤ n → drop n xs ≡ []
drop_past zero [] h = refl
drop_past zero (x ∷ xs) h = absurd (omega arith)
drop_past (suc n) [] h = refl
drop_past (suc n) (x ∷ xs) h = drop_past n xs (omega arith)

-- ---- ones

has_one-append : (xs ys : List Bool) → has_one (xs ++ ys) ≡ (has_one xs || has_one ys)
has_one-append [] ys = refl
has_one-append (true ∷ xs) ys = refl
has_one-append (false ∷ xs) ys = has_one-append xs ys

-- ---- numbers of digits

bit_is : (n : ℕ) (t : Bool) → ((n % 2) == 1) ≡ t → cond t 1 0 ≡ n % 2
bit_is n true e = grind (arith, nat_tests)
bit_is n false e = grind (arith, nat_tests)

pub digit_front : (v : ℕ) (xs : List Bool) → number_of (bits_of 4 v ++ xs) ≡ 16 * number_of xs + v % 16
digit_front v xs =
    let a = bit_is v ((v % 2) == 1) refl in
    let b = bit_is (v / 2) (((v / 2) % 2) == 1) refl in
    let c = bit_is ((v / 2) / 2) ((((v / 2) / 2) % 2) == 1) refl in
    let d = bit_is (((v / 2) / 2) / 2) (((((v / 2) / 2) / 2) % 2) == 1) refl in
    omega (arith, a, b, c, d)

pub digit_ones : (v : ℕ) (xs : List Bool) → has_one (bits_of 4 v ++ xs) ≡ (has_one xs || not (v % 16 == 0))
digit_ones v xs =
    has_one-append (bits_of 4 v) xs
    ∙ ap (λ k. k || has_one xs)
    (sym (number_zero (bits_of 4 v)) ∙ ap (λ n. not (n == 0)) (digit_front v [] ∙ omega arith))
    ∙ turned (not (v % 16 == 0)) (has_one xs)
  where
    turned : (a b : Bool) → (a || b) ≡ (b || a)
    turned true true = refl
    turned true false = refl
    turned false true = refl
    turned false false = refl

-- ---- digits in two parts

pub record InParts (digits front last : List ℕ) : Type 0 where
  pub all : digits ≡ front ++ last
  pub few : length last ≤ 16
  pub lone : length last < 16 → front ≡ []

last_at : (n : ℕ) (digits front last : List ℕ) (t : Bool) → nat_lt (length last) 16 ≡ t
    → InParts digits front last → n ≤ 64 → padded n (hex_bits digits) ≡ padded n (hex_bits last)
last_at n digits front last true e parts few =
    ap (λ (l : List ℕ). padded n (hex_bits l))
    (parts.all ∙ ap (λ (l : List ℕ). l ++ last) (parts.lone (grind (arith, nat_tests))))
last_at n digits front last false e parts few =
    let whole : 16 ≤ length last = grind (arith, nat_tests) in
    ap (λ (l : List ℕ). padded n (hex_bits l)) parts.all
    ∙ ap (padded n) (hex_bits-append front last)
    ∙ padded_front n (hex_bits last) (hex_bits front) (omega (arith, hex_length last))

-- bits of the last part are those of its number
pub last_bits : (n : ℕ) (digits front last : List ℕ) → InParts digits front last → n ≤ 64
    → fitted n (hex_bits digits) ≡ bits_of n (number_of (hex_bits last))
last_bits n digits front last parts few =
    fitted_is n (hex_bits digits) ∙ last_at n digits front last (nat_lt (length last) 16) refl parts few
    ∙ sym (bits_again n (hex_bits last))

left_at : (digits front last : List ℕ) (t : Bool) → nat_lt (length last) 16 ≡ t → InParts digits front last
    → drop 64 (hex_bits digits) ≡ hex_bits front
left_at digits front last true e parts =
    let none = parts.lone (grind (arith, nat_tests)) in
    ap (λ (l : List ℕ). drop 64 (hex_bits l)) (parts.all ∙ ap (λ (l : List ℕ). l ++ last) none)
    ∙ drop_past 64 (hex_bits last) (omega (arith, hex_length last, parts.few))
    ∙ ap hex_bits (sym none)
left_at digits front last false e parts =
    let whole : 16 ≤ length last = grind (arith, nat_tests) in
    ap (λ (l : List ℕ). drop 64 (hex_bits l)) parts.all
    ∙ ap (drop 64) (hex_bits-append front last)
    ∙ drop_at (hex_bits last) (hex_bits front) 64 (omega (arith, hex_length last, parts.few))

-- after 64 bits more
pub left_more : (k : ℕ) (all : List Bool) (digits front last : List ℕ) → InParts digits front last
    → drop k all ≡ hex_bits digits → drop (k + 64) all ≡ hex_bits front
left_more k all digits front last parts is =
    sym (drop-drop 64 k all) ∙ ap (drop 64) is
    ∙ left_at digits front last (nat_lt (length last) 16) refl parts

-- ---- what has no place

halved : (n x : ℕ) → (x / 2) / 2 ^ n ≡ x / 2 ^ suc n
halved n x = div-div-eq-div-mul x 2 (2 ^ n) ∙ ap (λ k. x / k) (omega (arith, pow-suc 2 n))

number_drop : (n : ℕ) (bs : List Bool) → number_of (drop n bs) ≡ number_of bs / 2 ^ n
number_drop zero bs = omega arith
number_drop (suc n) [] = sym (zero-div (2 ^ suc n))
number_drop (suc n) (b ∷ bs) = number_drop n bs
    ∙ ap (λ k. k / 2 ^ n) (sym (high_bits b (number_of bs))) ∙ halved n (number_of (b ∷ bs))

above : (n : ℕ) (bs : List Bool) → has_one (drop n bs) ≡ not (number_of bs / 2 ^ n == 0)
above n bs = sym (number_zero (drop n bs)) ∙ ap (λ k. not (k == 0)) (number_drop n bs)

wide_at : (n : ℕ) (digits front last : List ℕ) (t : Bool)
    → nat_lt (length last) 16 ≡ t → InParts digits front last → n ≤ 64
    → has_one (drop n (hex_bits digits)) ≡ (has_one (drop n (hex_bits last)) || has_one (hex_bits front))
wide_at n digits front last true e parts few =
    let none = parts.lone (grind (arith, nat_tests)) in
    ap (λ (l : List ℕ). has_one (drop n (hex_bits l))) (parts.all ∙ ap (λ (l : List ℕ). l ++ last) none)
    ∙ or_none (has_one (drop n (hex_bits last)))
    ∙ ap (λ (l : List ℕ). has_one (drop n (hex_bits last)) || has_one (hex_bits l)) (sym none)
  where
    or_none : (b : Bool) → b ≡ (b || false)
    or_none true = refl
    or_none false = refl
wide_at n digits front last false e parts few =
    let whole : 16 ≤ length last = grind (arith, nat_tests) in
    ap (λ (l : List ℕ). has_one (drop n (hex_bits l))) parts.all
    ∙ ap (λ (l : List Bool). has_one (drop n l)) (hex_bits-append front last)
    ∙ ap has_one (drop-append-le n (hex_bits last) (hex_bits front) (omega (arith, hex_length last)))
    ∙ has_one-append (drop n (hex_bits last)) (hex_bits front)

-- a 1 after the last bits is in the last part's number, or in the front
pub wide_is : (k n : ℕ) (all : List Bool) (digits front last : List ℕ)
    → InParts digits front last → n ≤ 64 → drop k all ≡ hex_bits digits
    → has_one (drop (k + n) all) ≡ (not (number_of (hex_bits last) / 2 ^ n == 0) || has_one (hex_bits front))
wide_is k n all digits front last parts few is =
    ap has_one (sym (drop-drop n k all) ∙ ap (drop n) is)
    ∙ wide_at n digits front last (nat_lt (length last) 16) refl parts few
    ∙ ap (λ b. b || has_one (hex_bits front)) (above n (hex_bits last))

-- the same of all bits
pub word_wide : (n : ℕ) (digits front last : List ℕ) → InParts digits front last → n ≤ 64
    → is_wide n (hex_bits digits) ≡ (not (number_of (hex_bits last) / 2 ^ n == 0) || has_one (hex_bits front))
unfolding is_wide
word_wide n digits front last parts few =
    let all : n ≡ 0 + n = omega arith in
    ap (λ m. has_one (drop m (hex_bits digits))) all
    ∙ wide_is 0 n (hex_bits digits) digits front last parts few refl
