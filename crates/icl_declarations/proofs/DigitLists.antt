-- Digits, one more of them.
use Rattle.std.proofs.Common.{◌≡◌, ◌+◌, ◌-◌, ◌*◌, ◌<◌, ◌≤◌, ◌==◌, ℕ, zero, suc, Bool, true, false, cond, List}
use Rattle.std.proofs.Common.{[], ◌∷◌, ◌++◌, length, map, get_or, drop, Option, Some, None, refl, sym, ap}
use Rattle.std.proofs.Common.{◌∙◌, arith, length-append, length-drop, append_assoc, ◌/◌, ◌%◌, ◌^◌, nat_lt}
use Rattle.std.proofs.Common.{◌&&◌}
use Rattle.std.specs.List.{list_all}
use Rattle.std.specs.Char.{is_ascii_digit}
use Rattle.ij_bits.specs.BitLists.{bits_of}
use Rattle.ij_text.specs.Numbers.{decimal_from}
use Rattle.std.proofs.lemmas.Bool.{lt-ltb, le-ltb}
use Rattle.icl_declarations.specs.Values.{number_bits}
use Rattle.icl_declarations.specs.Sized.{decimal_bits, digits_bits, binary_digit, hex_digit}

-- the bits after a byte, and its own
pub one_more : (digit : ℕ → List (Option Bool)) (text : List ℕ) (k : ℕ) → k < length text
    → digits_bits digit (drop k text) ≡ digits_bits digit (drop (suc k) text) ++ digit (get_or text k 0)
one_more digit [] k lt = absurd (omega (arith, lt))
one_more digit (b ∷ text) zero lt = refl
one_more digit (b ∷ text) (suc k) lt = one_more digit text k (omega (arith, lt))

-- one digit more, from the end
pub next_digit : (digit : ℕ → List (Option Bool)) (text : List ℕ) (i n : ℕ) (bits more : List (Option Bool))
    → n ≡ length text → i < n → bits ≡ digits_bits digit (drop (n - i) text)
    → more ≡ bits ++ digit (get_or text (n - 1 - i) 0)
    → more ≡ digits_bits digit (drop (n - (i + 1)) text)
next_digit digit text i n bits more e lt h g =
    let same : n - (i + 1) ≡ n - 1 - i = omega arith in
    let next : suc (n - 1 - i) ≡ n - i = omega (arith, lt) in
    let step = one_more digit text (n - 1 - i) (omega (arith, lt, e)) in
    g ∙ ap (λ (l : List (Option Bool)). l ++ digit (get_or text (n - 1 - i) 0))
    (h ∙ ap (λ k. digits_bits digit (drop k text)) (sym next)) ∙ sym step
    ∙ ap (λ k. digits_bits digit (drop k text)) (sym same)

-- at most four bits to a digit
pub binary_long : (text : List ℕ) → length (digits_bits binary_digit text) ≡ length text
binary_long [] = refl
binary_long (b ∷ text) =
    let both = length-append (digits_bits binary_digit text) (binary_digit b) in
    let others = binary_long text in
    omega (arith, both, others)

pub hex_long : (text : List ℕ) → length (digits_bits hex_digit text) ≡ 4 * length text
hex_long [] = refl
hex_long (b ∷ text) =
    let both = length-append (digits_bits hex_digit text) (hex_digit b) in
    let others = hex_long text in
    omega (arith, both, others)

-- a part of a text has no more of them
pub binary_part : (text : List ℕ) (k : ℕ) → length (digits_bits binary_digit (drop k text)) ≤ length text
binary_part text k =
    let long = binary_long (drop k text) in
    let part = length-drop k text in
    omega (arith, long, part)

pub hex_part : (text : List ℕ) (k : ℕ) → length (digits_bits hex_digit (drop k text)) ≤ 4 * length text
hex_part text k =
    let long = hex_long (drop k text) in
    let part = length-drop k text in
    omega (arith, long, part)

-- one bit of a decimal more
pub bit_more : (bits more : List (Option Bool)) (w i n : ℕ) (all : List (Option Bool)) → i < w
    → bits ++ map (λ b. Some b) (bits_of (w - i) n) ≡ all → more ≡ bits ++ Some ((n % 2) == 1) ∷ []
    → more ++ map (λ b. Some b) (bits_of (w - (i + 1)) (n / 2)) ≡ all
bit_more bits more w i n all lt h g =
    let next : w - i ≡ suc (w - (i + 1)) = omega (arith, lt) in
    ap (λ (l : List (Option Bool)). l ++ map (λ b. Some b) (bits_of (w - (i + 1)) (n / 2))) g
    ∙ append_assoc bits (Some ((n % 2) == 1) ∷ []) (map (λ b. Some b) (bits_of (w - (i + 1)) (n / 2)))
    ∙ ap (λ k. bits ++ map (λ b. Some b) (bits_of k n)) (sym next)
    ∙ h

-- the bits of a decimal below 2^128
pub decimal_is : (digits : List ℕ) (n : ℕ) (bits : List (Option Bool)) → n < 2 ^ 128
    → n ≡ decimal_from 0 digits → list_all is_ascii_digit digits ≡ true
    → bits ≡ number_bits 128 n → Some bits ≡ decimal_bits digits
unfolding decimal_bits
decimal_is digits n bits lt e all h =
    let small : nat_lt (decimal_from 0 digits) (2 ^ 128) ≡ true = rw (sym e) (lt-ltb n (2 ^ 128) lt) in
    rw (all, small) (ap (λ b. Some b) (h ∙ ap (number_bits 128) e))

pub no_decimal : (digits : List ℕ) → 2 ^ 128 ≤ decimal_from 0 digits → None ≡ decimal_bits digits
unfolding decimal_bits
no_decimal digits le =
    let big : nat_lt (decimal_from 0 digits) (2 ^ 128)
    ≡ false = le-ltb (decimal_from 0 digits) (2 ^ 128) le in
    rw big (none_by (list_all is_ascii_digit digits))
  where
    none_by : (b : Bool) → None ≡ cond (b && false) (Some (number_bits 128 (decimal_from 0 digits))) None
    none_by true = refl
    none_by false = refl
