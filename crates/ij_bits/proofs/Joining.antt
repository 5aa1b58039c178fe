-- Words that are shifted by some places, and lists of words that are copied from a place that is not a word's
-- first.
use Rattle.std.proofs.Common.{◌≡◌, ◌≢◌, ◌⊎◌, inl, inr, ℕ, ◌+◌, ◌-◌, ◌*◌, ◌/◌, ◌%◌, ◌^◌, ◌<◌, ◌≤◌, List}
use Rattle.std.proofs.Common.{length, get_or, get_or-set_same, get_or-set_other, sym, ap, ◌∙◌, arith}
use Rattle.std.proofs.Math.ListN.{length-set}
use Rattle.std.specs.Prelude.{◌==◌, slice_set}
use Rattle.std.specs.Int.{bit_at}
use Rattle.std.specs.Int.RustNames.{bit_or}
use Rattle.std.proofs.lemmas.Bool.{cases_lt}
use Rattle.std.proofs.lemmas.Nat.{pow-add, and_mask}
use Rattle.std.proofs.lemmas.Nat.Bits.{bit_at_or, bit_at-zero, bit_at_cat_low, bit_at_cat_high, bit_at_above}
use Rattle.std.proofs.lemmas.Nat.Bits.{ones_shr}
use Rattle.std.proofs.Math.Pow.{pow_pos}
use Rattle.std.proofs.Math.Nat.{div-div-eq-div-mul}
use Rattle.ij_bits.specs.Words.{word_bit}
use lib.Bits.{bit_and}

-- the lower 64 bits of a number
pub inside : (x j : ℕ) → j < 64 → bit_at (x % 18446744073709551616) j ≡ bit_at x j
inside x j low =
    let whole : x ≡ x / 18446744073709551616 * 2 ^ 64 + x % 18446744073709551616 = omega arith in
    sym (ap (λ n. bit_at n j) whole
    ∙ bit_at_cat_low (x / 18446744073709551616) 64 (x % 18446744073709551616) j low)

with_zero : (n : ℕ) → n ≡ n + 0
with_zero n = omega arith

-- a word that is shifted up by s places
up_low : (x s j : ℕ) → j < s → j < 64 → bit_at (x * 2 ^ s % 18446744073709551616) j ≡ 0
up_low x s j low within =
    inside (x * 2 ^ s) j within ∙ ap (λ n. bit_at n j) (with_zero (x * 2 ^ s))
    ∙ bit_at_cat_low x s 0 j low ∙ bit_at-zero j

pub up_high : (x s j : ℕ) → s + j < 64 → bit_at (x * 2 ^ s % 18446744073709551616) (s + j) ≡ bit_at x j
up_high x s j within =
    let back : s + j - s ≡ j = omega arith in
    inside (x * 2 ^ s) (s + j) within ∙ ap (λ n. bit_at n (s + j)) (with_zero (x * 2 ^ s))
    ∙ bit_at_cat_high x s 0 (s + j) (pow_pos s) (omega arith) ∙ ap (bit_at x) back

-- a word that is shifted down by r places
pub down : (x r j : ℕ) → bit_at (x / 2 ^ r) j ≡ bit_at x (r + j)
down x r j = ap (λ n. n % 2) (div-div-eq-div-mul x (2 ^ r) (2 ^ j) ∙ ap (λ n. x / n) (sym (pow-add 2 r j)))

pub joined_low : (x next r j : ℕ) → 1 ≤ r → r + j < 64
    → bit_at (bit_or (x / 2 ^ r) (next * 2 ^ (64 - r) % 18446744073709551616)) j ≡ bit_at x (r + j)
joined_low x next r j some within =
    bit_at_or (x / 2 ^ r) _ j ∙ omega (arith, up_low next (64 - r) j (omega arith) (omega arith), down x r j)

pub joined_high : (x next r j : ℕ) → x < 18446744073709551616 → r < 64 → j < r
    → bit_at (bit_or (x / 2 ^ r) (next * 2 ^ (64 - r) % 18446744073709551616)) (64 - r + j) ≡ bit_at next j
joined_high x next r j fits inside_word low =
    let none = bit_at_above x 64 (r + (64 - r + j)) fits (omega arith) in
    bit_at_or (x / 2 ^ r) _ (64 - r + j)
    ∙ omega (arith, up_high next (64 - r) j (omega arith), down x r (64 - r + j), none)

-- a bit by its word and its place there
word_bit_is : (words : List ℕ) (k q r : ℕ) → k ≡ 64 * q + r → r < 64
    → word_bit words k ≡ (bit_at (get_or words q 0) r == 1)
unfolding word_bit
word_bit_is words k q r at low =
    let word : k / 64 ≡ q = omega arith in
    let place : k % 64 ≡ r = omega arith in
    ap (λ n. bit_at (get_or words n 0) (k % 64) == 1) word ∙ ap (λ n. bit_at (get_or words q 0) n == 1) place

-- 64 bits are read
pub read_aligned : (words : List ℕ) (i j : ℕ) → i % 64 ≡ 0 → j < 64
    → (bit_at (get_or words (i / 64) 0) j == 1) ≡ word_bit words (i + j)
read_aligned words i j first low = sym (word_bit_is words (i + j) (i / 64) j (omega arith) low)

pub read_joined : (words : List ℕ) (i word next j : ℕ)
    → ((k : ℕ) → i % 64 + k < 64 → bit_at word k ≡ bit_at (get_or words (i / 64) 0) (i % 64 + k))
    → ((k : ℕ) → k < i % 64 → bit_at word (64 - i % 64 + k) ≡ bit_at next k)
    → (i / 64 + 1 < length words → next ≡ get_or words (i / 64 + 1) 0)
    → j < 64 → i + j < 64 * length words → (bit_at word j == 1) ≡ word_bit words (i + j)
read_joined words i word next j low high next_is below within =
    elim (cases_lt (i % 64 + j) 64) [
      | inl near ↦ ap (λ b. b == 1) (low j near)
          ∙ sym (word_bit_is words (i + j) (i / 64) (i % 64 + j) (omega arith) near)
      | inr far ↦
          let k : ℕ = j - (64 - i % 64) in
          let place : 64 - i % 64 + k ≡ j = omega arith in
          let more : i / 64 + 1 < length words = omega arith in
          ap (λ b. b == 1)
          (ap (bit_at word) (sym place) ∙ high k (omega arith) ∙ ap (λ w. bit_at w k) (next_is more))
          ∙ sym (word_bit_is words (i + j) (i / 64 + 1) k (omega arith) (omega arith))
    ]

-- 64 bits are written
pub write_at : (words : List ℕ) (i here next word j : ℕ) → get_or words (i / 64) 0 ≡ here
    → (i / 64 + 1 < length words → get_or words (i / 64 + 1) 0 ≡ next)
    → ((k : ℕ) → i % 64 + k < 64 → bit_at here (i % 64 + k) ≡ bit_at word k)
    → ((k : ℕ) → k < i % 64 → bit_at next k ≡ bit_at word (64 - i % 64 + k))
    → j < 64 → i + j < 64 * length words → word_bit words (i + j) ≡ (bit_at word j == 1)
write_at words i here next word j here_is next_is low high below within =
    elim (cases_lt (i % 64 + j) 64) [
      | inl near ↦ word_bit_is words (i + j) (i / 64) (i % 64 + j) (omega arith) near
          ∙ ap (λ w. bit_at w (i % 64 + j) == 1) here_is ∙ ap (λ b. b == 1) (low j near)
      | inr far ↦
          let k : ℕ = j - (64 - i % 64) in
          let place : 64 - i % 64 + k ≡ j = omega arith in
          let more : i / 64 + 1 < length words = omega arith in
          word_bit_is words (i + j) (i / 64 + 1) k (omega arith) (omega arith)
          ∙ ap (λ b. b == 1)
          (ap (λ w. bit_at w k) (next_is more) ∙ high k (omega arith) ∙ ap (bit_at word) place)
    ]

pub write_below : (old words : List ℕ) (i here k : ℕ) → get_or words (i / 64) 0 ≡ here
    → ((q : ℕ) → q < i / 64 → get_or words q 0 ≡ get_or old q 0)
    → ((j : ℕ) → j < i % 64 → bit_at here j ≡ bit_at (get_or old (i / 64) 0) j)
    → k < i → word_bit words k ≡ word_bit old k
write_below old words i here k here_is kept low below =
    elim (cases_lt (k / 64) (i / 64)) [
      | inl front ↦
          let at : k ≡ 64 * (k / 64) + k % 64 = omega arith in
          word_bit_is words k (k / 64) (k % 64) at (omega arith) ∙ ap (λ w. bit_at w (k % 64) == 1)
          (kept (k / 64) front) ∙ sym (word_bit_is old k (k / 64) (k % 64) at (omega arith))
      | inr same ↦
          let at : k ≡ 64 * (i / 64) + k % 64 = omega arith in
          word_bit_is words k (i / 64) (k % 64) at (omega arith) ∙ ap (λ w. bit_at w (k % 64) == 1) here_is
          ∙ ap (λ b. b == 1) (low (k % 64) (omega arith))
          ∙ sym (word_bit_is old k (i / 64) (k % 64) at (omega arith))
    ]

-- one more word is copied
pub copied_step : (new old other : List ℕ) (at from i n word k : ℕ) → ((j : ℕ) → j < 64
    → at + 64 * i + j < 64 * length old → word_bit new (at + 64 * i + j) ≡ (bit_at word j == 1))
    → ((j : ℕ) → j < at + 64 * i → word_bit new j ≡ word_bit old j) → ((j : ℕ) → j < 64
    → from + 64 * i + j < 64 * length other → (bit_at word j == 1) ≡ word_bit other (from + 64 * i + j))
    → ((j : ℕ) → j < 64 * i → j < n → word_bit old (at + j) ≡ word_bit other (from + j))
    → at + n ≤ 64 * length old → from + n ≤ 64 * length other
    → k < 64 * (i + 1) → k < n → word_bit new (at + k) ≡ word_bit other (from + k)
copied_step new old other at from i n word k put below read copied within there following inner =
    elim (cases_lt k (64 * i)) [
      | inl front ↦ below (at + k) (omega arith) ∙ copied k front inner
      | inr here ↦
          let j : ℕ = k - 64 * i in
          let to : at + 64 * i + j ≡ at + k = omega arith in
          let from_is : from + 64 * i + j ≡ from + k = omega arith in
          ap (word_bit new) (sym to) ∙ put j (omega arith) (omega arith)
          ∙ read j (omega arith) (omega arith) ∙ ap (word_bit other) from_is
    ]

-- a word is written that covers the bits from position i on
pub one_at : (old : List ℕ) (i here word j : ℕ) → i / 64 < length old
    → ((k : ℕ) → i % 64 + k < 64 → bit_at here (i % 64 + k) ≡ bit_at word k)
    → length old ≤ i / 64 + 1 ⊎ i % 64 ≡ 0 → j < 64 → i + j < 64 * length old
    → word_bit (slice_set old (i / 64) here) (i + j) ≡ (bit_at word j == 1)
one_at old i here word j there low last below within =
    let set : List ℕ = slice_set old (i / 64) here in
    let near : i % 64 + j < 64 = elim last [ inl end ↦ omega arith | inr first ↦ omega arith ] in
    word_bit_is set (i + j) (i / 64) (i % 64 + j) (omega arith) near ∙ ap (λ w. bit_at w (i % 64 + j) == 1)
    (get_or-set_same old (i / 64) here 0 there) ∙ ap (λ b. b == 1) (low j near)

pub one_below : (old : List ℕ) (i here k : ℕ) → i / 64 < length old
    → ((j : ℕ) → j < i % 64 → bit_at here j ≡ bit_at (get_or old (i / 64) 0) j) → k < i
    → word_bit (slice_set old (i / 64) here) k ≡ word_bit old k
one_below old i here k there low below =
    write_below old (slice_set old (i / 64) here) i here k (get_or-set_same old (i / 64) here 0 there)
    (λ q front. let apart : q ≢ i / 64 = omega arith in
    get_or-set_other old (i / 64) q here 0 apart) low below

-- two words are written
pub two_at : (old : List ℕ) (i here next word j : ℕ) → i / 64 + 1 < length old
    → ((k : ℕ) → i % 64 + k < 64 → bit_at here (i % 64 + k) ≡ bit_at word k)
    → ((k : ℕ) → k < i % 64 → bit_at next k ≡ bit_at word (64 - i % 64 + k))
    → j < 64 → i + j < 64 * length old
    → word_bit (slice_set (slice_set old (i / 64) here) (i / 64 + 1) next) (i + j) ≡ (bit_at word j == 1)
two_at old i here next word j there low high below within =
    let one : List ℕ = slice_set old (i / 64) here in
    let two : List ℕ = slice_set one (i / 64 + 1) next in
    let length_one : length one ≡ length old = length-set old (i / 64) here in
    let length_two : length two ≡ length old = length-set one (i / 64 + 1) next ∙ length_one in
    let apart : i / 64 ≢ i / 64 + 1 = omega arith in
    let here_is : get_or two (i / 64) 0 ≡ here = get_or-set_other one (i / 64 + 1) (i / 64) next 0 apart
    ∙ get_or-set_same old (i / 64) here 0 (omega arith) in
    write_at two i here next word j here_is
    (λ more. get_or-set_same one (i / 64 + 1) next 0 (omega arith)) low high below (omega arith)

pub two_below : (old : List ℕ) (i here next k : ℕ) → i / 64 < length old
    → ((j : ℕ) → j < i % 64 → bit_at here j ≡ bit_at (get_or old (i / 64) 0) j) → k < i
    → word_bit (slice_set (slice_set old (i / 64) here) (i / 64 + 1) next) k ≡ word_bit old k
two_below old i here next k there low below =
    let one : List ℕ = slice_set old (i / 64) here in
    let apart : k / 64 ≢ i / 64 + 1 = omega arith in
    let at : k ≡ 64 * (k / 64) + k % 64 = omega arith in
    let here_low : k % 64 < 64 = omega arith in
    word_bit_is (slice_set one (i / 64 + 1) next) k (k / 64) (k % 64) at here_low
    ∙ ap (λ w. bit_at w (k % 64) == 1) (get_or-set_other one (i / 64 + 1) (k / 64) next 0 apart)
    ∙ sym (word_bit_is one k (k / 64) (k % 64) at here_low) ∙ one_below old i here k there low below

-- what comes after the 64 bits stays
pub one_after : (old : List ℕ) (i here k : ℕ) → i + 64 ≤ k
    → word_bit (slice_set old (i / 64) here) k ≡ word_bit old k
unfolding word_bit
one_after old i here k after =
    let apart : k / 64 ≢ i / 64 = omega arith in
    ap (λ w. bit_at w (k % 64) == 1) (get_or-set_other old (i / 64) (k / 64) here 0 apart)

pub two_after : (old : List ℕ) (i here next k : ℕ) → i / 64 + 1 < length old
    → ((j : ℕ) → j < 64 - i % 64 → bit_at next (i % 64 + j) ≡ bit_at (get_or old (i / 64 + 1) 0) (i % 64 + j))
    → i + 64 ≤ k
    → word_bit (slice_set (slice_set old (i / 64) here) (i / 64 + 1) next) k ≡ word_bit old k
two_after old i here next k there kept after =
    let one : List ℕ = slice_set old (i / 64) here in
    let length_one : length one ≡ length old = length-set old (i / 64) here in
    let at : k ≡ 64 * (k / 64) + k % 64 = omega arith in
    let low : k % 64 < 64 = omega arith in
    elim (cases_lt (i / 64 + 1) (k / 64)) [
      | inl far ↦
          let apart : k / 64 ≢ i / 64 + 1 = omega arith in
          word_bit_is (slice_set one (i / 64 + 1) next) k (k / 64) (k % 64) at low
          ∙ ap (λ w. bit_at w (k % 64) == 1) (get_or-set_other one (i / 64 + 1) (k / 64) next 0 apart)
          ∙ sym (word_bit_is one k (k / 64) (k % 64) at low) ∙ one_after old i here k after
      | inr near ↦
          let place : k ≡ 64 * (i / 64 + 1) + k % 64 = omega arith in
          let back : i % 64 + (k % 64 - i % 64) ≡ k % 64 = omega arith in
          word_bit_is (slice_set one (i / 64 + 1) next) k (i / 64 + 1) (k % 64) place low
          ∙ ap (λ w. bit_at w (k % 64) == 1) (get_or-set_same one (i / 64 + 1) next 0 (omega arith))
          ∙ ap (λ j. bit_at next j == 1) (sym back) ∙ ap (λ b. b == 1) (kept (k % 64 - i % 64) (omega arith))
          ∙ ap (λ j. bit_at (get_or old (i / 64 + 1) 0) j == 1) back
          ∙ sym (word_bit_is old k (i / 64 + 1) (k % 64) place low)
    ]

pub kept_high : (old : List ℕ) (i here next j : ℕ)
    → ((k : ℕ) → k < 64 - i % 64 → bit_at next (64 - (64 - i % 64) + k)
    ≡ bit_at (get_or (slice_set old (i / 64) here) (i / 64 + 1) 0 / 2 ^ (i % 64)) k) → j < 64 - i % 64
    → bit_at next (i % 64 + j) ≡ bit_at (get_or old (i / 64 + 1) 0) (i % 64 + j)
kept_high old i here next j high low =
    let place : 64 - (64 - i % 64) + j ≡ i % 64 + j = omega arith in
    let apart : i / 64 + 1 ≢ i / 64 = omega arith in
    ap (bit_at next) (sym place) ∙ high j low
    ∙ down (get_or (slice_set old (i / 64) here) (i / 64 + 1) 0) (i % 64) j
    ∙ ap (λ w. bit_at w (i % 64 + j)) (get_or-set_other old (i / 64) (i / 64 + 1) here 0 apart)

-- a word's lowest n bits, and on top of them those that are in a list after these
pub covered_bit : (words : List ℕ) (at n word rest full k : ℕ)
    → ((j : ℕ) → n + j < 64 → bit_at full (n + j) ≡ bit_at rest j)
    → ((j : ℕ) → j < 64 → at + n + j < 64 * length words → (bit_at rest j == 1) ≡ word_bit words (at + n + j))
    → at + n ≤ k → k < at + 64 → k < 64 * length words → (bit_at full (k - at) == 1) ≡ word_bit words k
covered_bit words at n word rest full k high read after near within =
    let j : ℕ = k - at - n in
    let back : n + j ≡ k - at = omega arith in
    let place : at + n + j ≡ k = omega arith in
    ap (λ i. bit_at full i == 1) (sym back) ∙ ap (λ b. b == 1) (high j (omega arith))
    ∙ read j (omega arith) (omega arith) ∙ ap (word_bit words) place

pub put_kept : (old new : List ℕ) (at full k : ℕ)
    → ((j : ℕ) → j < 64 → at + j < 64 * length old → word_bit new (at + j) ≡ (bit_at full j == 1))
    → ((j : ℕ) → at + 64 ≤ j → word_bit new j ≡ word_bit old j)
    → (k < at + 64 → (bit_at full (k - at) == 1) ≡ word_bit old k) → at ≤ k
    → k < 64 * length old → word_bit new k ≡ word_bit old k
put_kept old new at full k put following kept after within =
    elim (cases_lt k (at + 64)) [
      | inl near ↦
          let place : at + (k - at) ≡ k = omega arith in
          ap (word_bit new) (sym place) ∙ put (k - at) (omega arith) (omega arith) ∙ kept near
      | inr far ↦ following k far
    ]

-- ---- the lowest n bits of a word

pub lowest : (x n : ℕ) → n ≤ 64 → bit_and x (18446744073709551615 / 2 ^ (64 - n)) ≡ x % 2 ^ n
lowest x n few =
    let own : 64 - (64 - n) ≡ n = omega arith in
    ap (bit_and x) (ones_shr 64 (64 - n) (omega arith) ∙ ap (λ k. 2 ^ k - 1) own) ∙ and_mask x n

pub low_bit : (x n k : ℕ) → k < n → bit_at (x % 2 ^ n) k ≡ bit_at x k
low_bit x n k low =
    let whole : x ≡ x / 2 ^ n * 2 ^ n + x % 2 ^ n = omega arith in
    sym (ap (λ y. bit_at y k) whole ∙ bit_at_cat_low (x / 2 ^ n) n (x % 2 ^ n) k low)
