-- What is known of the bits of a word.
use Rattle.std.proofs.Common.{◌≡◌, ◌≢◌, inl, inr, ℕ, zero, suc, ◌+◌, ◌-◌, ◌*◌, ◌/◌, ◌%◌, ◌^◌, ◌<◌, min, max}
use Rattle.std.proofs.Common.{true, false, List, length, get_or, get_or-set_same, get_or-set_other, refl, sym}
use Rattle.std.proofs.Common.{ap, subst, ◌∙◌, arith, w64}
use Rattle.std.specs.Prelude.{◌==◌, ◌&&◌, ◌||◌, not, slice_set}
use Rattle.std.specs.Int.{bit_at, bit_not, trailing_ones}
use Rattle.std.specs.Int.RustNames.{bit_or}
use lib.Bits.{bit_and}
use Rattle.std.proofs.lemmas.Bool.Decides.{eqb_tells, nat_tests}
use Rattle.std.proofs.lemmas.Nat.Bits.{bit_at_or, bit_at_and, bit_at_not, bit_at-lt, bit_at_set_same}
use Rattle.std.proofs.lemmas.Nat.Bits.{bit_at_set_other, bit_at_ones, bit_at-trailing_ones}
use Rattle.pdl_targets.specs.Sets.{StampedSet, has_round, is_in_words, word_of}

one_of_both : (w o : ℕ) → w < 2 → o < 2 → (max w o == 1) ≡ (w == 1 || o == 1)
one_of_both zero zero a b = refl
one_of_both zero (suc zero) a b = refl
one_of_both (suc zero) zero a b = refl
one_of_both (suc zero) (suc zero) a b = refl
one_of_both (suc (suc w)) o a b = absurd (omega arith)
one_of_both zero (suc (suc o)) a b = absurd (omega arith)
one_of_both (suc zero) (suc (suc o)) a b = absurd (omega arith)

first_alone : (w o : ℕ) → w < 2 → o < 2 → (min w (1 - o) == 1) ≡ (w == 1 && not (o == 1))
first_alone zero zero a b = refl
first_alone zero (suc zero) a b = refl
first_alone (suc zero) zero a b = refl
first_alone (suc zero) (suc zero) a b = refl
first_alone (suc (suc w)) o a b = absurd (omega arith)
first_alone zero (suc (suc o)) a b = absurd (omega arith)
first_alone (suc zero) (suc (suc o)) a b = absurd (omega arith)

-- bit j of `word | other`
pub either_bit : (word other j : ℕ)
    → (bit_at (bit_or word other) j == 1) ≡ (bit_at word j == 1 || bit_at other j == 1)
either_bit word other j = ap (λ b. b == 1) (bit_at_or word other j)
    ∙ one_of_both (bit_at word j) (bit_at other j) (bit_at-lt word j) (bit_at-lt other j)

-- bit j of `word & !other`
pub without_bit : (word other j : ℕ) → other < 18446744073709551616 → j < 64
    → (bit_at (bit_and word (bit_not w64 other)) j == 1) ≡ (bit_at word j == 1 && not (bit_at other j == 1))
without_bit word other j fits low =
    ap (λ b. b == 1)
    (bit_at_and word (bit_not w64 other) j ∙ ap (min (bit_at word j)) (bit_at_not w64 other j fits low))
    ∙ first_alone (bit_at word j) (bit_at other j) (bit_at-lt word j) (bit_at-lt other j)

-- bit j of `word | 1 << bit`
pub bit_more : (word bit j : ℕ) → bit < 64
    → (bit_at (bit_or word (1 * 2 ^ bit % 18446744073709551616)) j == 1) ≡ (j == bit || bit_at word j == 1)
bit_more word bit j low =
    elim (eqb_tells j bit) [
      | inl same ↦
          ap (λ i. bit_at (bit_or word (1 * 2 ^ bit % 18446744073709551616)) i == 1) same.1
          ∙ ap (λ b. b == 1) (bit_at_set_same w64 word bit low)
          ∙ ap (λ t. t || bit_at word j == 1) (sym same.0)
      | inr apart ↦ ap (λ b. b == 1) (bit_at_set_other w64 word bit low j apart.1)
          ∙ ap (λ t. t || bit_at word j == 1) (sym apart.0)
    ]

-- a word is written that has one round more
pub round_put : (words : List ℕ) (round word k : ℕ) → round / 64 < length words
    → ((j : ℕ) → (bit_at word j == 1) ≡ (j == round % 64 || bit_at (get_or words (round / 64) 0) j == 1))
    → is_in_words (slice_set words (round / 64) word) k ≡ (k == round || is_in_words words k)
round_put words round word k within more =
    elim (eqb_tells (k / 64) (round / 64)) [
      | inl here ↦
          ap (λ w. bit_at w (k % 64) == 1) (ap (λ q. get_or (slice_set words (round / 64) word) q 0) here.1
          ∙ get_or-set_same words (round / 64) word 0 within)
          ∙ more (k % 64)
          ∙ ap (λ t. t || bit_at (get_or words (round / 64) 0) (k % 64) == 1) (same_place k round here.1)
          ∙ ap (λ q. k == round || bit_at (get_or words q 0) (k % 64) == 1) (sym here.1)
      | inr away ↦
          ap (λ w. bit_at w (k % 64) == 1) (get_or-set_other words (round / 64) (k / 64) word 0 away.1)
          ∙ ap (λ t. t || is_in_words words k) (sym (other k round away.1))
    ]
  where
    same_place : (a b : ℕ) → a / 64 ≡ b / 64 → (a % 64 == b % 64) ≡ (a == b)
    same_place a b same =
        elim (eqb_tells a b) [
          | inl is ↦ ap (λ c. c % 64 == b % 64) is.1 ∙ reflexive (b % 64) ∙ sym is.0
          | inr apart ↦ differ (a % 64) (b % 64) (λ e. apart.1 (omega arith)) ∙ sym apart.0
        ]
      where
        reflexive : (n : ℕ) → (n == n) ≡ true
        reflexive n = grind (arith, nat_tests)

        differ : (m n : ℕ) → m ≢ n → (m == n) ≡ false
        differ m n apart = grind (arith, nat_tests)

    other : (a b : ℕ) → a / 64 ≢ b / 64 → (a == b) ≡ false
    other a b apart =
        elim (eqb_tells a b) [
          | inl is ↦ absurd (apart (ap (λ c. c / 64) is.1))
          | inr differ ↦ differ.0
        ]

-- the lowest bit that is 0
pub all_ones : (word j : ℕ) → word ≡ 18446744073709551615 → j < 64 → bit_at word j ≡ 1
all_ones word j full low = ap (λ w. bit_at w j) full ∙ bit_at_ones 64 j low

pub lowest_zero : (word k : ℕ) → word < 18446744073709551616
    → word ≢ 18446744073709551615 → k ≡ trailing_ones w64 word
    → (k < 64) × (bit_at word k ≡ 0) × ((j : ℕ) → j < k → bit_at word j ≡ 1)
lowest_zero word k fits some is =
    let P : ℕ → Type 0 = λ n. (n < 64) × (bit_at word n ≡ 0) × ((j : ℕ) → j < n → bit_at word j ≡ 1) in
    subst P (sym is) (bit_at-trailing_ones w64 word (omega (arith, some)))

-- one of 64 rounds of a set
pub word_place : (stamp : ℕ) (s : StampedSet) (w j : ℕ) → j < 64
    → (bit_at (word_of stamp s w) j == 1) ≡ has_round stamp s (64 * w + j)
word_place stamp s w j low =
    let q : w ≡ (64 * w + j) / 64 = omega arith in
    let r : j ≡ (64 * w + j) % 64 = omega arith in
    ap (λ v. bit_at (word_of stamp s v) j == 1) q
    ∙ ap (λ i. bit_at (word_of stamp s ((64 * w + j) / 64)) i == 1) r
