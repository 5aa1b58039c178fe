-- Words of which some bits are marked.
use Rattle.std.proofs.Common.{◌≡◌, ◌↔◌, ◌≢◌, inl, inr, ℕ, zero, suc, ◌+◌, ◌-◌, ◌*◌, ◌/◌, ◌%◌, ◌^◌, ◌<◌, ◌≤◌}
use Rattle.std.proofs.Common.{min, max, Bool, true, false, cond, IsTrue, nat_eq, List, length, get_or}
use Rattle.std.proofs.Common.{get_or-set_same, get_or-set_other, refl, sym, ap, ◌∙◌, arith}
use Rattle.std.specs.Prelude.{◌==◌, ◌⊎◌, slice_set, slice_range}
use Rattle.std.specs.Int.{bit_at, bit_not}
use Rattle.std.specs.Int.RustNames.{bit_or, bit_xor}
use lib.Bits.{bit_and}
use Rattle.std.proofs.Common.{w64}
use Rattle.std.proofs.lemmas.Bool.{cases_lt, false≢true}
use Rattle.std.proofs.lemmas.Bool.Decides.{eqb_tells, nat_tests}
use Rattle.std.proofs.lemmas.List.{get_or_past, take_all}
use Rattle.std.proofs.lemmas.Nat.Bits.{bit_at_or, bit_at_and, bit_at_xor, bit_at_not, bit_at-lt, bit_at-zero}
use Rattle.std.proofs.lemmas.Nat.Bits.{bit_at_above, same_from_bits}
use Rattle.ij_bits.specs.BitLists.{bits_of, number_of}
use Rattle.ij_bits.specs.Ternary.{Agrees}
use Rattle.ij_bits.specs.Words.{word_bit, first_bits}
use Rattle.ij_bits.proofs.WordBits.{get_or-bits_of, length-bits_of, length-first_bits, get_or-first_bits}
use Rattle.ij_bits.proofs.Hex.{number_bit}

-- ---- a word of which marked bits are another's

-- one bit, by the three that it is made of
one_merged : (w o m : ℕ) → w < 2 → o < 2 → m < 2
    → (max (min w (1 - m)) (min o m) == 1) ≡ cond (m == 1) (o == 1) (w == 1)
one_merged zero zero zero a b c = refl
one_merged zero zero (suc zero) a b c = refl
one_merged zero (suc zero) zero a b c = refl
one_merged zero (suc zero) (suc zero) a b c = refl
one_merged (suc zero) zero zero a b c = refl
one_merged (suc zero) zero (suc zero) a b c = refl
one_merged (suc zero) (suc zero) zero a b c = refl
one_merged (suc zero) (suc zero) (suc zero) a b c = refl
one_merged (suc (suc w)) o m a b c = absurd (omega arith)
one_merged zero (suc (suc o)) m a b c = absurd (omega arith)
one_merged (suc zero) (suc (suc o)) m a b c = absurd (omega arith)
one_merged zero zero (suc (suc m)) a b c = absurd (omega arith)
one_merged zero (suc zero) (suc (suc m)) a b c = absurd (omega arith)
one_merged (suc zero) zero (suc (suc m)) a b c = absurd (omega arith)
one_merged (suc zero) (suc zero) (suc (suc m)) a b c = absurd (omega arith)

pub merged_bit : (word other mask k : ℕ) → mask < 18446744073709551616 → k < 64
    → (bit_at (bit_or (bit_and word (bit_not w64 mask)) (bit_and other mask)) k == 1)
    ≡ cond (bit_at mask k == 1) (bit_at other k == 1) (bit_at word k == 1)
merged_bit word other mask k fits low =
    let w : ℕ = bit_at word k in
    let o : ℕ = bit_at other k in
    let m : ℕ = bit_at mask k in
    let kept : bit_at (bit_and word (bit_not w64 mask)) k ≡ min w (1 - m) =
    bit_at_and word (bit_not w64 mask) k ∙ ap (min w) (bit_at_not w64 mask k fits low) in
    ap (λ b. b == 1) (bit_at_or (bit_and word (bit_not w64 mask)) (bit_and other mask) k ∙ ap (λ b. max b
    (bit_at (bit_and other mask) k)) kept ∙ ap (max (min w (1 - m))) (bit_at_and other mask k))
    ∙ one_merged w o m (bit_at-lt word k) (bit_at-lt other k) (bit_at-lt mask k)

-- ---- lists of words

-- a word is written: the bits of the others stay
pub word_bit-away : (words : List ℕ) (i w k : ℕ) → k / 64 ≢ i
    → word_bit (slice_set words i w) k ≡ word_bit words k
unfolding word_bit
word_bit-away words i w k away = ap (λ x. bit_at x (k % 64) == 1) (get_or-set_other words i (k / 64) w 0 away)

word_bit-here : (words : List ℕ) (i w k : ℕ) → i < length words → k / 64 ≡ i
    → word_bit (slice_set words i w) k ≡ (bit_at w (k % 64) == 1)
unfolding word_bit
word_bit-here words i w k within here =
    ap (λ x. bit_at x (k % 64) == 1)
    (ap (λ q. get_or (slice_set words i w) q 0) here ∙ get_or-set_same words i w 0 within)

own_bit : (words : List ℕ) (i k : ℕ) → k / 64 ≡ i
    → (bit_at (get_or words i 0) (k % 64) == 1) ≡ word_bit words k
unfolding word_bit
own_bit words i k here = ap (λ q. bit_at (get_or words q 0) (k % 64) == 1) (sym here)

no_mark : (mask m j : ℕ) → mask < 2 ^ m → m ≤ j → (bit_at mask j == 1) ≡ false
no_mark mask m j small past = ap (λ b. b == 1) (bit_at_above mask m j small past)

-- the bits of one word more are put
pub put_front : (words old other marks : List ℕ) (i n m mask word k : ℕ)
    → i < length words → m ≡ min (n - 64 * i) 64
    → ((j : ℕ) → j < m → (bit_at mask j == 1) ≡ word_bit marks (64 * i + j))
    → ((j : ℕ) → j < 64 → (bit_at word j == 1)
    ≡ cond (bit_at mask j == 1) (bit_at (get_or other i 0) j == 1) (bit_at (get_or words i 0) j == 1))
    → ((j : ℕ) → j < 64 * i → j < n
    → word_bit words j ≡ cond (word_bit marks j) (word_bit other j) (word_bit old j))
    → ((j : ℕ) → 64 * i ≤ j → word_bit words j ≡ word_bit old j)
    → k < 64 * (i + 1) → k < n
    → word_bit (slice_set words i word) k ≡ cond (word_bit marks k) (word_bit other k) (word_bit old k)
put_front words old other marks i n m mask word k there size marked merged front following below within =
    elim (cases_lt k (64 * i)) [
      | inl before ↦
          let away : k / 64 ≢ i = omega arith in
          word_bit-away words i word k away ∙ front k before within
      | inr after ↦
          let here : k / 64 ≡ i = omega arith in
          let j : ℕ = k % 64 in
          let at : 64 * i + j ≡ k = omega arith in
          word_bit-here words i word k there here ∙ merged j (omega arith)
          ∙ ap (λ t. cond t (bit_at (get_or other i 0) j == 1) (bit_at (get_or words i 0) j == 1))
          (marked j (omega arith) ∙ ap (word_bit marks) at)
          ∙ ap (λ t. cond (word_bit marks k) t (bit_at (get_or words i 0) j == 1)) (own_bit other i k here)
          ∙ ap (λ t. cond (word_bit marks k) (word_bit other k) t)
          (own_bit words i k here ∙ following k after)
    ]

pub put_after : (words old other : List ℕ) (i n m mask word k : ℕ) → i < length words
    → m ≡ min (n - 64 * i) 64 → mask < 2 ^ m
    → ((j : ℕ) → j < 64 → (bit_at word j == 1)
    ≡ cond (bit_at mask j == 1) (bit_at (get_or other i 0) j == 1) (bit_at (get_or words i 0) j == 1))
    → ((j : ℕ) → n ≤ j → word_bit words j ≡ word_bit old j) → n ≤ k
    → word_bit (slice_set words i word) k ≡ word_bit old k
put_after words old other i n m mask word k there size small merged past beyond =
    elim (eqb_tells (k / 64) i) [
      | inl same ↦
          let here : k / 64 ≡ i = same.1 in
          let j : ℕ = k % 64 in
          word_bit-here words i word k there here ∙ merged j (omega arith)
          ∙ ap (λ t. cond t (bit_at (get_or other i 0) j == 1) (bit_at (get_or words i 0) j == 1))
          (no_mark mask m j small (omega (arith, same.1)))
          ∙ own_bit words i k here ∙ past k beyond
      | inr apart ↦ word_bit-away words i word k apart.1 ∙ past k beyond
    ]

-- ---- numbers that agree where bits count

is_bit : (n k : ℕ) → (bit_at n k ≡ 0) ⊎ (bit_at n k ≡ 1)
is_bit n k = elim (cases_lt (bit_at n k) 1) [
  | inl low ↦ inl (omega arith)
  | inr high ↦ inr (omega (arith, bit_at-lt n k))
]

same_bits : (x y : ℕ) → x < 2 → y < 2 → (x == 1) ≡ (y == 1) → x ≡ y
same_bits zero zero a b e = refl
same_bits (suc zero) (suc zero) a b e = refl
same_bits zero (suc zero) a b e = absurd (false≢true e)
same_bits (suc zero) zero a b e = absurd (false≢true (sym e))
same_bits (suc (suc x)) y a b e = absurd (omega arith)
same_bits zero (suc (suc y)) a b e = absurd (omega arith)
same_bits (suc zero) (suc (suc y)) a b e = absurd (omega arith)

pub is_one : (y : ℕ) → (y == 1) ≡ true → y ≡ 1
is_one y h = grind (arith, nat_tests)

mixed_bit : (v x c k : ℕ)
    → bit_at (bit_and (bit_xor v x) c) k ≡ min ((bit_at v k + bit_at x k) % 2) (bit_at c k)
mixed_bit v x c k = bit_at_and (bit_xor v x) c k ∙ ap (λ b. min b (bit_at c k)) (bit_at_xor v x k)

agree_to : (vs cs : List Bool) (n x : ℕ) → bit_and (bit_xor (number_of vs) x) (number_of cs) ≡ 0 → (k : ℕ)
    → k < length (bits_of n x) → get_or cs k false ≡ true → get_or (bits_of n x) k false ≡ get_or vs k false
agree_to vs cs n x none k within counts =
    let v : ℕ = number_of vs in
    let c : ℕ = number_of cs in
    let low : k < n = omega (arith, length-bits_of n x) in
    let c_is : bit_at c k ≡ 1 = is_one (bit_at c k) (number_bit cs k ∙ counts) in
    let zero_bit : min ((bit_at v k + bit_at x k) % 2) (bit_at c k)
    ≡ 0 = sym (mixed_bit v x c k) ∙ ap (λ z. bit_at z k) none ∙ bit_at-zero k in
    let same : bit_at x k ≡ bit_at v k = omega (arith, bit_at-lt v k, bit_at-lt x k) in
    get_or-bits_of n x k low ∙ ap (λ b. b == 1) same ∙ number_bit vs k

agree_at : (vs cs : List Bool) (n x : ℕ) → length cs ≡ n → ((k : ℕ) → k < length (bits_of n x)
    → get_or cs k false ≡ true → get_or (bits_of n x) k false ≡ get_or vs k false) → (k : ℕ)
    → min ((bit_at (number_of vs) k + bit_at x k) % 2) (bit_at (number_of cs) k) ≡ 0
agree_at vs cs n x length_c same k =
    let v : ℕ = number_of vs in
    let c : ℕ = number_of cs in
    elim (is_bit c k) [
      | inl none ↦ omega (arith, none)
      | inr one ↦
          let counts : get_or cs k false ≡ true = sym (number_bit cs k) ∙ ap (λ b. b == 1) one in
          elim (cases_lt k n) [
            | inl low ↦
                let read : get_or (bits_of n x) k false
                ≡ get_or vs k false = same k (omega (arith, length-bits_of n x)) counts in
                let equal : bit_at x k ≡ bit_at v k = same_bits (bit_at x k) (bit_at v k) (bit_at-lt x k)
                (bit_at-lt v k) (sym (get_or-bits_of n x k low) ∙ read ∙ sym (number_bit vs k)) in
                omega (arith, equal, bit_at-lt v k)
            | inr past ↦ absurd (false≢true (sym (get_or_past cs k false (omega arith)) ∙ counts))
          ]
    ]

zero_test : (z : ℕ) → IsTrue (nat_eq z 0) → z ≡ 0
zero_test z h = grind (arith, nat_tests)

test_zero : (z : ℕ) → z ≡ 0 → IsTrue (nat_eq z 0)
test_zero z h = grind (arith, nat_tests)

pub agree_where : (vs cs : List Bool) (n x v c : ℕ) → length cs ≡ n → v ≡ number_of vs → c ≡ number_of cs
    → IsTrue (nat_eq (bit_and (bit_xor v x) c) 0) ↔ Agrees vs cs (bits_of n x)
agree_where vs cs n x v c length_c is_v is_c =
    let z : bit_and (bit_xor v x) c ≡ bit_and (bit_xor (number_of vs) x) (number_of cs) =
    ap (λ y. bit_and (bit_xor y x) c) is_v ∙ ap (bit_and (bit_xor (number_of vs) x)) is_c in (
      λ h. agree_to vs cs n x (sym z ∙ zero_test (bit_and (bit_xor v x) c) h),
      λ same. test_zero (bit_and (bit_xor v x) c)
          (z ∙ same_from_bits (bit_and (bit_xor (number_of vs) x) (number_of cs)) 0 (λ k. mixed_bit
          (number_of vs) x (number_of cs) k ∙ agree_at vs cs n x length_c same k ∙ sym (bit_at-zero k))),
    )

-- all of a list
pub whole : (xs : List Bool) (n : ℕ) → length xs ≡ n → slice_range xs 0 (0 + n) ≡ xs
whole xs n len = take_all (0 + n - 0) xs (omega arith)

-- ---- a list of bits of which marked ones are another's

pub marked_at : (words old other marks : List ℕ) {old1 other1 marks1 : List ℕ}
    (count length_other length_marks n k : ℕ) → old1 ≡ old → other1 ≡ other → marks1 ≡ marks
    → n ≡ min count length_marks → length_other ≡ length_marks
    → ((j : ℕ) → j < n → word_bit words j ≡ cond (word_bit marks1 j) (word_bit other1 j) (word_bit old1 j))
    → ((j : ℕ) → n ≤ j → word_bit words j ≡ word_bit old1 j) → k < count
    → get_or (first_bits words count) k false ≡ cond (get_or (first_bits marks length_marks) k false)
    (get_or (first_bits other length_other) k false) (get_or (first_bits old count) k false)
marked_at words old other marks {old1} {other1}
    {marks1} count length_other length_marks n k is_old is_other is_marks size same front following below =
    get_or-first_bits words count k false below
    ∙ elim (cases_lt k n) [
      | inl low ↦
          front k low
          ∙ ap (λ (ws : List ℕ). cond (word_bit ws k) (word_bit other1 k) (word_bit old1 k)) is_marks
          ∙ ap (λ (ws : List ℕ). cond (word_bit marks k) (word_bit ws k) (word_bit old1 k)) is_other
          ∙ ap (λ (ws : List ℕ). cond (word_bit marks k) (word_bit other k) (word_bit ws k)) is_old
          ∙ ap (λ t. cond t (word_bit other k) (word_bit old k))
          (sym (get_or-first_bits marks length_marks k false (omega arith)))
          ∙ ap (λ t. cond (get_or (first_bits marks length_marks) k false) t (word_bit old k))
          (sym (get_or-first_bits other length_other k false (omega arith)))
          ∙ ap (λ t. cond (get_or (first_bits marks length_marks) k false) (get_or
          (first_bits other length_other) k false) t) (sym (get_or-first_bits old count k false below))
      | inr past ↦
          following k past ∙ ap (λ (ws : List ℕ). word_bit ws k) is_old
          ∙ sym (get_or-first_bits old count k false below)
          ∙ ap (λ t. cond t (get_or (first_bits other length_other) k false)
          (get_or (first_bits old count) k false)) (sym (get_or_past
          (first_bits marks length_marks) k false (omega (arith, length-first_bits marks length_marks))))
    ]
