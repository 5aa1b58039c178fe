-- Numbers in a width.
use Rattle.std.proofs.Common.{◌≡◌, ◌↔◌, ◌+◌, ◌-◌, ◌*◌, ◌/◌, ◌%◌, ◌^◌, ◌<◌, ◌≤◌, ◌==◌, ℕ, zero, suc, Bool}
use Rattle.std.proofs.Common.{true, false, not, cond, nat_eq, IsTrue, List, [], ◌∷◌, ◌++◌, length, get_or}
use Rattle.std.proofs.Common.{Option, Some, None, min, refl, sym, ap, ◌∙◌, arith, inl, inr, append_assoc}
use Rattle.std.proofs.Common.{append-nil}
use Rattle.std.proofs.Math.Nat.{le-div_iff_mul-le}
use Rattle.std.proofs.Math.Pow.{pow_mono}
use Rattle.std.specs.Prelude.{decimal}
use Rattle.std.proofs.lemmas.Fmt.{length-decimal-le}
use Rattle.std.proofs.lemmas.Nat.{pow_pos}
use Rattle.std.proofs.lemmas.Bool.Decides.{nat_tests}
use Rattle.std.proofs.lemmas.Bool.{cases_lt}
use Rattle.std.proofs.lemmas.List.{ext_get_or}
use Rattle.ij_bits.specs.BitLists.{bits_of}
use Rattle.ij_bits.proofs.Exchanging.{bits_of-append}
use Rattle.ij_bits.proofs.WordBits.{get_or-bits_of, length-bits_of}
use Rattle.ij_text.specs.Numbers.{open_bits}
use Rattle.ij_bits.proofs.Joining.{inside}

-- ---- decimals

pub four_digits : (n : ℕ) → n < 10000 → length (decimal n) ≤ 4
four_digits n few = length-decimal-le 4 n (omega arith) (omega (arith, few)) (omega (arith, few))

some_test : (q : ℕ) → IsTrue (not (nat_eq q 0)) → 1 ≤ q
some_test q h = grind (arith, nat_tests)

test_some : (q : ℕ) → 1 ≤ q → IsTrue (not (nat_eq q 0))
test_some q h = grind (arith, nat_tests)

-- a shifted number isn't 0 exactly where it has a bit at the width or above
pub shifted : (n w : ℕ) → IsTrue (not (nat_eq (n / 2 ^ w) 0)) ↔ (2 ^ w ≤ n)
shifted n w =
    let both : (1 ≤ n / 2 ^ w) ↔ (1 * 2 ^ w ≤ n) = le-div_iff_mul-le (pow_pos w) in (
      λ h. let k = both.0 (some_test (n / 2 ^ w) h) in omega (arith, k),
      λ h. test_some (n / 2 ^ w) (both.1 (omega (arith, h))),
    )

pub beyond : (n w : ℕ) → n < 2 ^ 128 → 128 ≤ w → 2 ^ w ≤ n → ⊥
beyond n w short le h = let k : 2 ^ 128 ≤ 2 ^ w = pow_mono le in omega (arith, short, h, k)

bits_low : (k x : ℕ) → k ≤ 64 → bits_of k (x % 18446744073709551616) ≡ bits_of k x
bits_low k x few =
    ext_get_or false (bits_of k (x % 18446744073709551616)) (bits_of k x)
    (length-bits_of k (x % 18446744073709551616) ∙ sym (length-bits_of k x))
    (λ i within.
    let low : i < k = omega (arith, length-bits_of k (x % 18446744073709551616)) in
    get_or-bits_of k (x % 18446744073709551616) i low
    ∙ ap (λ b. b == 1) (inside x i (omega arith)) ∙ sym (get_or-bits_of k x i low))

-- one word of a decimal
pub word_more : (bits : List Bool) (w m b x : ℕ) (all : List Bool) → m ≡ min w 64
    → b ≡ w - 64 → bits ++ bits_of w x ≡ all
    → (bits ++ bits_of m (x % 18446744073709551616)) ++ bits_of b (x / 18446744073709551616) ≡ all
word_more bits w m b x all size left h =
    let rest : ℕ = x / 18446744073709551616 in
    let both : bits_of m (x % 18446744073709551616) ++ bits_of b rest ≡ bits_of w x =
    ap (λ (l : List Bool). l ++ bits_of b rest) (bits_low m x (omega arith))
    ∙ elim (cases_lt w 64) [
      | inl short ↦
          let none : b ≡ 0 = omega arith in
          let own : m ≡ w = omega arith in
          ap (λ k. bits_of m x ++ bits_of k rest) none ∙ append-nil (bits_of m x) ∙ ap (λ k. bits_of k x) own
      | inr long ↦
          let word : 64 ≡ m = omega arith in
          let whole : m + b ≡ w = omega arith in
          ap (λ k. bits_of m x ++ bits_of b (x / 2 ^ k)) word
          ∙ sym (bits_of-append m b x) ∙ ap (λ k. bits_of k x) whole
    ] in
    append_assoc bits (bits_of m (x % 18446744073709551616)) (bits_of b rest)
    ∙ ap (λ (l : List Bool). bits ++ l) both ∙ h

-- ---- open bits

pub open_get : (vs cs : List Bool) (i : ℕ) → length vs ≡ length cs → i < length vs
    → get_or (open_bits vs cs) i (Some false) ≡ cond (get_or cs i false) (Some (get_or vs i false)) None
open_get [] cs i h lt = absurd (omega (arith, lt))
open_get (v ∷ vs) [] i h lt = absurd (omega (arith, h))
open_get (v ∷ vs) (c ∷ cs) zero h lt = refl
open_get (v ∷ vs) (c ∷ cs) (suc i) h lt = open_get vs cs i (omega (arith, h)) (omega (arith, lt))

pub open_past : (vs cs : List Bool) (i : ℕ) → length vs ≡ length cs → length vs ≤ i
    → Some false ≡ get_or (open_bits vs cs) i (Some false)
open_past [] cs i h le = refl
open_past (v ∷ vs) [] i h le = absurd (omega (arith, h))
open_past (v ∷ vs) (c ∷ cs) zero h le = absurd (omega (arith, le))
open_past (v ∷ vs) (c ∷ cs) (suc i) h le = open_past vs cs i (omega (arith, h)) (omega (arith, le))

-- a bit as it is read
pub read_bit : (result : Option Bool) (v c : Bool) → (c ≡ true → result ≡ Some v)
    → (c ≡ false → result ≡ None) → result ≡ cond c (Some v) None
read_bit result v true h k = h refl
read_bit result v false h k = k refl
