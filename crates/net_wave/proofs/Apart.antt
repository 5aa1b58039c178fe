-- Different numbers have different codes.
use Rattle.std.proofs.Common.{◌≡◌, ℕ, zero, suc, ◌+◌, ◌-◌, ◌*◌, ◌/◌, ◌%◌, ◌^◌, ◌<◌, Bool, true, false, cond}
use Rattle.std.proofs.Common.{[], refl, ap, sym, ◌∙◌, arith}
use Rattle.std.specs.Prelude.{◌==◌}
use Rattle.std.proofs.lemmas.Bool.Decides.{nat_tests}
use Rattle.net_wave.specs.Codes.{code, code_digits}

-- how many numbers have at most this many digits
abbrev count : ℕ → ℕ
count zero = 0
count (suc k) = 94 * (count k + 1)

-- two numbers of one lowest digit
same_number : (n m : ℕ) → 33 + n % 94 ≡ 33 + m % 94 → n / 94 ≡ m / 94 → n ≡ m
same_number n m low high = omega (arith, low, high)

some : (k n : ℕ) → 0 < k → code_digits k n ≡ [] → ⊥
some zero n h e = absurd (omega (arith, h))
some (suc k) n h e = absurd (cc)

few_of : (k n : ℕ) → n < 94 * (count k + 1) → 0 < n / 94 → 0 < k
few_of zero n h more = absurd (omega (arith, h, more))
few_of (suc k) n h more = omega arith

below : (k n : ℕ) → n < 94 * (count k + 1) → 0 < n / 94 → n / 94 - 1 < count k
below k n h more = omega (arith, h, more)

digits_differ : (k n m : ℕ) → n < count k → m < count k → code_digits k n ≡ code_digits k m → n ≡ m
digits_differ zero n m h g e = absurd (omega (arith, h))
digits_differ (suc k) n m h g e =
    cases (digits_differ k (n / 94 - 1) (m / 94 - 1)) (n / 94 == 0) refl (m / 94 == 0) refl
  where
    low : 33 + n % 94 ≡ 33 + m % 94
    low = cc

    rest : cond (n / 94 == 0) [] (code_digits k (n / 94 - 1))
        ≡ cond (m / 94 == 0) [] (code_digits k (m / 94 - 1))
    rest = cc

    cases : (n / 94 - 1 < count k → m / 94 - 1 < count k
        → code_digits k (n / 94 - 1) ≡ code_digits k (m / 94 - 1) → n / 94 - 1 ≡ m / 94 - 1) → (x : Bool)
        → (n / 94 == 0) ≡ x → (y : Bool) → (m / 94 == 0) ≡ y → n ≡ m
    cases high true a true b =
        let no : n / 94 ≡ 0 = grind (arith, nat_tests) in
        let nor : m / 94 ≡ 0 = grind (arith, nat_tests) in
        same_number n m low (no ∙ sym nor)
    cases high true a false b =
        let more : 0 < m / 94 = grind (arith, nat_tests) in
        let few : 0 < k = few_of k m g more in
        absurd (some k (m / 94 - 1) few (sym (ap (λ t. cond t [] (code_digits k (m / 94 - 1))) b) ∙ sym rest
        ∙ ap (λ t. cond t [] (code_digits k (n / 94 - 1))) a))
    cases high false a true b =
        let more : 0 < n / 94 = grind (arith, nat_tests) in
        let few : 0 < k = few_of k n h more in
        absurd (some k (n / 94 - 1) few (sym (ap (λ t. cond t [] (code_digits k (n / 94 - 1))) a) ∙ rest
        ∙ ap (λ t. cond t [] (code_digits k (m / 94 - 1))) b))
    cases high false a false b =
        let one : 0 < n / 94 = grind (arith, nat_tests) in
        let other : 0 < m / 94 = grind (arith, nat_tests) in
        let same : n / 94 - 1 ≡ m / 94 - 1 =
        high (below k n h one) (below k m g other)
        (sym (ap (λ t. cond t [] (code_digits k (n / 94 - 1))) a) ∙ rest
        ∙ ap (λ t. cond t [] (code_digits k (m / 94 - 1))) b) in
        same_number n m low (omega (arith, same, one, other))

pub codes_differ : (n m : ℕ) → n < 2 ^ 32 → m < 2 ^ 32 → code n ≡ code m → n ≡ m
codes_differ n m h g e = digits_differ 10 n m (omega (arith, h)) (omega (arith, g)) e
