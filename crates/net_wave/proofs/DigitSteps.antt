-- Digits, from the highest on.
use Rattle.std.proofs.Common.{◌≡◌, ℕ, zero, suc, ◌+◌, ◌-◌, ◌/◌, ◌<◌, Bool, true, false, cond, List, [], ◌∷◌}
use Rattle.std.proofs.Common.{◌++◌, length, refl, ap, sym, ◌∙◌, append_assoc, append-nil, arith}
use Rattle.std.specs.Prelude.{◌==◌}
use Rattle.std.proofs.lemmas.Bool.Decides.{nat_tests}
use Rattle.report.specs.Registers.{digit}
use Rattle.net_wave.specs.Moments.{trimmed}
use Rattle.net_wave.specs.Values.{binary_length, digits}

-- one digit more
pub digits_next : (at : ℕ → Bool) (all into new : List ℕ) (w j i : ℕ) (b : Bool) → j < w
    → i ≡ w - 1 - j → b ≡ at i → new ≡ into ++ digit b ∷ []
    → into ++ digits at (w - j) ≡ all → new ++ digits at (w - (j + 1)) ≡ all
digits_next at all into new w j i b h place is more before =
    let m = w - (j + 1) in
    let next : w - j ≡ suc m = omega arith in
    let here : i ≡ m = omega arith in
    ap (λ l. l ++ digits at m) more
    ∙ append_assoc into (digit b ∷ []) (digits at m)
    ∙ ap (λ c. into ++ digit c ∷ digits at m) (is ∙ ap at here)
    ∙ ap (λ n. into ++ digits at n) (sym next)
    ∙ before

-- all of them
pub digits_all : (at : ℕ → Bool) (all into : List ℕ) (w j : ℕ) → w ≡ j
    → into ++ digits at (w - j) ≡ all → into ≡ all
digits_all at all into w j end is =
    let none : w - j ≡ 0 = omega arith in
    sym (append-nil into) ∙ ap (λ n. into ++ digits at n) (sym none) ∙ is

-- ---- binary digits

pub length_ends : (all k left digits : ℕ) → left ≡ 0
    → digits + binary_length (32 - k) left ≡ all → digits ≡ all
length_ends all k left digits none is = omega (arith, is, no_digits (32 - k) left none)
  where
    no_digits : (n m : ℕ) → m ≡ 0 → binary_length n m ≡ 0
    no_digits zero m e = refl
    no_digits (suc n) m e =
        let yes : (m == 0) ≡ true = grind (arith, nat_tests) in
        ap (λ b. cond b 0 (suc (binary_length n (m / 2)))) yes

pub length_next : (all k left digits : ℕ) → k < 32 → (left ≡ 0 → ⊥)
    → digits + binary_length (32 - k) left ≡ all
    → (digits + 1) + binary_length (32 - (k + 1)) (left / 2) ≡ all
length_next all k left digits h some is =
    let m = 32 - (k + 1) in
    let next : 32 - k ≡ suc m = omega arith in
    let no : (left == 0) ≡ false = grind (arith, nat_tests) in
    let here : binary_length (32 - k) left ≡ suc (binary_length m (left / 2)) =
    ap (λ n. binary_length n left) next ∙ ap (λ b. cond b 0 (suc (binary_length m (left / 2)))) no in
    omega (arith, here, is)

-- ---- zeros at the left

pub trimmed_short : (ds : List ℕ) → length ds < 2 → trimmed ds ≡ ds
trimmed_short [] h = refl
trimmed_short (b ∷ []) h = refl
trimmed_short (b ∷ c ∷ cs) h = absurd (omega (arith, h))
