-- What is written of one variable at the pins.
use Rattle.std.proofs.Common.{◌≡◌, ℕ, zero, suc, ◌+◌, ◌-◌, ◌/◌, ◌%◌, ◌^◌, ◌<◌, Bool, true, false, not, cond}
use Rattle.std.proofs.Common.{List, [], ◌∷◌, ◌++◌, length, codes, refl, ap, sym, ◌∙◌, arith, append-nil}
use Rattle.std.proofs.Common.{append_assoc}
use Rattle.std.specs.List.{flat_map}
use Rattle.std.specs.Prelude.{◌==◌}
use Rattle.std.specs.Str.{bytes_eq}
use Rattle.std.proofs.lemmas.Bool.Decides.{nat_tests}
use Rattle.std.proofs.lemmas.Slice.Eq.{bytes_eq-Decides}
use Rattle.net_wave.specs.Changes.{binary, told_if}
use Rattle.net_wave.specs.Codes.{code, code_digits}
use Rattle.net_wave.specs.Moments.{change_text, trimmed}
use Rattle.net_wave.specs.Values.{number_digits}
use Rattle.net_wave.proofs.Binary.{lower, same_number, trim_alike}

abbrev pub said : ℕ → List ℕ → List ℕ
said number now = change_text (record { number = number; digits = now })

-- it is written first, it is another, or it is the same
pub said_first : (first : Bool) (number : ℕ) (before now : List ℕ) → first ≡ true
    → told_if first number before now ≡ said number now
said_first first number before now e =
    ap (λ (b : Bool). told_if b number before now) e ∙ append-nil (said number now)

pub said_new : (first : Bool) (number : ℕ) (before now : List ℕ) → (before ≡ now → ⊥)
    → told_if first number before now ≡ said number now
said_new true number before now other = append-nil (said number now)
said_new false number before now other = cases (bytes_eq before now) refl
  where
    cases : (b : Bool) → bytes_eq before now ≡ b → told_if false number before now ≡ said number now
    cases true e = absurd (other ((bytes_eq-Decides before now).0 e))
    cases false e =
        ap (λ (b : Bool). flat_map change_text (cond (not b)
        (record { number = number; digits = now } ∷ []) [])) e ∙ append-nil (said number now)

pub unsaid : (first : Bool) (number : ℕ) (before now : List ℕ) → first ≡ false
    → before ≡ now → told_if first number before now ≡ []
unsaid first number before now e same =
    let alike : bytes_eq now now ≡ true = (bytes_eq-Decides now now).1 refl in
    ap (λ (b : Bool). told_if b number before now) e
    ∙ ap (λ (d : List ℕ). told_if false number d now) same
    ∙ ap (λ (b : Bool). flat_map change_text
    (cond (not b) (record { number = number; digits = now } ∷ []) [])) alike

-- ---- its text

small_code : (v : ℕ) → v < 94 → code v ≡ (33 + v) ∷ []
small_code v h =
    let none : (v / 94 == 0) ≡ true = grind (arith, nat_tests) in
    let low : 33 + v % 94 ≡ 33 + v = omega (arith, h) in
    ap (λ (b : Bool). (33 + v % 94) ∷ cond b [] (code_digits 9 (v / 94 - 1))) none
    ∙ ap (λ (x : ℕ). x ∷ []) low

-- of more digits than one
pub more_digits : (v : ℕ) (ds : List ℕ) → v < 94 → (length ds == 1) ≡ false
    → said v ds ≡ codes "b" ++ (trimmed ds ++ (codes " " ++ (33 + v) ∷ codes "\n"))
more_digits v ds h many =
    ap (λ (b : Bool). cond b ds (codes "b" ++ (trimmed ds ++ codes " ")) ++ (code v ++ codes "\n")) many
    ∙ ap (λ (c : List ℕ). (98 ∷ (trimmed ds ++ 32 ∷ [])) ++ (c ++ 10 ∷ [])) (small_code v h)
    ∙ ap (λ (l : List ℕ). 98 ∷ l) (append_assoc (trimmed ds) (32 ∷ []) ((33 + v) ∷ 10 ∷ []))

-- ---- numbers of 32 bits, of which some are shown

pub scan_said : (n : ℕ)
    → said 8 (number_digits 32 n) ≡ codes "b" ++ (binary n ++ (codes " " ++ 41 ∷ codes "\n"))
unfolding binary
scan_said n = more_digits 8 (number_digits 32 n) (omega arith) refl

pub other_scan : (b n : ℕ) → b < 2 ^ 32 → n < 2 ^ 32 → (b ≡ n → ⊥)
    → number_digits 32 b ≡ number_digits 32 n → ⊥
other_scan b n h g other e = other (same_number 32 b n h g e)

-- 2 to the power w, times this many
abbrev times : ℕ → ℕ → ℕ
times zero b = b
times (suc w) b = times w b + times w b

low_alone : (w a b : ℕ) → number_digits w (a + times w b) ≡ number_digits w a
low_alone zero a b = refl
low_alone (suc w) a b =
    let t = times w b in
    let half : (a + (t + t)) / 2 ≡ a / 2 + t = omega arith in
    let bit : (a + (t + t)) % 2 ≡ a % 2 = omega arith in
    lower w (a + (t + t))
    ∙ ap (λ (h : ℕ). number_digits w h ++ (48 + (a + (t + t)) % 2) ∷ []) half
    ∙ ap (λ (r : ℕ). number_digits w (a / 2 + t) ++ (48 + r) ∷ []) bit
    ∙ ap (λ (l : List ℕ). l ++ (48 + a % 2) ∷ []) (low_alone w (a / 2) b)
    ∙ sym (lower w a)

pub low_bits : (n : ℕ) → number_digits 16 (n % 65536) ≡ number_digits 16 n
low_bits n =
    let same : n % 65536 + times 16 (n / 65536) ≡ n = omega arith in
    sym (low_alone 16 (n % 65536) (n / 65536)) ∙ ap (number_digits 16) same

pub position_said : (n m : ℕ) → m ≡ n % 65536
    → said 9 (number_digits 16 n) ≡ codes "b" ++ (binary m ++ (codes " " ++ 42 ∷ codes "\n"))
unfolding binary
position_said n m is =
    let small : m < 2 ^ 16 = omega (arith, is) in
    let fits : m < 2 ^ 32 = omega (arith, is) in
    let shorter : trimmed (number_digits 32 m)
    ≡ trimmed (number_digits 16 m) = trim_alike 31 15 m fits small in
    ap (said 9) (sym (low_bits n) ∙ ap (number_digits 16) (sym is))
    ∙ more_digits 9 (number_digits 16 m) (omega arith) refl
    ∙ ap (λ (l : List ℕ). 98 ∷ (l ++ 32 ∷ 42 ∷ 10 ∷ [])) (sym shorter)

pub same_position : (b n : ℕ) → b % 65536 ≡ n % 65536 → number_digits 16 b ≡ number_digits 16 n
same_position b n same = sym (low_bits b) ∙ ap (number_digits 16) same ∙ low_bits n

pub other_position : (b n : ℕ) → (b % 65536 ≡ n % 65536 → ⊥) → number_digits 16 b ≡ number_digits 16 n → ⊥
other_position b n other e =
    other (same_number 16 (b % 65536) (n % 65536) (omega arith)
    (omega arith) (low_bits b ∙ e ∙ sym (low_bits n)))
