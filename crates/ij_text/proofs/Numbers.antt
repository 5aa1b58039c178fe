-- Digits and open bits, one more of them.
use Rattle.std.proofs.Common.{◌≡◌, ◌+◌, ◌-◌, ◌*◌, ◌≤◌, ◌==◌, ℕ, zero, suc, Bool, true, false, cond, List, []}
use Rattle.std.proofs.Common.{◌∷◌, ◌++◌, length, drop, Option, Some, None, is_some, refl, ap, ◌∙◌, arith}
use Rattle.std.proofs.Common.{length-append}
use mathlib.Core.Bool.{beq}
use Rattle.std.specs.Option.{option_eq}
use Rattle.ij_text.specs.declared.digits.Radix.{Radix}
use Rattle.ij_text.specs.declared.digits.Radix.TheVariants.{Ten}
use Rattle.ij_text.specs.Numbers.{decimal_from, with_decimal_digit, digit_bits, text_bits, open_bits}
use Rattle.ij_text.specs.Numbers.{tern_bits}
use Rattle.ij_bits.specs.declared.tern.Tern.{Tern}

-- a decimal grows with each digit
pub next_grows : (n b : ℕ) → n ≤ with_decimal_digit n b
next_grows n b = by_test (b == 95)
  where
    by_test : (t : Bool) → n ≤ cond t n (10 * n + (b - 48))
    by_test true = omega arith
    by_test false = omega arith

pub grows : (bs : List ℕ) (n : ℕ) → n ≤ decimal_from n bs
grows [] n = omega arith
grows (b ∷ bs) n = let one = next_grows n b in
    let others = grows bs (with_decimal_digit n b) in omega (arith, one, others)

-- a text has no fewer bits than what comes after some of its bytes
pub fewer : (radix : Radix) (text : List ℕ) (k : ℕ)
    → length (text_bits radix (drop k text)) ≤ length (text_bits radix text)
fewer radix text zero = omega arith
fewer radix [] (suc k) = omega arith
fewer radix (b ∷ text) (suc k) =
    let others = fewer radix text k in
    let both = length-append (text_bits radix text) (cond (b == 95) [] (digit_bits radix b)) in
    omega (arith, others, both)

-- ---- open bits

abbrev pub is_one : Option Bool → Bool
is_one None = false
is_one (Some b) = b

pub open_length : (vs cs : List Bool) → length vs ≡ length cs → length (open_bits vs cs) ≡ length vs
open_length [] cs h = refl
open_length (v ∷ vs) [] h = absurd (omega (arith, h))
open_length (v ∷ vs) (c ∷ cs) h = ap suc (open_length vs cs (omega (arith, h)))

pub open_more : (vs cs : List Bool) (v c : Bool) → length vs ≡ length cs
    → open_bits (vs ++ v ∷ []) (cs ++ c ∷ []) ≡ open_bits vs cs ++ cond c (Some v) None ∷ []
open_more [] [] v c h = refl
open_more [] (d ∷ cs) v c h = absurd (omega (arith, h))
open_more (u ∷ vs) [] v c h = absurd (omega (arith, h))
open_more (u ∷ vs) (d ∷ cs) v c h =
    ap (λ (l : List (Option Bool)). cond d (Some u) None ∷ l) (open_more vs cs v c (omega (arith, h)))

pub one_is : (bit : Option Bool) → option_eq beq bit (Some true) ≡ is_one bit
one_is None = refl
one_is (Some true) = refl
one_is (Some false) = refl

-- open bits after others, told by whether the bit is known
pub open_push : (vs cs : List Bool) (bit : Option Bool) (v c : Bool) → length vs ≡ length cs → v ≡ is_one bit
    → c ≡ is_some bit → open_bits (vs ++ v ∷ []) (cs ++ c ∷ []) ≡ open_bits vs cs ++ bit ∷ []
open_push vs cs bit v c h is_v is_c =
    open_more vs cs v c h ∙ ap (λ (b : Option Bool). open_bits vs cs ++ b ∷ [])
    (ap (λ d. cond d (Some v) None) is_c ∙ ap (λ u. cond (is_some bit) (Some u) None) is_v ∙ known bit)
  where
    known : (b : Option Bool) → cond (is_some b) (Some (is_one b)) None ≡ b
    known None = refl
    known (Some true) = refl
    known (Some false) = refl

-- decimal digits are no bits
pub none_of_ten : (text : List ℕ) → length (text_bits Ten text) ≡ 0
none_of_ten [] = refl
none_of_ten (b ∷ bs) =
    let both = length-append (text_bits Ten bs) (cond (b == 95) [] (digit_bits Ten b)) in
    let others = none_of_ten bs in
    let none = nothing (b == 95) in
    omega (arith, both, others, none)
  where
    nothing : (t : Bool) → length {A = Option Bool} (cond t [] []) ≡ 0
    nothing true = refl
    nothing false = refl

pub tern_length : (t : Tern) → length (tern_bits t) ≡ length t.value.items
tern_length t = open_length t.value.items t.care.items t.same_length
