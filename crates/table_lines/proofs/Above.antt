-- Numbers with a 1 at a width or above.
use Rattle.std.proofs.Common.{◌≡◌, ℕ, zero, suc, ◌+◌, ◌*◌, ◌/◌, ◌≤◌, ◌^◌, Bool, true, false, not, nat_eq}
use Rattle.std.proofs.Common.{nat_le, IsTrue, arith, refl, sym, ap, ◌∙◌, List, [], ◌∷◌, Option, map, drop}
use Rattle.std.specs.Prelude.{if◌then◌else◌, ◌||◌}
use Rattle.std.specs.List.{list_any}
use Rattle.std.proofs.lemmas.Nat.{pow-add, pow_pos}
use Rattle.ij_bits.specs.BitLists.{number_of}
use Rattle.table_lines.specs.Words.{is_one}
use Rattle.std.proofs.lemmas.Bool.Decides.{nat_tests}
use Rattle.ij_text.proofs.Widths.{shifted}
use Rattle.std.proofs.lemmas.Bool.{leb-true, le-leb}

pub none_above : (m n : ℕ) → (m ≤ n → ⊥) → nat_le m n ≡ false
none_above m n not_so = grind (arith, nat_tests)

same_test : (a b : Bool) → (IsTrue a → b ≡ true) → (b ≡ true → IsTrue a) → a ≡ b
same_test true b to from = sym (to refl)
same_test false true to from = from refl
same_test false false to from = refl

pub shifted_is : (n w : ℕ) → not (nat_eq (n / 2 ^ w) 0) ≡ nat_le (2 ^ w) n
shifted_is n w =
    let both = shifted n w in
    same_test (not (nat_eq (n / 2 ^ w) 0)) (nat_le (2 ^ w) n)
    (λ h. le-leb (2 ^ w) n (both.0 h)) (λ h. both.1 (leb-true (2 ^ w) n h))

twice : (w : ℕ) → 2 ^ suc w ≡ 2 ^ w * 2
twice w = let e : suc w ≡ w + 1 = omega arith in ap (λ k. 2 ^ k) e ∙ pow-add 2 w 1

same_le : (a b c d : ℕ) → (a ≤ b → c ≤ d) → (c ≤ d → a ≤ b) → nat_le a b ≡ nat_le c d
same_le a b c d to from =
    same_test (nat_le a b) (nat_le c d) (λ h. le-leb c d (to (leb-true a b h)))
    (λ h. le-leb a b (from (leb-true c d h)))

one_bit : (b : Bool) (n : ℕ) (rest : Bool) → nat_le 1 n ≡ rest
    → nat_le 1 ((if b then 1 else 0) + 2 * n) ≡ (b || rest)
one_bit true n rest h = le-leb 1 (1 + 2 * n) (omega arith)
one_bit false n rest h = same_le 1 (0 + 2 * n) 1 n (λ e. omega (arith, e)) (λ e. omega (arith, e)) ∙ h

higher_bit : (b : Bool) (w n : ℕ) → nat_le (2 ^ suc w) ((if b then 1 else 0) + 2 * n) ≡ nat_le (2 ^ w) n
higher_bit true w n = let two = twice w in
    same_le (2 ^ suc w) (1 + 2 * n) (2 ^ w) n (λ e. omega (arith, e, two)) (λ e. omega (arith, e, two))
higher_bit false w n = let two = twice w in
    same_le (2 ^ suc w) (0 + 2 * n) (2 ^ w) n (λ e. omega (arith, e, two)) (λ e. omega (arith, e, two))

-- the number of bits has a 1 at the width or above exactly where they have one there
pub ones_above : (w : ℕ) (bits : List (Option Bool))
    → nat_le (2 ^ w) (number_of (map is_one bits)) ≡ list_any is_one (drop w bits)
ones_above zero [] = refl
ones_above zero (b ∷ bs) =
    one_bit (is_one b) (number_of (map is_one bs)) (list_any is_one bs) (ones_above zero bs)
ones_above (suc w) [] = none_above (2 ^ suc w) 0 (λ e. let some = pow_pos (suc w) in omega (arith, e, some))
ones_above (suc w) (b ∷ bs) = higher_bit (is_one b) w (number_of (map is_one bs)) ∙ ones_above w bs
