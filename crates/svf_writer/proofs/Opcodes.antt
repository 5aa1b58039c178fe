-- Hexadecimal digits of a number's bits are those of the number, and short texts have no line feed.
use Rattle.std.proofs.Common.{◌≡◌, ℕ, zero, suc, ◌+◌, ◌-◌, ◌*◌, ◌/◌, ◌%◌, ◌==◌, ◌^◌, ◌<◌, Bool, true, false}
use Rattle.std.proofs.Common.{List, [], ◌∷◌, ◌++◌, take, drop, arith, ap, sym, ◌∙◌, subst}
use Rattle.std.proofs.Math.Nat.{div-one, zero-div}
use Rattle.std.proofs.lemmas.Nat.{shr-shr, pow_pos}
use Rattle.std.proofs.lemmas.Bool.Decides.{nat_tests}
use Rattle.ij_bits.specs.BitLists.{bits_of, number_of}
use Rattle.ij_bits.specs.Hex.{hex_code, hex_digit}
use Rattle.svf_writer.specs.Written.{hex_lines}
use Rattle.ij_bits.proofs.Hex.{number_of-first, half_fits}

half_again : (n d : ℕ) → n / 2 / 2 ^ d ≡ n / 2 ^ suc d
half_again n d = let one : 1 + d ≡ suc d = omega arith in shr-shr n 1 d ∙ ap (λ k. n / 2 ^ k) one

-- the bits from d on are those of the number without its lowest d bits
from_bit : (d w n : ℕ) → drop d (bits_of w n) ≡ bits_of (w - d) (n / 2 ^ d)
from_bit zero w n =
    let all : w ≡ w - 0 = omega arith in
    ap (λ k. bits_of k n) all ∙ ap (λ k. bits_of (w - 0) k) (sym (div-one n))
from_bit (suc d) zero n =
    let none : 0 ≡ 0 - suc d = omega arith in ap (λ k. bits_of k (n / 2 ^ suc d)) none
from_bit (suc d) (suc w) n =
    let less : w - d ≡ suc w - suc d = omega arith in
    from_bit d w (n / 2) ∙ ap (λ k. bits_of (w - d) k) (half_again n d)
    ∙ ap (λ k. bits_of k (n / 2 ^ suc d)) less

rest_fits : (d w n : ℕ) → n < 2 ^ w → n / 2 ^ d < 2 ^ (w - d)
rest_fits zero w n fits =
    let all : w ≡ w - 0 = omega arith in
    subst (λ (k : ℕ). n / 2 ^ 0 < 2 ^ k) all (omega (arith, div-one n))
rest_fits (suc d) zero n fits =
    let none : n ≡ 0 = omega arith in
    let nothing : n / 2 ^ suc d ≡ 0 = ap (λ k. k / 2 ^ suc d) none ∙ zero-div (2 ^ suc d) in
    omega (arith, nothing, pow_pos (0 - suc d))
rest_fits (suc d) (suc w) n fits =
    let less : w - d ≡ suc w - suc d = omega arith in
    subst (λ (k : ℕ). n / 2 ^ suc d < 2 ^ k) less
    (subst (λ (k : ℕ). k < 2 ^ (w - d)) (half_again n d) (rest_fits d w (n / 2) (half_fits n w fits)))

-- the lowest k bits, of a number that fits its bits
one_bit : (w n : ℕ) → n < 2 ^ w → number_of (take 1 (bits_of w n)) ≡ n % 2
one_bit zero n fits = omega arith
one_bit (suc w) n fits = number_of-first n [] ∙ omega arith

two_bits : (w n : ℕ) → n < 2 ^ w → number_of (take 2 (bits_of w n)) ≡ n % 4
two_bits zero n fits = omega arith
two_bits (suc w) n fits =
    omega (arith, number_of-first n (take 1 (bits_of w (n / 2))), one_bit w (n / 2) (half_fits n w fits))

three_bits : (w n : ℕ) → n < 2 ^ w → number_of (take 3 (bits_of w n)) ≡ n % 8
three_bits zero n fits = omega arith
three_bits (suc w) n fits =
    omega (arith, number_of-first n (take 2 (bits_of w (n / 2))), two_bits w (n / 2) (half_fits n w fits))

four_bits : (w n : ℕ) → n < 2 ^ w → number_of (take 4 (bits_of w n)) ≡ n % 16
four_bits zero n fits = omega arith
four_bits (suc w) n fits =
    omega (arith, number_of-first n (take 3 (bits_of w (n / 2))), three_bits w (n / 2) (half_fits n w fits))

pub opcode_digit : (w n place : ℕ) → n < 2 ^ w
    → hex_digit (bits_of w n) place ≡ hex_code (n / 2 ^ (4 * place) % 16)
opcode_digit w n place fits =
    ap (λ bits. hex_code (number_of (take 4 bits))) (from_bit (4 * place) w n)
    ∙ ap hex_code (four_bits (w - 4 * place) (n / 2 ^ (4 * place)) (rest_fits (4 * place) w n fits))

-- a digit where fewer than 64 stand in the line
pub next_digit : (bits : List Bool) (d e digit column : ℕ) → d ≡ suc e → column < 64
    → hex_digit bits e ≡ digit → hex_lines bits d column ≡ (digit ∷ []) ++ hex_lines bits e (column + 1)
next_digit bits d e digit column more short is =
    let apart : (column == 64) ≡ false = grind (arith, nat_tests) in
    let next : suc column ≡ column + 1 = omega arith in
    ap (λ k. hex_lines bits k column) more
    ∙ ap (λ test. (elim test as (λ _. List ℕ) [
      | true ↦ 10 ∷ hex_digit bits e ∷ []
      | false ↦ hex_digit bits e
          ∷ []
    ]) ++ hex_lines bits e (elim test as (λ _. ℕ) [ true ↦ 1 | false ↦ suc column ])) apart
    ∙ ap (λ b. b ∷ hex_lines bits e (suc column)) is
    ∙ ap (λ k. digit ∷ hex_lines bits e k) next
