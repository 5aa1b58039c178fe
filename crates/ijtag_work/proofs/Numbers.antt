-- A number of at most 19 digits is below 2^64.
use Rattle.std.specs.Prelude.{◌&&◌, ◌==◌, cond, nat_lt}
use Rattle.std.specs.Char.{is_ascii_digit}
use Rattle.std.specs.List.{list_all}
use Rattle.std.proofs.Common.{◌≡◌, ◌≤◌, ◌<◌, ◌+◌, ◌*◌, ◌-◌, ◌^◌, ℕ, zero, suc, Bool, true, false, List, []}
use Rattle.std.proofs.Common.{◌∷◌, length, refl, arith}
use Rattle.std.proofs.lemmas.Bool.Decides.{nat_tests}
use Rattle.ij_text.specs.Numbers.{decimal_from, with_decimal_digit}
use Rattle.ijtag_work.specs.Command.{is_number}
use Rattle.std.proofs.lemmas.Bool.{and_parts}

-- the greatest number that k digits after n say
abbrev top : ℕ → ℕ → ℕ
top n zero = n
top n (suc k) = top (10 * n + 9) k

least : (n : ℕ) → n ≤ n
least n = omega arith

top_grows : (k n m : ℕ) → n ≤ m → top n k ≤ top m k
top_grows zero n m h = h
top_grows (suc k) n m h = top_grows k (10 * n + 9) (10 * m + 9) (omega (arith, h))

top_longer : (j k n : ℕ) → j ≤ k → top n j ≤ top n k
top_longer zero zero n h = least n
top_longer zero (suc k) n h = omega (arith, top_longer zero k (10 * n + 9) (omega arith))
top_longer (suc j) zero n h = absurd (omega (arith, h))
top_longer (suc j) (suc k) n h = top_longer j k (10 * n + 9) (omega (arith, h))

one_of_two : (b : Bool) (n m most : ℕ) → n ≤ most → m ≤ most → cond b n m ≤ most
one_of_two true n m most p q = p
one_of_two false n m most p q = q

digit_small : (b : ℕ) → is_ascii_digit b ≡ true → b ≤ 57
digit_small b h = grind (arith, nat_tests, h)

next_small : (n b : ℕ) → is_ascii_digit b ≡ true → with_decimal_digit n b ≤ 10 * n + 9
next_small n b h = one_of_two (b == 95) n (10 * n + (b - 48)) (10 * n + 9)
    (omega arith) (omega (arith, digit_small b h))

below_top : (bs : List ℕ) (n : ℕ) → list_all is_ascii_digit bs ≡ true → decimal_from n bs ≤ top n (length bs)
below_top [] n h = least n
below_top (b ∷ bs) n h =
    let digits = and_parts (is_ascii_digit b) (list_all is_ascii_digit bs) h in
    omega (
      arith,
      below_top bs (with_decimal_digit n b) digits.1,
      top_grows (length bs) (with_decimal_digit n b) (10 * n + 9) (next_small n b digits.0),
    )

three : (p q r s : Bool) → (p && q && r && s) ≡ true → (p ≡ true) × (q ≡ true) × (r ≡ true)
three true true true s h = (refl, refl, refl)
three true true false s h = absurd (cc)
three true false r s h = absurd (cc)
three false q r s h = absurd (cc)

is_less : (n m : ℕ) → nat_lt n m ≡ true → n < m
is_less n m h = grind (arith, nat_tests, h)

pub number_fits : (text : List ℕ) → is_number text ≡ true → decimal_from 0 text < 2 ^ 64
number_fits [] h = absurd (cc)
number_fits (b ∷ bs) h =
    let are = three (is_ascii_digit b) (list_all is_ascii_digit bs) (nat_lt (length bs) 19) _ h in
    let few : length bs ≤ 18 = omega (arith, is_less (length bs) 19 are.2) in
    let here : decimal_from (with_decimal_digit 0 b) bs
    ≤ top (with_decimal_digit 0 b) (length bs) = below_top bs (with_decimal_digit 0 b) are.1 in
    let first : with_decimal_digit 0 b ≤ 9 = next_small 0 b are.0 in
    let most : top 9 18 ≡ 9999999999999999999 = refl in
    omega (
      arith,
      here,
      top_grows (length bs) (with_decimal_digit 0 b) 9 first,
      top_longer (length bs) 18 9 few,
      most,
    )
