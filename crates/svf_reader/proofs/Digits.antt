-- Written hexadecimal digits and decimal numbers are read again.
use Rattle.std.proofs.Common.{◌≡◌, ℕ, zero, suc, ◌+◌, ◌-◌, ◌*◌, ◌/◌, ◌%◌, ◌^◌, ◌<◌, ◌≤◌, Bool, true, false}
use Rattle.std.proofs.Common.{not, cond, List, [], ◌∷◌, ◌++◌, length, take, drop, replicate, refl, ap, sym}
use Rattle.std.proofs.Common.{◌∙◌, arith, append_assoc, Option, Some, None, nat_lt, nat_le, decimal, lit<}
use Rattle.std.specs.Prelude.{◌==◌, ◌&&◌, ◌||◌}
use Rattle.std.specs.List.{list_all}
use Rattle.std.specs.Char.{is_ascii_digit, is_ascii_hexdigit}
use Rattle.std.proofs.lemmas.Bool.Decides.{nat_tests}
use Rattle.std.proofs.lemmas.List.{take_at, drop_at, length-take}
use Rattle.std.proofs.Math.Nat.{pow-le-pow_right}
use Rattle.std.proofs.lemmas.Fmt.{decimal_by_steps, length-decimal-le, decimal_nonempty}
use Rattle.ij_bits.specs.BitLists.{bits_of, number_of, has_one}
use Rattle.ij_bits.specs.Hex.{hex_code, hex_digit}
use Rattle.ij_text.specs.Bytes.{is_blank}
use Rattle.svf_reader.specs.Texts.{is_parenthesis}
use Rattle.svf_reader.specs.Commands.{number_from, number}
use Rattle.ij_text.specs.Numbers.{hex_value as digit_value}
use Rattle.svf_reader.specs.Values.{hex_bits, fitted, is_wide}
use Rattle.svf_reader.proofs.Putting.{no_one}
use Rattle.ij_bits.proofs.Hex.{number_of-lt}

-- ---- bytes

-- a byte that neither begins a comment nor ends a command
abbrev pub is_quiet : ℕ → Bool
is_quiet b = not (b == 33 || (b == 47 || b == 59))

-- what is known of a written digit
pub record IsDigit (b v : ℕ) : Type 0 where
  pub hex : is_ascii_hexdigit b ≡ true
  pub blank : is_blank b ≡ false
  pub mark : is_parenthesis b ≡ false
  pub quiet : is_quiet b ≡ true
  pub end : (b == 10) ≡ false
  pub value : digit_value b ≡ v

pub nibble : (v : ℕ) → v < 16 → IsDigit (hex_code v) v
nibble zero h = record { hex = refl; blank = refl; mark = refl; quiet = refl; end = refl; value = refl }
nibble (suc zero) h = record { hex = refl; blank = refl; mark = refl; quiet = refl; end = refl; value = refl }
nibble (suc (suc zero)) h =
    record { hex = refl; blank = refl; mark = refl; quiet = refl; end = refl; value = refl }
nibble (suc (suc (suc zero))) h =
    record { hex = refl; blank = refl; mark = refl; quiet = refl; end = refl; value = refl }
nibble (suc (suc (suc (suc zero)))) h =
    record { hex = refl; blank = refl; mark = refl; quiet = refl; end = refl; value = refl }
nibble (suc (suc (suc (suc (suc zero))))) h =
    record { hex = refl; blank = refl; mark = refl; quiet = refl; end = refl; value = refl }
nibble (suc (suc (suc (suc (suc (suc zero)))))) h =
    record { hex = refl; blank = refl; mark = refl; quiet = refl; end = refl; value = refl }
nibble (suc (suc (suc (suc (suc (suc (suc zero))))))) h =
    record { hex = refl; blank = refl; mark = refl; quiet = refl; end = refl; value = refl }
nibble (suc (suc (suc (suc (suc (suc (suc (suc zero)))))))) h =
    record { hex = refl; blank = refl; mark = refl; quiet = refl; end = refl; value = refl }
nibble (suc (suc (suc (suc (suc (suc (suc (suc (suc zero))))))))) h =
    record { hex = refl; blank = refl; mark = refl; quiet = refl; end = refl; value = refl }
nibble (suc (suc (suc (suc (suc (suc (suc (suc (suc (suc zero)))))))))) h =
    record { hex = refl; blank = refl; mark = refl; quiet = refl; end = refl; value = refl }
nibble (suc (suc (suc (suc (suc (suc (suc (suc (suc (suc (suc zero))))))))))) h =
    record { hex = refl; blank = refl; mark = refl; quiet = refl; end = refl; value = refl }
nibble (suc (suc (suc (suc (suc (suc (suc (suc (suc (suc (suc (suc zero)))))))))))) h =
    record { hex = refl; blank = refl; mark = refl; quiet = refl; end = refl; value = refl }
nibble (suc (suc (suc (suc (suc (suc (suc (suc (suc (suc (suc (suc (suc zero))))))))))))) h =
    record { hex = refl; blank = refl; mark = refl; quiet = refl; end = refl; value = refl }
nibble (suc (suc (suc (suc (suc (suc (suc (suc (suc (suc (suc (suc (suc (suc zero)))))))))))))) h =
    record { hex = refl; blank = refl; mark = refl; quiet = refl; end = refl; value = refl }
nibble (suc (suc (suc (suc (suc (suc (suc (suc (suc (suc (suc (suc (suc (suc (suc zero))))))))))))))) h =
    record { hex = refl; blank = refl; mark = refl; quiet = refl; end = refl; value = refl }
nibble (suc (suc (suc (suc (suc (suc (suc (suc (suc (suc (suc (suc (suc (suc (suc (suc v)))))))))))))))) h =
    absurd (omega arith)

-- ---- bits of a number

-- exactly w bits, with zeros after
abbrev pub padded : ℕ → List Bool → List Bool
padded zero bs = []
padded (suc w) [] = false ∷ padded w []
padded (suc w) (b ∷ bs) = b ∷ padded w bs

bits_of_zero : (w : ℕ) → bits_of w 0 ≡ padded w []
bits_of_zero zero = refl
bits_of_zero (suc w) = ap (λ (l : List Bool). false ∷ l) (bits_of_zero w)

low_bit : (b : Bool) (n : ℕ) → ((((cond b 1 0) + 2 * n) % 2) == 1) ≡ b
low_bit true n = grind (arith, nat_tests)
low_bit false n = grind (arith, nat_tests)

pub high_bits : (b : Bool) (n : ℕ) → ((cond b 1 0) + 2 * n) / 2 ≡ n
high_bits true n = omega arith
high_bits false n = omega arith

pub bits_again : (w : ℕ) (bs : List Bool) → bits_of w (number_of bs) ≡ padded w bs
bits_again zero bs = refl
bits_again (suc w) [] = bits_of_zero (suc w)
bits_again (suc w) (b ∷ bs) =
    ap (λ (c : Bool). c ∷ bits_of w (((cond b 1 0) + 2 * number_of bs) / 2)) (low_bit b (number_of bs))
    ∙ ap (λ (n : ℕ). b ∷ bits_of w n) (high_bits b (number_of bs))
    ∙ ap (λ (l : List Bool). b ∷ l) (bits_again w bs)

-- ---- hexadecimal digits

-- the lowest d digits of some bits, the highest first
abbrev pub hex_list : List Bool → ℕ → List ℕ
hex_list bits zero = []
hex_list bits (suc d) = hex_digit bits d ∷ hex_list bits d

pub four_below : (bits : List Bool) (d : ℕ) → number_of (take 4 (drop (4 * d) bits)) < 16
four_below bits d = number_of-lt (take 4 (drop (4 * d) bits)) 4
    (omega (arith, length-take 4 (drop (4 * d) bits)))

pub a_digit : (bits : List Bool) (d : ℕ) → IsDigit (hex_digit bits d) (number_of (take 4 (drop (4 * d) bits)))
a_digit bits d = nibble (number_of (take 4 (drop (4 * d) bits))) (four_below bits d)

padded_take : (w : ℕ) (bs : List Bool) → padded w (take w bs) ≡ padded w bs
padded_take zero bs = refl
padded_take (suc w) [] = refl
padded_take (suc w) (b ∷ bs) = ap (λ (l : List Bool). b ∷ l) (padded_take w bs)

pub padded_split : (m n : ℕ) (bs : List Bool) → padded (m + n) bs ≡ padded m bs ++ padded n (drop m bs)
padded_split zero n bs = let none : 0 + n ≡ n = omega arith in ap (λ k. padded k bs) none
padded_split (suc m) n [] =
    let more : suc m + n ≡ suc (m + n) = omega arith in
    ap (λ k. padded k []) more ∙ ap (λ (l : List Bool). false ∷ l)
    (padded_split m n [] ∙ ap (λ (l : List Bool). padded m [] ++ padded n l) (drop_nil m))
  where
    drop_nil : (m : ℕ) → drop m (let l : List Bool = [] in l) ≡ []
    drop_nil zero = refl
    drop_nil (suc m) = refl
padded_split (suc m) n (b ∷ bs) =
    let more : suc m + n ≡ suc (m + n) = omega arith in
    ap (λ k. padded k (b ∷ bs)) more ∙ ap (λ (l : List Bool). b ∷ l) (padded_split m n bs)

pub digits_again : (bits : List Bool) (d : ℕ) → hex_bits (hex_list bits d) ≡ padded (4 * d) bits
digits_again bits zero = refl
digits_again bits (suc d) =
    let more : 4 * d + 4 ≡ 4 * suc d = omega arith in
    let rest = drop (4 * d) bits in
    ap (λ (l : List Bool). l ++ bits_of 4 (digit_value (hex_digit bits d))) (digits_again bits d)
    ∙ ap (λ v. padded (4 * d) bits ++ bits_of 4 v) (a_digit bits d).value
    ∙ ap (λ (l : List Bool). padded (4 * d) bits ++ l) (bits_again 4 (take 4 rest) ∙ padded_take 4 rest)
    ∙ sym (padded_split (4 * d) 4 bits)
    ∙ ap (λ k. padded k bits) more

padded_zeros : (n : ℕ) → padded n [] ≡ replicate n false
padded_zeros zero = refl
padded_zeros (suc n) = ap (λ (l : List Bool). false ∷ l) (padded_zeros n)

padded_is : (n : ℕ) (bs : List Bool) → length bs ≤ n → padded n bs ≡ bs ++ replicate (n - length bs) false
padded_is zero [] h = refl
padded_is zero (b ∷ bs) h = absurd (omega arith)
padded_is (suc n) [] h =
    let same : suc n ≡ suc n - 0 = omega arith in padded_zeros (suc n) ∙ ap (λ k. replicate k false) same
padded_is (suc n) (b ∷ bs) h =
    let same : n - length bs ≡ suc n - suc (length bs) = omega arith in
    ap (λ (l : List Bool). b ∷ l) (padded_is n bs (omega arith) ∙ ap (λ k. bs ++ replicate k false) same)

-- the digits of this many bits stand for these bits, and nothing more
pub record StandsFor (bits : List Bool) (digits : List ℕ) : Type 0 where
  pub bits_are : fitted (length bits) (hex_bits digits) ≡ bits
  pub narrow : is_wide (length bits) (hex_bits digits) ≡ false

pub stands : (bits : List Bool) → StandsFor bits (hex_list bits ((length bits + 3) / 4))
unfolding fitted is_wide
stands bits =
    let len = length bits in
    let d = (len + 3) / 4 in
    let zeros = replicate (4 * d - len) false in
    let all : hex_bits (hex_list bits d)
    ≡ bits ++ zeros = digits_again bits d ∙ padded_is (4 * d) bits (omega arith) in
    record {
      bits_are = ap (λ (l : List Bool). take len (l ++ replicate len false)) all
          ∙ ap (take len) (append_assoc bits zeros (replicate len false))
          ∙ take_at bits (zeros ++ replicate len false) len refl;
      narrow = ap (λ (l : List Bool). has_one (drop len l)) all
          ∙ ap has_one (drop_at bits zeros len refl) ∙ no_one (4 * d - len);
    }

-- ---- decimal numbers

number_push : (m : ℕ) (xs : List ℕ) (d : ℕ) → number_from m (xs ++ d ∷ []) ≡ 10 * number_from m xs + (d - 48)
number_push m [] d = refl
number_push m (x ∷ xs) d = number_push (10 * m + (x - 48)) xs d

-- a byte of a decimal number
pub record IsDecimal (b : ℕ) : Type 0 where
  pub digit : is_ascii_digit b ≡ true
  pub blank : is_blank b ≡ false
  pub mark : is_parenthesis b ≡ false
  pub quiet : is_quiet b ≡ true
  pub letter : (nat_lt b 65) ≡ true

pub a_decimal : (v : ℕ) → v < 10 → IsDecimal (48 + v)
a_decimal zero h = record { digit = refl; blank = refl; mark = refl; quiet = refl; letter = refl }
a_decimal (suc zero) h = record { digit = refl; blank = refl; mark = refl; quiet = refl; letter = refl }
a_decimal (suc (suc zero)) h = record { digit = refl; blank = refl; mark = refl; quiet = refl; letter = refl }
a_decimal (suc (suc (suc zero))) h =
    record { digit = refl; blank = refl; mark = refl; quiet = refl; letter = refl }
a_decimal (suc (suc (suc (suc zero)))) h =
    record { digit = refl; blank = refl; mark = refl; quiet = refl; letter = refl }
a_decimal (suc (suc (suc (suc (suc zero))))) h =
    record { digit = refl; blank = refl; mark = refl; quiet = refl; letter = refl }
a_decimal (suc (suc (suc (suc (suc (suc zero)))))) h =
    record { digit = refl; blank = refl; mark = refl; quiet = refl; letter = refl }
a_decimal (suc (suc (suc (suc (suc (suc (suc zero))))))) h =
    record { digit = refl; blank = refl; mark = refl; quiet = refl; letter = refl }
a_decimal (suc (suc (suc (suc (suc (suc (suc (suc zero)))))))) h =
    record { digit = refl; blank = refl; mark = refl; quiet = refl; letter = refl }
a_decimal (suc (suc (suc (suc (suc (suc (suc (suc (suc zero))))))))) h =
    record { digit = refl; blank = refl; mark = refl; quiet = refl; letter = refl }
a_decimal (suc (suc (suc (suc (suc (suc (suc (suc (suc (suc v)))))))))) h = absurd (omega arith)

-- each byte is one of a decimal number
abbrev pub AreDecimal : List ℕ → Type 0
AreDecimal [] = Unit {0}
AreDecimal (b ∷ bs) = IsDecimal b × AreDecimal bs

decimal_push : (xs : List ℕ) (b : ℕ) → AreDecimal xs → IsDecimal b → AreDecimal (xs ++ b ∷ [])
decimal_push [] b h is = (is, tt)
decimal_push (x ∷ xs) b h is = (h.0, decimal_push xs b h.1 is)

pub record Written (n : ℕ) (bs : List ℕ) : Type 0 where
  pub value : number_from 0 bs ≡ n
  pub bytes : AreDecimal bs

one_written : (n : ℕ) → n < 10 → Written n ((48 + n) ∷ [])
one_written n h = record { value = omega arith; bytes = (a_decimal n h, tt) }

more_written : (n : ℕ) (ds : List ℕ) → 10 ≤ n → Written (n / 10) ds → Written n (ds ++ ((48 + n % 10) ∷ []))
more_written n ds h front =
    let last : n % 10 < 10 = omega arith in
    record {
      value = number_push 0 ds (48 + n % 10) ∙ omega (arith, front.value);
      bytes = decimal_push ds (48 + n % 10) front.bytes (a_decimal (n % 10) last);
    }

pub decimal_written : (n : ℕ) → n < 2 ^ 64 → Written n (decimal n)
decimal_written n h = decimal_by_steps Written one_written more_written n h

all_digits : (bs : List ℕ) → AreDecimal bs → list_all is_ascii_digit bs ≡ true
all_digits [] h = refl
all_digits (b ∷ bs) h = ap (λ c. c && list_all is_ascii_digit bs) h.0.digit ∙ all_digits bs h.1

number_at : (w : List ℕ) (a b c : Bool) → nat_le 1 (length w) ≡ a → nat_le (length w) 10 ≡ b
    → list_all is_ascii_digit w ≡ c → number w ≡ cond (a && (b && c)) (Some (number_from 0 w)) None
number_at w a b c ea eb ec =
    ap (λ k. cond (k && (nat_le (length w) 10 && list_all is_ascii_digit w)) (Some (number_from 0 w)) None) ea
    ∙ ap (λ k. cond (a && (k && list_all is_ascii_digit w)) (Some (number_from 0 w)) None) eb
    ∙ ap (λ k. cond (a && (b && k)) (Some (number_from 0 w)) None) ec

pub number_again : (n : ℕ) → n < 10 ^ 10 → number (decimal n) ≡ Some n
number_again n h =
    let fits : n < 2 ^ 64 = omega (arith) in
    let is = decimal_written n fits in
    let some : 0 < length (decimal n) = decimal_nonempty n fits in
    let few : length (decimal n) ≤ 10 = length-decimal-le 10 n (omega arith) h fits in
    let at_least : nat_le 1 (length (decimal n)) ≡ true = grind (arith, nat_tests) in
    let at_most : nat_le (length (decimal n)) 10 ≡ true = grind (arith, nat_tests) in
    number_at (decimal n) true true true at_least at_most (all_digits (decimal n) is.bytes)
    ∙ ap (λ k. let o : Option ℕ = Some k in o) is.value

pub hex_up_to : (i n : ℕ) → i ≤ n → 16 ^ i ≤ 16 ^ n
hex_up_to i n h = pow-le-pow_right (lit< tt) h
