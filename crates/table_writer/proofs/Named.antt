-- Names, decimals and what is put together from them, each as one word of a line.
use Rattle.std.proofs.Common.{◌≡◌, ◌≢◌, ℕ, ◌+◌, ◌-◌, ◌*◌, ◌^◌, ◌<◌, ◌≤◌, Bool, true, false, not, cond, List}
use Rattle.std.proofs.Common.{[], ◌∷◌, Some, None, length, nat_le, refl, ap, ◌∙◌, arith, rules}
use Rattle.std.specs.Prelude.{◌==◌, ◌&&◌, ◌||◌, decimal}
use Rattle.std.specs.List.{list_all}
use Rattle.std.specs.Char.{is_ascii_digit}
use Rattle.std.specs.Str.Parse.{AllDigits}
use Rattle.std.specs.Int.{IsInRange}
use Rattle.std.proofs.lemmas.Bool.{eqb-true, or_left, and_right, and_from}
use Rattle.std.proofs.lemmas.Bool.Decides.{nat_tests}
use Rattle.std.proofs.lemmas.Fmt.{decimal_is_IsNumeral}
use Rattle.std.proofs.lemmas.Str.Parse.{digit_from_value, IsNumeralModel, FoldsDigits, numerals_by_fold}
use Rattle.std.proofs.lemmas.Str.Parse.{tells_digits}
use Rattle.ij_text.specs.Numbers.{InDecimal, with_decimal_digit, decimal_from, is_digit, is_rest_of_digits}
use Rattle.ij_text.specs.Numbers.{value_of, said}
use Rattle.ij_text.specs.Numbers.{number_of_text}
use Rattle.ij_text.specs.Words.{begins_name, in_name, is_name}
use Rattle.table_lines.specs.Words.{is_too_wide, unless_too_wide, decimal_or_none, without_x}
use Rattle.table_lines.specs.Words.{number as number_read, decimal as decimal_read, plain as plain_read}
use Rattle.table_writer.proofs.Lexed.{first_true, all_weaker, is_letter, Reads, one_word}
use Rattle.ij_bits.proofs.Tests.{not_both, and_second}

-- ---- bytes that aren't in a class

pub not_byte : (p : ℕ → Bool) (k : ℕ) → p k ≡ false → (b : ℕ) → p b ≡ true → (b == k) ≡ false
not_byte p k off b on = one (b == k) refl
  where
    one : (same : Bool) → (b == k) ≡ same → same ≡ false
    one true is = absurd (not_both (p b) on (ap p (eqb-true b k is) ∙ off))
    one false is = refl

all_off : (p q r s t u v w x : Bool) → p ≡ false → q ≡ false → r ≡ false → s ≡ false → t ≡ false
    → u ≡ false → v ≡ false → w ≡ false → x ≡ false
    → (not ((p || (q || r)) || (s || (t || (u || v)))) && not (w || x)) ≡ true
all_off p q r s t u v w x hp hq hr hs ht hu hv hw hx = rw (hp, hq, hr, hs, ht, hu, hv, hw, hx)

-- a class without blanks, marks, line feeds and the comment's sign
pub record HasNoSign (p : ℕ → Bool) : Type 0 where
  pub space : p 32 ≡ false
  pub tab : p 9 ≡ false
  pub feed : p 13 ≡ false
  pub equals : p 61 ≡ false
  pub plus : p 43 ≡ false
  pub comma : p 44 ≡ false
  pub minus : p 45 ≡ false
  pub line : p 10 ≡ false
  pub comment : p 35 ≡ false

pub letter : (p : ℕ → Bool) → HasNoSign p → (b : ℕ) → p b ≡ true → is_letter b ≡ true
letter p none b h =
    all_off (b == 32) (b == 9) (b == 13) (b == 61) (b == 43) (b == 44) (b == 45) (b == 10) (b == 35)
    (not_byte p 32 none.space b h) (not_byte p 9 none.tab b h) (not_byte p 13 none.feed b h)
    (not_byte p 61 none.equals b h) (not_byte p 43 none.plus b h)
    (not_byte p 44 none.comma b h) (not_byte p 45 none.minus b h)
    (not_byte p 10 none.line b h) (not_byte p 35 none.comment b h)

pub in_name_plain : HasNoSign in_name
in_name_plain = record {
  space = refl;
  tab = refl;
  feed = refl;
  equals = refl;
  plus = refl;
  comma = refl;
  minus = refl;
  line = refl;
  comment = refl;
}

pub digit_plain : HasNoSign is_ascii_digit
digit_plain = record {
  space = refl;
  tab = refl;
  feed = refl;
  equals = refl;
  plus = refl;
  comma = refl;
  minus = refl;
  line = refl;
  comment = refl;
}

-- ---- names

pub name_bytes : (w : List ℕ) → is_name w ≡ true → list_all in_name w ≡ true
name_bytes [] h = refl
name_bytes (b ∷ bs) h =
    and_from (in_name b) (list_all in_name bs)
    (or_left (begins_name b) (is_ascii_digit b) (first_true (begins_name b) (list_all in_name bs) h))
    (and_second (begins_name b) (list_all in_name bs) h)

pub name_some : (w : List ℕ) → is_name w ≡ true → w ≢ []
name_some [] h = absurd cc
name_some (b ∷ bs) h = λ e. absurd cc

pub name_letters : (w : List ℕ) → is_name w ≡ true → list_all is_letter w ≡ true
name_letters w h = all_weaker in_name is_letter (letter in_name in_name_plain) w (name_bytes w h)

pub name_word : (w : List ℕ) → is_name w ≡ true → Reads w (w ∷ [])
name_word w h = one_word w (name_some w h) (name_letters w h)

-- ---- decimals

in_range : (c : ℕ) → IsInRange 48 57 c → is_ascii_digit c ≡ true
in_range c (low, high) = grind (arith, nat_tests)

all_digits : (ds : List ℕ) → AllDigits 10 ds → list_all is_ascii_digit ds ≡ true
all_digits [] h = refl
all_digits (c ∷ cs) (d, more) = and_from (is_ascii_digit c) (list_all is_ascii_digit cs)
    (in_range c (digit_from_value c d)) (all_digits cs more)

pub decimal_digits : (n : ℕ) → n < 2 ^ 64 → list_all is_ascii_digit (decimal n) ≡ true
decimal_digits n h = all_digits (decimal n) (decimal_is_IsNumeral n h).0.1

not_nothing : (ds : List ℕ) → 0 < length ds → ds ≢ []
not_nothing [] h = absurd (omega (arith, h))
not_nothing (c ∷ cs) h = λ e. absurd cc

pub decimal_some : (n : ℕ) → n < 2 ^ 64 → decimal n ≢ []
decimal_some n h = not_nothing (decimal n) (decimal_is_IsNumeral n h).0.0

pub decimal_letters : (n : ℕ) → n < 2 ^ 64 → list_all is_letter (decimal n) ≡ true
decimal_letters n h =
    all_weaker is_ascii_digit is_letter (letter is_ascii_digit digit_plain) (decimal n) (decimal_digits n h)

pub decimal_word : (n : ℕ) → n < 2 ^ 64 → Reads (decimal n) (decimal n ∷ [])
decimal_word n h = one_word (decimal n) (decimal_some n h) (decimal_letters n h)

-- the number that digits say
next_is : (n b : ℕ) → IsInRange 48 57 b → with_decimal_digit n b ≡ n * 10 + (b - 48)
next_is n b (low, high) = one (b == 95) refl
  where
    one : (k : Bool) → (b == 95) ≡ k → cond k n (10 * n + (b - 48)) ≡ n * 10 + (b - 48)
    one true is = let e = eqb-true b 95 is in absurd (omega (arith, e, high))
    one false is = omega arith

folded : FoldsDigits decimal_from
folded = record { empty = λ n. refl; more = λ n c cs h. ap (λ m. decimal_from m cs) (next_is n c h) }

pub decimal_value : (n : ℕ) → n < 2 ^ 64 → decimal_from 0 (decimal n) ≡ n
decimal_value n h =
    let model : IsNumeralModel (AllDigits 10) (decimal_from 0) =
    numerals_by_fold (AllDigits 10) tells_digits decimal_from folded in
    model.same (decimal n) (decimal_is_IsNumeral n h).0.1 ∙ (decimal_is_IsNumeral n h).1

-- digits in a radix
pub goes_on : (radix : _) (bs : List ℕ) → list_all (is_digit radix) bs ≡ true → is_rest_of_digits radix true
    bs ≡ true
goes_on radix [] h = refl
goes_on radix (b ∷ bs) h =
    ap (λ k. cond k (is_rest_of_digits radix true bs) ((b == 95) && is_rest_of_digits radix false bs))
    (first_true (is_digit radix b) (list_all (is_digit radix) bs) h)
    ∙ goes_on radix bs (and_second (is_digit radix b) (list_all (is_digit radix) bs) h)

pub said_digits : (radix : _) (text : List ℕ) → text ≢ [] → list_all (is_digit radix) text ≡ true
    → said radix text ≡ Some (value_of radix text)
said_digits radix [] some h = absurd (some refl)
said_digits radix (b ∷ bs) some h =
    ap (λ k. cond k (Some (value_of radix (b ∷ bs))) None)
    (and_from (is_digit radix b) (is_rest_of_digits radix true bs)
    (first_true (is_digit radix b) (list_all (is_digit radix) bs) h)
    (goes_on radix bs (and_second (is_digit radix b) (list_all (is_digit radix) bs) h)))

said_decimal : (radix : _) (text : List ℕ) → ((b : ℕ) → is_digit radix b ≡ is_ascii_digit b)
    → ((t : List ℕ) → value_of radix t ≡ InDecimal (decimal_from 0 t))
    → text ≢ [] → list_all is_ascii_digit text ≡ true
    → said radix text ≡ Some (InDecimal (decimal_from 0 text))
said_decimal radix text same own some h = said_digits radix text some
    (all_weaker is_ascii_digit (is_digit radix) (λ b k. same b ∙ k) text h) ∙ ap Some (own text)

pub last_of : {A : Type 0} (x y : Bool) (p q r s : A) → x ≡ false
    → y ≡ false → r ≡ s → cond x p (cond y q r) ≡ s
last_of true y p q r s h k e = absurd cc
last_of false true p q r s h k e = absurd cc
last_of false false p q r s h k e = e

number_said : (text : List ℕ) → text ≢ [] → list_all is_ascii_digit text ≡ true
    → number_of_text text ≡ Some (InDecimal (decimal_from 0 text))
number_said [] some h = absurd (some refl)
number_said (a ∷ []) some h = ap (λ k. cond k (Some (InDecimal (decimal_from 0 (a ∷ [])))) None) h
number_said (a ∷ b ∷ bs) some h =
    let rest : list_all is_ascii_digit (b ∷ bs)
    ≡ true = and_second (is_ascii_digit a) (list_all is_ascii_digit (b ∷ bs)) h in
    let digit : is_ascii_digit b ≡ true = first_true (is_ascii_digit b) (list_all is_ascii_digit bs) rest in
    last_of ((a == 48) && (b == 98)) ((a == 48) && (b == 120)) _ _ _
    (Some (InDecimal (decimal_from 0 (a ∷ b ∷ bs))))
    (and_right (a == 48) (b == 98) (not_byte is_ascii_digit 98 refl b digit))
    (and_right (a == 48) (b == 120) (not_byte is_ascii_digit 120 refl b digit))
    (search (said_decimal, rules))

narrow : (n : ℕ) → n < 2 ^ 64 → is_too_wide (InDecimal n) ≡ false
narrow n h = below (2 ^ 128) n (λ k. omega (arith, h, k))
  where
    below : (m n : ℕ) → (m ≤ n → ⊥) → nat_le m n ≡ false
    below m n not_so = grind (arith, nat_tests)

pub number_decimal : (n : ℕ) → n < 2 ^ 64 → number_read (decimal n) ≡ Some (InDecimal n)
unfolding number_read
number_decimal n h =
    ap unless_too_wide (number_said (decimal n) (decimal_some n h) (decimal_digits n h))
    ∙ ap (λ (m : ℕ). unless_too_wide (Some (InDecimal m))) (decimal_value n h)
    ∙ ap (λ (k : Bool). cond k None (Some (InDecimal n))) (narrow n h)

pub decimal_decimal : (n : ℕ) → n < 2 ^ 64 → decimal_read (decimal n) ≡ Some n
unfolding decimal_read
decimal_decimal n h = ap decimal_or_none (number_decimal n h)

pub plain_decimal : (n : ℕ) → n < 2 ^ 64 → plain_read (decimal n) ≡ Some n
unfolding plain_read
plain_decimal n h = ap without_x (number_decimal n h)

-- a number isn't a name
pub digit_no_start : (c : ℕ) → is_ascii_digit c ≡ true → begins_name c ≡ false
digit_no_start c h = grind (arith, nat_tests)

no_name : (ds : List ℕ) → AllDigits 10 ds → is_name ds ≡ false
no_name [] h = refl
no_name (c ∷ cs) (d, more) =
    ap (λ k. k && list_all in_name cs) (digit_no_start c (in_range c (digit_from_value c d)))

pub decimal_no_name : (n : ℕ) → n < 2 ^ 64 → is_name (decimal n) ≡ false
decimal_no_name n h = no_name (decimal n) (decimal_is_IsNumeral n h).0.1
