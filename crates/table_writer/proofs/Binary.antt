-- Numbers with x, read again.
use Rattle.std.proofs.Common.{◌≡◌, ◌≢◌, ℕ, zero, suc, ◌-◌, ◌/◌, ◌%◌, ◌^◌, ◌<◌, ◌≤◌, Bool, true, false, cond}
use Rattle.std.proofs.Common.{List, [], ◌∷◌, ◌++◌, codes, Option, Some, None, length, map, get_or, nat_le}
use Rattle.std.proofs.Common.{refl, ap, sym, ◌∙◌, arith, rules}
use Rattle.std.specs.Prelude.{◌==◌, ◌&&◌, ◌||◌, bit_and, is_some, decimal}
use Rattle.std.specs.List.{list_all, list_any}
use Rattle.std.proofs.Math.ListN.{drop_of_length-le}
use Rattle.std.proofs.Math.Nat.{mod-eq_of_lt}
use Rattle.std.proofs.lemmas.Bool.{eqb-true, le-ltb, and_from}
use Rattle.std.proofs.lemmas.Bool.Decides.{nat_tests}
use Rattle.std.proofs.lemmas.Nat.{and_le_r, and_shr, and_mod}
use Rattle.std.proofs.lemmas.List.FromFn.{fill_by_all}
use Rattle.ij_bits.specs.BitLists.{bits_of, number_of}
use Rattle.ij_text.specs.Numbers.{Written, InDecimal, InBits, is_digit, digit_bits, text_bits, value_of, said}
use Rattle.ij_text.specs.Numbers.{number_of_text, bits_in, open_bits}
use Rattle.table_lines.specs.Words.{is_too_wide, unless_too_wide, is_open, is_one, number as number_read}
use Rattle.table_lines.specs.Words.{is_wide, value_in, care_in}
use Rattle.table_lines.proofs.Lows.{decimal_bits, known_bits}
use Rattle.bench_file.specs.Written.{digit, digits, compared_text}
use Rattle.table_writer.proofs.Lexed.{first_true, all_both, all_weaker, is_letter}
use Rattle.table_writer.proofs.Named.{not_byte, said_digits, number_decimal, decimal_some, decimal_letters}
use Rattle.ij_bits.proofs.Hex.{number_of-bits_of}
use Rattle.ij_bits.proofs.Tests.{and_second}

-- ---- digits and their bits

abbrev is_binary : ℕ → Bool
is_binary b = b == 48 || (b == 49 || b == 120)

abbrev bit_said : ℕ → Option Bool
bit_said b = cond (b == 120) None (Some (b == 49))

abbrev bits_said : List ℕ → List (Option Bool)
bits_said [] = []
bits_said (b ∷ bs) = bits_said bs ++ bit_said b ∷ []

-- a digit's bit is the one that it was made from
digit_back : (v c : Bool) → bit_said (digit v c) ≡ cond c (Some v) None
digit_back true true = refl
digit_back false true = refl
digit_back true false = refl
digit_back false false = refl

last_bits : (xs : List ℕ) (d : ℕ) → bits_said (xs ++ d ∷ []) ≡ bit_said d ∷ bits_said xs
last_bits [] d = refl
last_bits (x ∷ xs) d = ap (λ l. l ++ bit_said x ∷ []) (last_bits xs d)

bits_back : (vs cs : List Bool) → bits_said (digits vs cs) ≡ open_bits vs cs
bits_back [] cs = refl
bits_back (v ∷ vs) [] = refl
bits_back (v ∷ vs) (c ∷ cs) = last_bits (digits vs cs) (digit v c) ∙ ap (λ b. b ∷ bits_said (digits vs cs))
    (digit_back v c) ∙ ap (λ l. cond c (Some v) None ∷ l) (bits_back vs cs)

two_digit : (v c : Bool) → is_binary (digit v c) ≡ true
two_digit true true = refl
two_digit false true = refl
two_digit true false = refl
two_digit false false = refl

all_two : (vs cs : List Bool) → list_all is_binary (digits vs cs) ≡ true
all_two [] cs = refl
all_two (v ∷ vs) [] = refl
all_two (v ∷ vs) (c ∷ cs) = all_both is_binary (digits vs cs) (digit v c ∷ []) (all_two vs cs)
    (and_from (is_binary (digit v c)) true (two_digit v c) refl)

-- digits give their bits
same_bits : (radix : _) (bs : List ℕ) → ((b : ℕ) → digit_bits radix b ≡ bit_said b ∷ [])
    → list_all is_binary bs ≡ true → text_bits radix bs ≡ bits_said bs
same_bits radix [] own h = refl
same_bits radix (b ∷ bs) own h =
    ap (λ k. text_bits radix bs ++ cond k [] (digit_bits radix b))
    (not_byte is_binary 95 refl b (first_true (is_binary b) (list_all is_binary bs) h))
    ∙ ap (λ l. text_bits radix bs ++ l) (own b) ∙ ap (λ l. l ++ bit_said b ∷ [])
    (same_bits radix bs own (and_second (is_binary b) (list_all is_binary bs) h))

said_bits : (radix : _) (ds : List ℕ) → ((b : ℕ) → is_digit radix b ≡ is_binary b)
    → ((b : ℕ) → digit_bits radix b ≡ bit_said b ∷ [])
    → ((t : List ℕ) → value_of radix t ≡ InBits (text_bits radix t))
    → ds ≢ [] → list_all is_binary ds ≡ true → said radix ds ≡ Some (InBits (bits_said ds))
said_bits radix ds same own value some h =
    said_digits radix ds some (all_weaker is_binary (is_digit radix) (λ b k. same b ∙ k) ds h)
    ∙ ap Some (value ds) ∙ ap (λ bits. Some (InBits bits)) (same_bits radix ds own h)

first_of : {A : Type 0} (x : Bool) (p q s : A) → x ≡ true → p ≡ s → cond x p q ≡ s
first_of true p q s h e = e
first_of false p q s h e = absurd cc

said_after : (a b : ℕ) (ds : List ℕ) → ((a == 48) && (b == 98)) ≡ true → ds ≢ []
    → list_all is_binary ds ≡ true → number_of_text (a ∷ b ∷ ds) ≡ Some (InBits (bits_said ds))
said_after a b ds begins some h =
    first_of ((a == 48) && (b == 98)) _ _ (Some (InBits (bits_said ds))) begins (search (said_bits, rules))

said_binary : (ds : List ℕ) → ds ≢ [] → list_all is_binary ds ≡ true
    → number_of_text (48 ∷ 98 ∷ ds) ≡ Some (InBits (bits_said ds))
said_binary ds some h = said_after 48 98 ds refl some h

digit_letter : (v c : Bool) → is_letter (digit v c) ≡ true
digit_letter true true = refl
digit_letter false true = refl
digit_letter true false = refl
digit_letter false false = refl

all_letters : (vs cs : List Bool) → list_all is_letter (digits vs cs) ≡ true
all_letters [] cs = refl
all_letters (v ∷ vs) [] = refl
all_letters (v ∷ vs) (c ∷ cs) = all_both is_letter (digits vs cs) (digit v c ∷ []) (all_letters vs cs)
    (and_from (is_letter (digit v c)) true (digit_letter v c) refl)

last_some : (xs : List ℕ) (d : ℕ) → xs ++ d ∷ [] ≢ []
last_some [] d = λ e. absurd cc
last_some (x ∷ xs) d = λ e. absurd cc

-- ---- a number of this many bits

open_long : (w v c : ℕ) → length (open_bits (bits_of w v) (bits_of w c)) ≡ w
open_long zero v c = refl
open_long (suc w) v c = ap suc (open_long w (v / 2) (c / 2))

abbrev pub open_text : ℕ → ℕ → ℕ → List ℕ
open_text w v c = codes "0b" ++ digits (bits_of w v) (bits_of w c)

abbrev pub open_number : ℕ → ℕ → ℕ → Written
open_number w v c = InBits (open_bits (bits_of w v) (bits_of w c))

some_digits : (w v c : ℕ) → 1 ≤ w → digits (bits_of w v) (bits_of w c) ≢ []
some_digits zero v c some = absurd (omega (arith, some))
some_digits (suc w) v c some =
    last_some (digits (bits_of w (v / 2)) (bits_of w (c / 2))) (digit ((v % 2) == 1) ((c % 2) == 1))

narrow_number : (o : Option Written) (w : Written) → o ≡ Some w
    → is_too_wide w ≡ false → unless_too_wide o ≡ Some w
narrow_number o w is narrow = ap unless_too_wide is ∙ ap (λ k. cond k None (Some w)) narrow

pub number_open : (w v c : ℕ) → 1 ≤ w → w ≤ 64 → number_read (open_text w v c) ≡ Some (open_number w v c)
unfolding number_read
number_open w v c some few =
    let short : length (open_bits (bits_of w v) (bits_of w c)) ≤ 4096 = omega (arith, few, open_long w v c) in
    narrow_number (number_of_text (open_text w v c)) (open_number w v c)
    (said_binary (digits (bits_of w v) (bits_of w c)) (some_digits w v c some) (all_two (bits_of w v)
    (bits_of w c)) ∙ ap (λ bits. Some (InBits bits)) (bits_back (bits_of w v) (bits_of w c)))
    (le-ltb 4096 (length (open_bits (bits_of w v) (bits_of w c))) short)

open_letters : (w v c : ℕ) → list_all is_letter (open_text w v c) ≡ true
open_letters w v c = all_both is_letter (codes "0b") (digits (bits_of w v) (bits_of w c)) refl
    (all_letters (bits_of w v) (bits_of w c))

open_some : (w v c : ℕ) → open_text w v c ≢ []
open_some w v c e = absurd cc

pub open_fits : (w v c : ℕ) → is_wide w (open_number w v c) ≡ false
unfolding is_wide
open_fits w v c =
    let long = open_long w v c in
    ap (list_any (λ bit. is_open bit || is_one bit))
    (drop_of_length-le (open_bits (bits_of w v) (bits_of w c)) (omega (arith, long)))

own_bits : (w v c : ℕ) → bits_in w (open_number w v c) ≡ open_bits (bits_of w v) (bits_of w c)
own_bits w v c = sym (fill_by_all (λ k. get_or (open_bits (bits_of w v) (bits_of w c)) k (Some false))
    (open_bits (bits_of w v) (bits_of w c)) w (Some false) (open_long w v c) (λ k h. refl))

-- what counts
care_bits : (w v c : ℕ) → map is_some (open_bits (bits_of w v) (bits_of w c)) ≡ bits_of w c
care_bits zero v c = refl
care_bits (suc w) v c = ap (λ b. b ∷ map is_some (open_bits (bits_of w (v / 2)) (bits_of w (c / 2))))
    (own ((v % 2) == 1) ((c % 2) == 1)) ∙ ap (λ l. ((c % 2) == 1) ∷ l) (care_bits w (v / 2) (c / 2))
  where
    own : (x y : Bool) → is_some (cond y (Some x) None) ≡ y
    own x true = refl
    own x false = refl

low_within : (v c : ℕ) → bit_and v c ≡ v → ((v % 2) == 1) ≡ true → ((c % 2) == 1) ≡ true
low_within v c h is =
    let low : bit_and (v % 2) (c % 2) ≡ v % 2 = sym (and_mod v c 1) ∙ ap (λ n. n % 2) h in
    let least : bit_and (v % 2) (c % 2) ≤ c % 2 = and_le_r (v % 2) (c % 2) in
    let one : v % 2 ≡ 1 = eqb-true (v % 2) 1 is in
    equal (c % 2) (omega (arith, low, least, one))
  where
    equal : (n : ℕ) → n ≡ 1 → (n == 1) ≡ true
    equal n e = ap (λ k. k == 1) e

value_bits : (w v c : ℕ) → bit_and v c ≡ v → map is_one (open_bits (bits_of w v) (bits_of w c)) ≡ bits_of w v
value_bits zero v c h = refl
value_bits (suc w) v c h =
    let next : bit_and (v / 2) (c / 2) ≡ v / 2 = sym (and_shr v c 1) ∙ ap (λ n. n / 2) h in
    ap (λ b. b ∷ map is_one (open_bits (bits_of w (v / 2)) (bits_of w (c / 2))))
    (own ((v % 2) == 1) ((c % 2) == 1) (low_within v c h))
    ∙ ap (λ l. ((v % 2) == 1) ∷ l) (value_bits w (v / 2) (c / 2) next)
  where
    own : (x y : Bool) → (x ≡ true → y ≡ true) → is_one (cond y (Some x) None) ≡ x
    own x true within = refl
    own true false within = absurd (let e = within refl in cc)
    own false false within = refl

pub open_value : (w v c : ℕ) → v < 2 ^ w → bit_and v c ≡ v → value_in w (open_number w v c) ≡ v
unfolding value_in
open_value w v c small h = ap (λ bits. number_of (map is_one bits)) (own_bits w v c)
    ∙ ap number_of (value_bits w v c h) ∙ number_of-bits_of w v small

pub open_care : (w v c : ℕ) → c < 2 ^ w → care_in w (open_number w v c) ≡ c
unfolding care_in
open_care w v c small = ap (λ bits. number_of (map is_some bits)) (own_bits w v c)
    ∙ ap number_of (care_bits w v c) ∙ number_of-bits_of w c small

-- ---- a number all bits of which count

pub decimal_in : (w n : ℕ) → n < 2 ^ w → value_in w (InDecimal n) ≡ n
unfolding value_in
decimal_in w n small = decimal_bits w n ∙ mod-eq_of_lt small

pub decimal_care : (w n : ℕ) → care_in w (InDecimal n) ≡ 2 ^ w - 1
unfolding care_in
decimal_care w n = known_bits w n

pub decimal_fits : (w n : ℕ) → n < 2 ^ w → is_wide w (InDecimal n) ≡ false
unfolding is_wide
decimal_fits w n small = below (2 ^ w) n small
  where
    below : (m n : ℕ) → n < m → nat_le m n ≡ false
    below m n h = grind (arith, nat_tests)

-- ---- the number of a condition

pub record IsSaid (w v c : ℕ) (text : List ℕ) (n : Written) : Type 0 where
  pub letters : list_all is_letter text ≡ true
  pub some : text ≢ []
  pub number : number_read text ≡ Some n
  pub fits : is_wide w n ≡ false
  pub value : value_in w n ≡ v
  pub care : care_in w n ≡ c

abbrev pub compared : ℕ → ℕ → ℕ → Written
compared w v c = cond (c == 2 ^ w - 1) (InDecimal v) (open_number w v c)

pub compared_again : (w v c : ℕ) → 1 ≤ w → w ≤ 64 → v < 2 ^ w → v < 2 ^ 64 → c < 2 ^ w → bit_and v c ≡ v
    → IsSaid w v c (compared_text w v c) (compared w v c)
compared_again w v c some few small short care within = one (c == 2 ^ w - 1) (λ h. eqb-true c (2 ^ w - 1) h)
  where
    one : (k : Bool) → (k ≡ true → c ≡ 2 ^ w - 1)
        → IsSaid w v c (cond k (decimal v) (open_text w v c)) (cond k (InDecimal v) (open_number w v c))
    one true all = record {
      letters = decimal_letters v short;
      some = decimal_some v short;
      number = number_decimal v short;
      fits = decimal_fits w v small;
      value = decimal_in w v small;
      care = decimal_care w v ∙ sym (all refl);
    }
    one false all = record {
      letters = open_letters w v c;
      some = open_some w v c;
      number = number_open w v c
          some few;
      fits = open_fits w v c;
      value = open_value w v c small within;
      care = open_care w v c care;
    }
