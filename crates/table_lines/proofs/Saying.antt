-- Numbers that words say.
use Rattle.std.proofs.Common.{◌≡◌, ℕ, ◌+◌, ◌*◌, ◌^◌, ◌<◌, ◌≤◌, Bool, true, false, cond, nat_lt, nat_le, List}
use Rattle.std.proofs.Common.{length, drop, Option, Some, None, ap, sym, ◌∙◌, arith}
use Rattle.std.specs.Prelude.{◌⊎◌, Result, Ok, Err}
use Rattle.std.specs.List.{list_any}
use Rattle.std.proofs.Common.{inl, inr}
use Rattle.std.proofs.Math.ListN.{drop_of_length-le}
use Rattle.std.proofs.Math.Pow.{pow_mono}
use Rattle.std.proofs.lemmas.Nat.{pow-add}
use Rattle.std.proofs.lemmas.Bool.Decides.{nat_tests}
use Rattle.ij_text.specs.Numbers.{Written, InDecimal, InBits, IsTooWide, SaysTooWide, number_of_text}
use Rattle.ij_text.specs.declared.Place.{Place}
use Rattle.ij_text.specs.declared.number.NumberFault.{NumberFault}
use Rattle.ij_text.specs.declared.number.NumberFault.TheVariants.{BadNumber, TooWide, OutOfMemory}
use Rattle.table_lines.specs.Words.{is_too_wide, unless_too_wide, number}

narrow : (w : Written) → (IsTooWide w → ⊥) → is_too_wide w ≡ false
narrow (InDecimal n) not_so = above (2 ^ 128) n not_so
  where
    above : (m n : ℕ) → (m ≤ n → ⊥) → nat_le m n ≡ false
    above m n not_so = grind (arith, nat_tests)
narrow (InBits bits) not_so = above 4096 (length bits) not_so
  where
    above : (m n : ℕ) → (m < n → ⊥) → nat_lt m n ≡ false
    above m n not_so = grind (arith, nat_tests)

wide : (w : Written) → IsTooWide w → is_too_wide w ≡ true
wide (InDecimal n) h = above (2 ^ 128) n h
  where
    above : (m n : ℕ) → m ≤ n → nat_le m n ≡ true
    above m n h = grind (arith, nat_tests)
wide (InBits bits) h = above 4096 (length bits) h
  where
    above : (m n : ℕ) → m < n → nat_lt m n ≡ true
    above m n h = grind (arith, nat_tests)

pub is_number : (text : List ℕ) (w : Written) → number_of_text text ≡ Some w
    → (SaysTooWide (number_of_text text) → ⊥) → Some w ≡ number text
unfolding number
is_number text w is not_so =
    let fits : IsTooWide w → ⊥ = rw is at not_so in
    sym (ap unless_too_wide is ∙ ap (λ k. cond k None (Some w)) (narrow w fits))

pub bad_number : (text : List ℕ) → number_of_text text ≡ None → None ≡ number text
unfolding number
bad_number text is = sym (ap unless_too_wide is)

said_wide : (w : Option Written) → SaysTooWide w → unless_too_wide w ≡ None
said_wide None h = absurd h
said_wide (Some w) h = ap (λ k. cond k None (Some w)) (wide w h)

pub wide_number : (text : List ℕ) → SaysTooWide (number_of_text text) → None ≡ number text
unfolding number
wide_number text h = sym (said_wide (number_of_text text) h)

-- ---- hexadecimal digits

more_bits : (i : ℕ) → 2 ^ (4 * (i + 1)) ≡ 2 ^ (4 * i) * 16
more_bits i = let e : 4 * (i + 1) ≡ 4 * i + 4 = omega arith in ap (λ k. 2 ^ k) e ∙ pow-add 2 (4 * i) 4

pub one_more_digit : (i n v : ℕ) → n < 2 ^ (4 * i) → v < 16 → 16 * n + v < 2 ^ (4 * (i + 1))
one_more_digit i n v h small = omega (arith, more_bits i, h, small)

pub in_word : (i n : ℕ) → n < 2 ^ (4 * i) → i < 16 → n < 2 ^ 60
in_word i n h few =
    let fits : 4 * i ≤ 60 = omega (arith, few) in
    let most : 2 ^ (4 * i) ≤ 2 ^ 60 = pow_mono fits in
    omega (arith, most, h)

-- ---- faults of numbers

pub bad_arm : {T : Type 0} (p at : Place) (w : Option Written)
    → (BadNumber p ≡ BadNumber at) ⊎ ((BadNumber p ≡ TooWide at) ⊎ (BadNumber p ≡ OutOfMemory))
    → (◌≡◌ {A = Result T NumberFault} (Err (BadNumber p)) (Err (BadNumber at)) → w ≡ None) → w ≡ None
bad_arm p at w (inl e) bad = bad (ap Err e)
bad_arm p at w (inr (inl e)) bad = absurd (cc)
bad_arm p at w (inr (inr e)) bad = absurd (cc)

pub wide_arm : {T : Type 0} (p at : Place) (w : Option Written)
    → (TooWide p ≡ BadNumber at) ⊎ ((TooWide p ≡ TooWide at) ⊎ (TooWide p ≡ OutOfMemory))
    → (◌≡◌ {A = Result T NumberFault} (Err (TooWide p)) (Err (TooWide at)) → SaysTooWide w) → SaysTooWide w
wide_arm p at w (inl e) wide = absurd (cc)
wide_arm p at w (inr (inl e)) wide = wide (ap Err e)
wide_arm p at w (inr (inr e)) wide = absurd (cc)

pub ok_arm : {T : Type 0} (x : T) (at : Place) (w : Option Written)
    → (SaysTooWide w → ◌≡◌ {A = Result T NumberFault} (Ok x) (Err (TooWide at))) → SaysTooWide w → ⊥
ok_arm x at w wide h = let e = wide h in cc

pub fewer_digits : (n length most : ℕ) → n < 2 ^ (4 * length) → length ≤ most → n < 2 ^ (4 * most)
fewer_digits n length most small few =
    let e : 4 * length ≤ 4 * most = omega (arith, few) in
    let up : 2 ^ (4 * length) ≤ 2 ^ (4 * most) = pow_mono e in
    omega (arith, up, small)

-- ---- loops over lists

pub none_left : {T : Type 0} (p : T → Bool) (xs : List T) (i : ℕ) → length xs ≤ i
    → list_any p (drop i xs) ≡ list_any p xs → false ≡ list_any p xs
none_left p xs i past so_far = sym (ap (list_any p) (drop_of_length-le xs past)) ∙ so_far

pub none_after : {T : Type 0} (p : T → Bool) (xs : List T) (i : ℕ) (all : Bool) → length xs ≤ i
    → list_any p (drop i xs) ≡ all → false ≡ all
none_after p xs i all past so_far = sym (ap (list_any p) (drop_of_length-le xs past)) ∙ so_far

pub none_past : {T : Type 0} (p : T → Bool) (xs : List T) (i : ℕ)
    → length xs ≤ i → false ≡ list_any p (drop i xs)
none_past p xs i past = sym (ap (list_any p) (drop_of_length-le xs past))
