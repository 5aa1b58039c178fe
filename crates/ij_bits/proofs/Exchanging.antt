-- Bits that are put in place of others in a list that begins in its midst, and the number of those that were
-- there.
use Rattle.std.proofs.Common.{◌≡◌, ℕ, zero, suc, ◌+◌, ◌*◌, ◌/◌, ◌%◌, ◌^◌, ◌≤◌, Bool, List, [], ◌∷◌, ◌++◌}
use Rattle.std.proofs.Common.{append-nil, length, take, drop, refl, sym, ap, ◌∙◌, append_assoc, length-append}
use Rattle.std.proofs.Common.{length-drop, length-take, arith}
use Rattle.std.proofs.lemmas.List.{drop-append-le, take-append-le, drop-drop, take_all, drop_all}
use Rattle.std.proofs.Math.Seq.{take-append-add, drop-append-add}
use Rattle.std.proofs.Math.Nat.{div-one, div-div-eq-div-mul, pow-succ'}
use Rattle.std.specs.Prelude.{◌==◌}
use Rattle.ij_bits.specs.BitLists.{bits_of, number_of}
use Rattle.ij_bits.specs.Turned.{turned}
use Rattle.ij_bits.proofs.Hex.{number_of-drop, number_of-lt, number_of-take}
use Rattle.ij_bits.proofs.WordBits.{length-bits_of}

drop_front : {A : Type 0} (a r : List A) → drop (length a) (a ++ r) ≡ r
drop_front [] r = refl
drop_front (x ∷ a) r = drop_front a r

take_front : {A : Type 0} (a r : List A) → take (length a) (a ++ r) ≡ a
take_front [] r = refl
take_front (x ∷ a) r = ap (λ xs. x ∷ xs) (take_front a r)

take_none : {A : Type 0} (xs : List A) → take 0 xs ≡ []
take_none [] = refl
take_none (x ∷ xs) = refl

turned_front : {A : Type 0} (n : ℕ) (a r : List A) → length a ≡ n → turned n (a ++ r) ≡ r ++ a
turned_front n a r len =
    ap (λ k. turned k (a ++ r)) (sym len) ∙ ap (λ xs. xs ++ take (length a) (a ++ r)) (drop_front a r)
    ∙ ap (λ xs. r ++ xs) (take_front a r)

pub length-turned : {A : Type 0} (f n : ℕ) (xs vs : List A) → turned f xs ≡ vs
    → f ≤ length xs → n ≤ length vs → n ≤ length xs
length-turned f n xs vs is inside within =
    omega (arith, ap length is, length-append (drop f xs) (take f xs), length-drop f xs, length-take f xs)

pub exchanged_length : (at n : ℕ) (xs ys v : List Bool) → length v ≡ n
    → ys ≡ take at xs ++ (v ++ drop (at + n) xs) → at + n ≤ length xs → length ys ≡ length xs
exchanged_length at n xs ys v len is within =
    omega (
      arith,
      ap length is,
      length-append (take at xs) (v ++ drop (at + n) xs),
      length-append v (drop (at + n) xs),
      length-take at xs,
      length-drop (at + n) xs,
    )

-- the numbers and the bits of two lists in a row
pub number_of-append : (a b : List Bool) → number_of (a ++ b) ≡ number_of a + number_of b * 2 ^ length a
number_of-append a b =
    let x : ℕ = number_of (a ++ b) in
    let m : ℕ = 2 ^ length a in
    let whole : x ≡ x / m * m + x % m = omega arith in
    let front : x % m ≡ number_of a = number_of-take (length a) (a ++ b) ∙ ap number_of (take_front a b) in
    let back : x / m ≡ number_of b = number_of-drop (length a) (a ++ b) ∙ ap number_of (drop_front a b) in
    let swap : number_of b * m + number_of a ≡ number_of a + number_of b * m = omega arith in
    whole ∙ ap (λ q. q * m + x % m) back ∙ ap (λ r. number_of b * m + r) front ∙ swap

pub bits_of-append : (a b x : ℕ) → bits_of (a + b) x ≡ bits_of a x ++ bits_of b (x / 2 ^ a)
bits_of-append zero b x =
    let none : zero + b ≡ b = omega arith in
    ap (λ k. bits_of k x) none ∙ ap (bits_of b) (sym (div-one x))
bits_of-append (suc a) b x =
    let one : suc a + b ≡ suc (a + b) = omega arith in
    ap (λ k. bits_of k x) one ∙ ap (λ bs. ((x % 2) == 1) ∷ bs) (bits_of-append a b (x / 2)
    ∙ ap (λ n. bits_of a (x / 2) ++ bits_of b n)
    (div-div-eq-div-mul x 2 (2 ^ a) ∙ ap (λ m. x / m) (sym (pow-succ' 2 a))))

-- all of the new bits come before the end
pub within_items : (f n : ℕ) (xs ys v : List Bool) → f + n ≤ length xs → length v ≡ n
    → ys ≡ take f xs ++ (v ++ drop (f + n) xs) → turned (f + n) ys ≡ drop n (turned f xs) ++ v
within_items f n xs ys v inside len is =
    let rest : List Bool = drop (f + n) xs in
    let front : List Bool = take f xs ++ v in
    let length_front : length front ≡ f + n = omega (arith, length-append (take f xs) v, length-take f xs) in
    let moved : drop n (turned f xs) ≡ rest ++ take f xs =
    drop-append-le n (drop f xs) (take f xs) (omega (arith, length-drop f xs))
    ∙ ap (λ zs. zs ++ take f xs) (drop-drop n f xs) in
    ap (turned (f + n)) (is ∙ sym (append_assoc (take f xs) v rest))
    ∙ turned_front (f + n) front rest length_front
    ∙ sym (append_assoc rest (take f xs) v) ∙ ap (λ zs. zs ++ v) (sym moved)

-- some of them stand there, and the others at the beginning
module _ (f n here rest value : ℕ) (xs ys zs : List Bool) (end : f + here ≡ length xs)
    (all : here + rest ≡ n) (within : n ≤ length xs)
    (one : ys ≡ take f xs ++ (bits_of here value ++ drop (f + here) xs))
    (two : zs ≡ take 0 ys ++ (bits_of rest (value / 2 ^ here) ++ drop (0 + rest) ys)) where
  length_back : length (drop f xs) ≡ here
  length_back = omega (arith, length-drop f xs)

  length_front : length (take f xs) ≡ f
  length_front = omega (arith, length-take f xs)

  first_is : ys ≡ take f xs ++ bits_of here value
  first_is =
      one ∙ ap (λ ws. take f xs ++ (bits_of here value ++ ws)) (drop_all (f + here) xs (omega arith))
      ∙ ap (λ ws. take f xs ++ ws) (append-nil (bits_of here value))

  first_rest : drop rest ys ≡ drop rest (take f xs) ++ bits_of here value
  first_rest = ap (drop rest) first_is
      ∙ drop-append-le rest (take f xs) (bits_of here value) (omega (arith, length_front, end, all, within))

  second_is : zs ≡ bits_of rest (value / 2 ^ here) ++ drop rest ys
  second_is =
      let none : 0 + rest ≡ rest = omega arith in
      two ∙ ap (λ ws. ws ++ (bits_of rest (value / 2 ^ here) ++ drop (0 + rest) ys)) (take_none ys)
      ∙ ap (λ k. bits_of rest (value / 2 ^ here) ++ drop k ys) none

  pub across_length : rest ≤ length zs
  across_length = omega (
    arith,
    ap length second_is,
    length-append (bits_of rest (value / 2 ^ here)) (drop rest ys),
    length-bits_of rest (value / 2 ^ here),
  )

  pub across_items : turned rest zs ≡ drop n (turned f xs) ++ bits_of n value
  across_items =
      let top : List Bool = bits_of rest (value / 2 ^ here) in
      let moved : drop n (turned f xs) ≡ drop rest (take f xs) =
      ap (λ k. drop k (turned f xs)) (sym all ∙ ap (λ k. k + rest) (sym length_back))
      ∙ drop-append-add (drop f xs) (take f xs) rest in
      ap (turned rest) second_is ∙ turned_front rest top (drop rest ys)
      (length-bits_of rest (value / 2 ^ here))
      ∙ ap (λ ws. ws ++ top) first_rest ∙ append_assoc (drop rest (take f xs)) (bits_of here value) top
      ∙ ap (λ ws. drop rest (take f xs) ++ ws)
      (sym (bits_of-append here rest value) ∙ ap (λ k. bits_of k value) all)
      ∙ ap (λ ws. ws ++ bits_of n value) (sym moved)

  pub across_number : number_of (take n (turned f xs))
      ≡ number_of (take here (drop f xs)) + number_of (take rest ys) * 2 ^ here
  across_number =
      let parts : take n (turned f xs) ≡ drop f xs ++ take rest (take f xs) =
      ap (λ k. take k (turned f xs)) (sym all ∙ ap (λ k. k + rest) (sym length_back))
      ∙ take-append-add (drop f xs) (take f xs) rest in
      let low : take here (drop f xs) ≡ drop f xs = take_all here (drop f xs) (omega (arith, length_back)) in
      let high : take rest ys ≡ take rest (take f xs) =
      ap (take rest) first_is ∙ take-append-le rest (take f xs) (bits_of here value)
      (omega (arith, length_front, end, all, within)) in
      ap number_of parts ∙ number_of-append (drop f xs) (take rest (take f xs))
      ∙ ap (λ k. number_of (drop f xs) + number_of (take rest (take f xs)) * 2 ^ k) length_back
      ∙ ap (λ ws. number_of ws + number_of (take rest (take f xs)) * 2 ^ here) (sym low)
      ∙ ap (λ ws. number_of (take here (drop f xs)) + number_of ws * 2 ^ here) (sym high)

-- a number of at most 64 bits, by its two parts
pub whole_word : (low high here n : ℕ) (bits : List Bool) → number_of bits ≡ low + high * 2 ^ here
    → length bits ≤ n → n ≤ 64 → low + high * 2 ^ here % 18446744073709551616 ≡ number_of bits
whole_word low high here n bits is long few = omega (arith, is, number_of-lt bits 64 (omega arith))
