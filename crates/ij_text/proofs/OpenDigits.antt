-- Open bits after others, those of a digit among them.
use Rattle.std.proofs.Common.{◌≡◌, ◌-◌, ◌/◌, ◌%◌, ◌^◌, ◌<◌, ◌≤◌, ◌==◌, ℕ, zero, suc, Bool, true, false, cond}
use Rattle.std.proofs.Common.{List, [], ◌∷◌, ◌++◌, length, map, get_or, replicate, take, min, Option, Some}
use Rattle.std.proofs.Common.{None, refl, sym, ap, ◌∙◌, arith, inl, inr, length-append, length-take}
use Rattle.std.specs.List.{range_with_len}
use Rattle.std.proofs.Math.Nat.{pow-suc}
use Rattle.std.proofs.Math.ListN.{length-replicate}
use Rattle.std.proofs.lemmas.Bool.{cases_lt}
use Rattle.std.proofs.lemmas.Nat.{pow_pos}
use Rattle.std.proofs.lemmas.Nat.Bits.{bit_at_ones}
use Rattle.std.proofs.lemmas.List.{get_or_past, get_or-take, get_or-replicate, get_or_append_left}
use Rattle.std.proofs.lemmas.List.{get_or-append_right}
use Rattle.std.proofs.lemmas.List.FromFn.{fill_by_all}
use Rattle.ij_bits.specs.BitLists.{bits_of}
use Rattle.ij_bits.proofs.WordBits.{get_or-bits_of, length-bits_of}
use Rattle.ij_text.specs.Numbers.{open_bits}
use Rattle.ij_text.proofs.Numbers.{open_length}
use Rattle.ij_text.proofs.Widths.{open_get, open_past}

-- an open bit is 0
abbrev pub OpenIsZero : List Bool → List Bool → Type 0
OpenIsZero vs cs = (k : ℕ) → get_or cs k false ≡ false → get_or vs k false ≡ false

pub open_append : (vs cs ws ds : List Bool) → length vs ≡ length cs
    → open_bits (vs ++ ws) (cs ++ ds) ≡ open_bits vs cs ++ open_bits ws ds
open_append [] [] ws ds h = refl
open_append [] (c ∷ cs) ws ds h = absurd (omega (arith, h))
open_append (v ∷ vs) [] ws ds h = absurd (omega (arith, h))
open_append (v ∷ vs) (c ∷ cs) ws ds h =
    ap (λ (l : List (Option Bool)). cond c (Some v) None ∷ l) (open_append vs cs ws ds (omega (arith, h)))

pub zero_append : (vs cs ws ds : List Bool) → length vs ≡ length cs → OpenIsZero vs cs
    → OpenIsZero ws ds → OpenIsZero (vs ++ ws) (cs ++ ds)
zero_append [] [] ws ds h a b k e = b k e
zero_append [] (c ∷ cs) ws ds h a b k e = absurd (omega (arith, h))
zero_append (v ∷ vs) [] ws ds h a b k e = absurd (omega (arith, h))
zero_append (v ∷ vs) (c ∷ cs) ws ds h a b zero e = a zero e
zero_append (v ∷ vs) (c ∷ cs) ws ds h a b (suc k) e =
    zero_append vs cs ws ds (omega (arith, h)) (λ j. a (suc j)) b k e

-- ---- the bits of a digit

none_known : (n v w : ℕ) → open_bits (bits_of n v) (bits_of n 0) ≡ map (λ (bit : Bool). None) (bits_of n w)
none_known zero v w = refl
none_known (suc n) v w = ap (λ (l : List (Option Bool)). None ∷ l) (none_known n (v / 2) (w / 2))

ones_odd : (w : ℕ) → (2 ^ suc w - 1) % 2 ≡ 1
ones_odd w = omega (arith, pow-suc 2 w, pow_pos w)

ones_half : (w : ℕ) → (2 ^ suc w - 1) / 2 ≡ 2 ^ w - 1
ones_half w = omega (arith, pow-suc 2 w, pow_pos w)

all_known : (n w v : ℕ) → n ≤ w
    → open_bits (bits_of n v) (bits_of n (2 ^ w - 1)) ≡ map (λ bit. Some bit) (bits_of n v)
all_known zero w v h = refl
all_known (suc n) zero v h = absurd (omega (arith, h))
all_known (suc n) (suc w) v h =
    ap (λ x. open_bits (bits_of (suc n) v) ((x == 1) ∷ bits_of n ((2 ^ suc w - 1) / 2))) (ones_odd w)
    ∙ ap (λ x. Some ((v % 2) == 1) ∷ open_bits (bits_of n (v / 2)) (bits_of n x)) (ones_half w)
    ∙ ap (λ (l : List (Option Bool)). Some ((v % 2) == 1) ∷ l) (all_known n w (v / 2) (omega (arith, h)))

pub digit_is : (is_open : Bool) (n value v c : ℕ) → n ≤ 64 → v ≡ cond is_open 0 value
    → c ≡ cond is_open 0 18446744073709551615
    → open_bits (bits_of n v) (bits_of n c) ≡ map (λ bit. cond is_open None (Some bit)) (bits_of n value)
digit_is true n value v c few is_v is_c =
    ap (λ y. open_bits (bits_of n v) (bits_of n y)) is_c ∙ none_known n v value
digit_is false n value v c few is_v is_c =
    ap (λ y. open_bits (bits_of n v) (bits_of n y)) is_c
    ∙ ap (λ y. open_bits (bits_of n y) (bits_of n 18446744073709551615)) is_v ∙ all_known n 64 value few

zeros : (n k : ℕ) → get_or (bits_of n 0) k false ≡ false
zeros zero k = refl
zeros (suc n) zero = refl
zeros (suc n) (suc k) = zeros n k

not_both : {A : Type 0} → true ≡ false → A
not_both h = absurd cc

pub digit_zero : (is_open : Bool) (n value v c : ℕ) → n ≤ 64 → v ≡ cond is_open 0 value
    → c ≡ cond is_open 0 18446744073709551615 → OpenIsZero (bits_of n v) (bits_of n c)
digit_zero true n value v c few is_v is_c k e = ap (λ y. get_or (bits_of n y) k false) is_v ∙ zeros n k
digit_zero false n value v c few is_v is_c k e =
    elim (cases_lt k n) [
      | inl low ↦ not_both (ap (λ b. b == 1) (sym (bit_at_ones 64 k (omega arith))) ∙ sym (get_or-bits_of n
          18446744073709551615 k low) ∙ ap (λ y. get_or (bits_of n y) k false) (sym is_c) ∙ e)
      | inr past ↦ get_or_past (bits_of n v) k false (omega (arith, length-bits_of n v))
    ]

-- ---- all bits known

pub all_ones : (xs : List Bool) (n : ℕ) → length xs ≡ n
    → open_bits xs (replicate n true) ≡ map (λ bit. Some bit) xs
all_ones [] n h = refl
all_ones (x ∷ xs) zero h = absurd (omega (arith, h))
all_ones (x ∷ xs) (suc n) h = ap (λ (l : List (Option Bool)). Some x ∷ l) (all_ones xs n (omega (arith, h)))

-- ---- a number in another width

-- the bits of one list below n, and then others up to w
joined_low : (xs : List Bool) (b : Bool) (n w k : ℕ) → n ≤ length xs → k < n
    → get_or (take n xs ++ replicate (w - n) b) k false ≡ get_or xs k false
joined_low xs b n w k within low =
    get_or_append_left (take n xs) (replicate (w - n) b) false k (omega (arith, length-take n xs))
    ∙ get_or-take n xs k false low

joined_high : (xs : List Bool) (b : Bool) (n w k : ℕ) → n ≤ length xs → n ≤ k → k < w
    → get_or (take n xs ++ replicate (w - n) b) k false ≡ b
joined_high xs b n w k within high below =
    let own : length (take n xs) ≡ n = omega (arith, length-take n xs) in
    get_or-append_right (take n xs) (replicate (w - n) b) n k false own high
    ∙ get_or-replicate (w - n) (k - n) b false (omega arith)

joined_length : (xs : List Bool) (b : Bool) (n w : ℕ) → n ≤ length xs → n ≤ w
    → length (take n xs ++ replicate (w - n) b) ≡ w
joined_length xs b n w within fits =
    omega (
      arith,
      length-append (take n xs) (replicate (w - n) b),
      length-take n xs,
      length-replicate (w - n) b,
    )

pub in_width : (vs cs : List Bool) (n w : ℕ) → length vs ≡ length cs → n ≡ min (length vs) w
    → open_bits (take n vs ++ replicate (w - n) false) (take n cs ++ replicate (w - n) true)
    ≡ map (λ k. get_or (open_bits vs cs) k (Some false)) (range_with_len 0 w)
in_width vs cs n w same size =
    let xs : List Bool = take n vs ++ replicate (w - n) false in
    let ys : List Bool = take n cs ++ replicate (w - n) true in
    let length_xs : length xs ≡ w = joined_length vs false n w (omega arith) (omega arith) in
    let length_ys : length ys ≡ w = joined_length cs true n w (omega arith) (omega arith) in
    let both : length xs ≡ length ys = length_xs ∙ sym length_ys in
    let one : (k : ℕ) → k < w
    → get_or (open_bits xs ys) k (Some false) ≡ get_or (open_bits vs cs) k (Some false) = λ k below.
    open_get xs ys k both (omega arith)
    ∙ elim (cases_lt k n) [
      | inl low ↦
          ap (λ c. cond c (Some (get_or xs k false)) None) (joined_low cs true n w k (omega arith) low)
          ∙ ap (λ v. cond (get_or cs k false) (Some v) None) (joined_low vs false n w k (omega arith) low)
          ∙ sym (open_get vs cs k same (omega arith))
      | inr high ↦
          ap (λ c. cond c (Some (get_or xs k false)) None)
          (joined_high cs true n w k (omega arith) high below)
          ∙ ap (λ v. Some v) (joined_high vs false n w k (omega arith) high below)
          ∙ open_past vs cs k same (omega arith)
    ] in
    fill_by_all (λ k. get_or (open_bits vs cs) k (Some false)) (open_bits xs ys) w (Some false)
    (open_length xs ys both ∙ length_xs) one

pub in_width_zero : (vs cs : List Bool) (n w : ℕ) → length vs ≡ length cs
    → n ≡ min (length vs) w → OpenIsZero vs cs
    → OpenIsZero (take n vs ++ replicate (w - n) false) (take n cs ++ replicate (w - n) true)
in_width_zero vs cs n w same size zero_there k e =
    elim (cases_lt k n) [
      | inl low ↦ joined_low vs false n w k (omega arith) low
          ∙ zero_there k (sym (joined_low cs true n w k (omega arith) low) ∙ e)
      | inr high ↦
          elim (cases_lt k w) [
            | inl below ↦ joined_high vs false n w k (omega arith) high below
            | inr past ↦ get_or_past (take n vs ++ replicate (w - n) false) k false
                (omega (arith, joined_length vs false n w (omega arith) (omega arith)))
          ]
    ]

pub in_width_length : (vs cs : List Bool) (n w : ℕ) → length vs ≡ length cs → n ≡ min (length vs) w
    → length (take n vs ++ replicate (w - n) false) ≡ length (take n cs ++ replicate (w - n) true)
in_width_length vs cs n w same size = joined_length vs false n w (omega arith) (omega arith)
    ∙ sym (joined_length cs true n w (omega arith) (omega arith))
