-- Numbers without open bits, from the highest bit down.
use Rattle.std.proofs.Common.{◌≡◌, ◌+◌, ◌-◌, ◌*◌, ◌^◌, ◌<◌, ◌≤◌, ℕ, zero, suc, Bool, true, false, cond}
use Rattle.std.proofs.Common.{nat_lt, ◌&&◌, List, [], ◌∷◌, length, map, get_or, drop, Option, Some, None}
use Rattle.std.proofs.Common.{is_some, Ok, Err, refl, sym, ap, ◌∙◌, arith}
use Rattle.std.specs.List.{list_all}
use Rattle.std.specs.Option.{unwrap_or}
use Rattle.std.proofs.lemmas.Bool.{lt-ltb, le-ltb}
use Rattle.ij_bits.specs.BitLists.{number_of}
use Rattle.ij_text.specs.declared.Place.{Place}
use Rattle.icl_declarations.specs.Faults.{BadNumber}
use Rattle.icl_declarations.specs.Expressions.{closed_number}

-- the number of bits, an open one counting as 0
abbrev pub total : List (Option Bool) → ℕ
total bits = number_of (map (λ b. unwrap_or b false) bits)

abbrev pub are_closed : List (Option Bool) → Bool
are_closed bits = list_all is_some bits

-- the higher bits say no more than all
pub higher : (bits : List (Option Bool)) (k : ℕ) → total (drop k bits) ≤ total bits
higher bits zero = omega arith
higher [] (suc k) = omega arith
higher (b ∷ bits) (suc k) = let rest = higher bits k in by_bit (unwrap_or b false) rest
  where
    by_bit : (c : Bool) → total (drop k bits) ≤ total bits → total (drop k bits) ≤ cond c 1 0 + 2 * total bits
    by_bit true h = omega (arith, h)
    by_bit false h = omega (arith, h)

-- one bit lower
pub one_lower : (bits : List (Option Bool)) (k : ℕ) → k < length bits → total (drop k bits)
    ≡ cond (unwrap_or (get_or bits k (Some false)) false) 1 0 + 2 * total (drop (suc k) bits)
one_lower [] k lt = absurd (omega (arith, lt))
one_lower (b ∷ bits) zero lt = refl
one_lower (b ∷ bits) (suc k) lt = one_lower bits k (omega (arith, lt))

pub one_closed : (bits : List (Option Bool)) (k : ℕ) → k < length bits
    → are_closed (drop k bits) ≡ (is_some (get_or bits k (Some false)) && are_closed (drop (suc k) bits))
one_closed [] k lt = absurd (omega (arith, lt))
one_closed (b ∷ bits) zero lt = refl
one_closed (b ∷ bits) (suc k) lt = one_closed bits k (omega (arith, lt))

-- an open bit
pub open_at : (bits : List (Option Bool)) (k : ℕ)
    → get_or bits k (Some false) ≡ None → are_closed bits ≡ false
open_at [] k e = absurd cc
open_at (b ∷ bits) zero e = rw e refl
open_at (b ∷ bits) (suc k) e = let rest = open_at bits k e in rw rest (none (is_some b))
  where
    none : (c : Bool) → (c && false) ≡ false
    none true = refl
    none false = refl

-- ---- answers

pub closed_open : (at : Place) (bits : List (Option Bool)) → are_closed bits ≡ false
    → closed_number at bits ≡ Err (BadNumber at)
unfolding closed_number
closed_open at bits e = rw e refl

pub closed_big : (at : Place) (bits : List (Option Bool)) → 2 ^ 32 ≤ total bits
    → closed_number at bits ≡ Err (BadNumber at)
unfolding closed_number
closed_big at bits le =
    let big : nat_lt (total bits) (2 ^ 32) ≡ false = le-ltb (total bits) (2 ^ 32) le in
    rw big (either (are_closed bits))
  where
    either : (c : Bool) → cond {A = Rattle.icl_declarations.specs.Faults.Answer ℕ} c (Err (BadNumber at))
        (Err (BadNumber at)) ≡ Err (BadNumber at)
    either true = refl
    either false = refl

pub closed_small : (at : Place) (bits : List (Option Bool)) (n : ℕ) → are_closed bits ≡ true → n ≡ total bits
    → n < 2 ^ 32 → closed_number at bits ≡ Ok n
unfolding closed_number
closed_small at bits n e f lt =
    let small : nat_lt (total bits) (2 ^ 32) ≡ true = rw (sym f) (lt-ltb n (2 ^ 32) lt) in
    rw (e, small) (ap (λ m. Ok m) (sym f))

-- ---- rounds

-- an open bit is met
pub met_open : (at : Place) (bits : List (Option Bool)) (k len : ℕ) (bit : Option Bool)
    → bit ≡ get_or bits (len - 1 - k) (Some false) → bit ≡ None → closed_number at bits ≡ Err (BadNumber at)
met_open at bits k len bit e f = closed_open at bits (open_at bits (len - 1 - k) (sym e ∙ f))

-- what is there is too big already
pub met_big : (at : Place) (bits : List (Option Bool)) (k len n : ℕ) → length bits ≡ len → k < len
    → n ≡ total (drop (len - k) bits) → 2147483648 ≤ n → closed_number at bits ≡ Err (BadNumber at)
met_big at bits k len n long lt e le =
    let i = len - 1 - k in
    let next : suc i ≡ len - k = omega (arith, lt) in
    let here = one_lower bits i (omega (arith, lt, long)) in
    let up : n ≡ total (drop (suc i) bits) = e ∙ ap (λ j. total (drop j bits)) (sym next) in
    let all = higher bits i in
    closed_big at bits (omega (arith, here, up, all, le))

-- ---- first and last

drop_all : (bits : List (Option Bool)) (len : ℕ) → length bits ≡ len → drop len bits ≡ []
drop_all [] zero e = refl
drop_all [] (suc len) e = refl
drop_all (b ∷ bits) zero e = absurd (omega (arith, e))
drop_all (b ∷ bits) (suc len) e = drop_all bits len (omega (arith, e))

-- nothing is read yet
pub at_start : (bits : List (Option Bool)) (len : ℕ) → length bits ≡ len → drop (len - 0) bits ≡ []
at_start bits len e = let z : len - 0 ≡ len = omega arith in rw z (drop_all bits len e)

-- all is read
pub all_read : (at : Place) (bits : List (Option Bool)) (k len n : ℕ) → len ≤ k → n < 2 ^ 32
    → are_closed (drop (len - k) bits) ≡ true → n ≡ total (drop (len - k) bits) → closed_number at bits ≡ Ok n
all_read at bits k len n le lt closed value =
    let z : len - k ≡ 0 = omega (arith, le) in
    closed_small at bits n (ap (λ j. are_closed (drop j bits)) (sym z) ∙ closed)
    (value ∙ ap (λ j. total (drop j bits)) z) lt
