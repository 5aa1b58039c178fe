-- The bits of a scan as lists of their values, word by word.
use Rattle.std.specs.Prelude.{◌==◌, ◌&&◌, ◌||◌, not, slice_get, slice_range, min, bit_and, bit_xor, Some}
use Rattle.std.specs.Int.{bit_at}
use Rattle.std.specs.List.{list_any}
use Rattle.std.proofs.Common.{◌≡◌, ℕ, zero, suc, ◌+◌, ◌-◌, ◌*◌, ◌%◌, ◌^◌, ◌<◌, ◌≤◌, Bool, true, false, List}
use Rattle.std.proofs.Common.{[], ◌∷◌, ◌++◌, length, take, drop, get_or, refl, ap, sym, ◌∙◌, arith}
use Rattle.std.proofs.Common.{length-take, length-drop, length-append}
use Rattle.std.proofs.lemmas.Bool.{false≢true}
use Rattle.std.proofs.lemmas.List.{drop-drop, drop-take, drop_all, take-take, take-append-drop}
use Rattle.std.proofs.lemmas.List.Folds.{list_any-append}
use Rattle.std.proofs.lemmas.Nat.{and_le_r}
use Rattle.std.proofs.lemmas.Nat.Bits.{bit_at_and, bit_at_xor, bit_at-lt}
use Rattle.ij_bits.specs.BitLists.{bits_eq, bits_of, has_one, number_of, same_bit}
use Rattle.ij_bits.proofs.Hex.{number_bit, number_is, number_of-lt, number_zero}
use Rattle.ij_bits.proofs.WordBits.{get_or-bits_of, length-bits_of}
use Rattle.tap_machine.proofs.Pieces.{bits_of_part, length-part, part_is}
use Rattle.svf_notes.specs.declared.bits.BitPart.{BitPart}
use Rattle.svf_notes.specs.declared.scan.Shifted.{Shifted}
use Rattle.svf_notes.specs.Notes.{differs, is_compared, tdi_bits}
use Rattle.svf_notes.specs.Packed.{AreAsMany, ScanItems, differing, expect_of, part_bits, together}

abbrev pub fewer : {n : ℕ} {c e f : Bool} {cs es fs : List Bool}
    → AreAsMany (suc n) (c ∷ cs) (e ∷ es) (f ∷ fs) → AreAsMany n cs es fs
fewer m = record {
  compared = omega (arith, m.compared);
  expected = omega (arith, m.expected);
  found = omega (arith, m.found);
}

pub length-together : (ts cs es fs : List Bool) → AreAsMany (length ts) cs es fs
    → length (together ts cs es fs) ≡ length ts
length-together [] cs es fs m = refl
length-together (t ∷ ts) [] es fs m = absurd (omega (arith, m.compared))
length-together (t ∷ ts) (c ∷ cs) [] fs m = absurd (omega (arith, m.expected))
length-together (t ∷ ts) (c ∷ cs) (e ∷ es) [] m = absurd (omega (arith, m.found))
length-together (t ∷ ts) (c ∷ cs) (e ∷ es) (f ∷ fs) m = ap suc (length-together ts cs es fs (fewer m))

pub together-append : (ts cs es fs us ds ns gs : List Bool) → AreAsMany (length ts) cs es fs
    → together (ts ++ us) (cs ++ ds) (es ++ ns) (fs ++ gs) ≡ together ts cs es fs ++ together us ds ns gs
together-append [] [] [] [] us ds ns gs m = refl
together-append [] (c ∷ cs) es fs us ds ns gs m = absurd (omega (arith, m.compared))
together-append [] [] (e ∷ es) fs us ds ns gs m = absurd (omega (arith, m.expected))
together-append [] [] [] (f ∷ fs) us ds ns gs m = absurd (omega (arith, m.found))
together-append (t ∷ ts) [] es fs us ds ns gs m = absurd (omega (arith, m.compared))
together-append (t ∷ ts) (c ∷ cs) [] fs us ds ns gs m = absurd (omega (arith, m.expected))
together-append (t ∷ ts) (c ∷ cs) (e ∷ es) [] us ds ns gs m = absurd (omega (arith, m.found))
together-append (t ∷ ts) (c ∷ cs) (e ∷ es) (f ∷ fs) us ds ns gs m =
    let b : Shifted = record { tdi = t; expect = expect_of c e; found = f } in
    ap (λ l. b ∷ l) (together-append ts cs es fs us ds ns gs (fewer m))

pub drop-together : (k : ℕ) (ts cs es fs : List Bool) → AreAsMany (length ts) cs es fs
    → drop k (together ts cs es fs) ≡ together (drop k ts) (drop k cs) (drop k es) (drop k fs)
drop-together zero ts cs es fs m = refl
drop-together (suc k) [] cs es fs m = refl
drop-together (suc k) (t ∷ ts) [] es fs m = absurd (omega (arith, m.compared))
drop-together (suc k) (t ∷ ts) (c ∷ cs) [] fs m = absurd (omega (arith, m.expected))
drop-together (suc k) (t ∷ ts) (c ∷ cs) (e ∷ es) [] m = absurd (omega (arith, m.found))
drop-together (suc k) (t ∷ ts) (c ∷ cs) (e ∷ es) (f ∷ fs) m = drop-together k ts cs es fs (fewer m)

pub take-together : (n : ℕ) (ts cs es fs : List Bool)
    → take n (together ts cs es fs) ≡ together (take n ts) (take n cs) (take n es) (take n fs)
take-together zero ts cs es fs = refl
take-together (suc n) [] cs es fs = refl
take-together (suc n) (t ∷ ts) [] es fs = refl
take-together (suc n) (t ∷ ts) (c ∷ cs) [] fs = refl
take-together (suc n) (t ∷ ts) (c ∷ cs) (e ∷ es) [] = refl
take-together (suc n) (t ∷ ts) (c ∷ cs) (e ∷ es) (f ∷ fs) =
    let b : Shifted = record { tdi = t; expect = expect_of c e; found = f } in
    ap (λ l. b ∷ l) (take-together n ts cs es fs)

-- one of the bits, and those after it
abbrev nth : List Bool → List Bool → List Bool → List Bool → ℕ → Shifted
nth ts cs es fs i =
    record {
      tdi = get_or ts i false;
      expect =
          expect_of (get_or cs i false) (get_or es i false);
      found = get_or fs i false;
    }

pub together_at : (ts cs es fs : List Bool) (i : ℕ) → AreAsMany (length ts) cs es fs → i < length ts
    → drop i (together ts cs es fs) ≡ nth ts cs es fs i ∷ drop (i + 1) (together ts cs es fs)
together_at [] cs es fs i m h = absurd (omega (arith, h))
together_at (t ∷ ts) [] es fs i m h = absurd (omega (arith, m.compared))
together_at (t ∷ ts) (c ∷ cs) [] fs i m h = absurd (omega (arith, m.expected))
together_at (t ∷ ts) (c ∷ cs) (e ∷ es) [] i m h = absurd (omega (arith, m.found))
together_at (t ∷ ts) (c ∷ cs) (e ∷ es) (f ∷ fs) zero m h = refl
together_at (t ∷ ts) (c ∷ cs) (e ∷ es) (f ∷ fs) (suc i) m h =
    let more : suc (i + 1) ≡ suc i + 1 = omega arith in
    together_at ts cs es fs i (fewer m) (omega (arith, h))
    ∙ ap (λ k. nth ts cs es fs i ∷ drop k (together (t ∷ ts) (c ∷ cs) (e ∷ es) (f ∷ fs))) more

-- ---- single values

pub tdi-together : (ts cs es fs : List Bool)
    → AreAsMany (length ts) cs es fs → tdi_bits (together ts cs es fs) ≡ ts
tdi-together [] cs es fs m = refl
tdi-together (t ∷ ts) [] es fs m = absurd (omega (arith, m.compared))
tdi-together (t ∷ ts) (c ∷ cs) [] fs m = absurd (omega (arith, m.expected))
tdi-together (t ∷ ts) (c ∷ cs) (e ∷ es) [] m = absurd (omega (arith, m.found))
tdi-together (t ∷ ts) (c ∷ cs) (e ∷ es) (f ∷ fs) m = ap (λ l. t ∷ l) (tdi-together ts cs es fs (fewer m))

pub compared-together : (ts cs es fs : List Bool) → AreAsMany (length ts) cs es fs
    → list_any is_compared (together ts cs es fs) ≡ has_one cs
compared-together [] [] es fs m = refl
compared-together [] (c ∷ cs) es fs m = absurd (omega (arith, m.compared))
compared-together (t ∷ ts) [] es fs m = absurd (omega (arith, m.compared))
compared-together (t ∷ ts) (c ∷ cs) [] fs m = absurd (omega (arith, m.expected))
compared-together (t ∷ ts) (c ∷ cs) (e ∷ es) [] m = absurd (omega (arith, m.found))
compared-together (t ∷ ts) (true ∷ cs) (e ∷ es) (f ∷ fs) m = refl
compared-together (t ∷ ts) (false ∷ cs) (e ∷ es) (f ∷ fs) m = compared-together ts cs es fs (fewer m)

pub differs-together : (ts cs es fs : List Bool) → AreAsMany (length ts) cs es fs
    → list_any differs (together ts cs es fs) ≡ has_one (differing cs es fs)
differs-together [] [] es fs m = refl
differs-together [] (c ∷ cs) es fs m = absurd (omega (arith, m.compared))
differs-together (t ∷ ts) [] es fs m = absurd (omega (arith, m.compared))
differs-together (t ∷ ts) (c ∷ cs) [] fs m = absurd (omega (arith, m.expected))
differs-together (t ∷ ts) (c ∷ cs) (e ∷ es) [] m = absurd (omega (arith, m.found))
differs-together (t ∷ ts) (true ∷ cs) (e ∷ es) (f ∷ fs) m =
    ap (λ b. not (same_bit e f) || b) (differs-together ts cs es fs (fewer m))
differs-together (t ∷ ts) (false ∷ cs) (e ∷ es) (f ∷ fs) m = differs-together ts cs es fs (fewer m)

-- ---- words

-- a part of a part
pub chunk : {X : Type 0} (xs : List X) (at w k n : ℕ) → k + n ≤ w
    → take n (drop (at + k) xs) ≡ take n (drop k (take w (drop at xs)))
chunk xs at w k n h =
    let more : k + (w - k) ≡ w = omega (arith, h) in
    sym (ap (λ m. take n (drop k (take m (drop at xs)))) (sym more)
    ∙ ap (take n) (drop-take k (w - k) (drop at xs))
    ∙ take-take n (w - k) (drop k (drop at xs)) (omega (arith, h)) ∙ ap (take n) (drop-drop k at xs))

split : {X : Type 0} (xs : List X) (k n : ℕ) → drop k xs ≡ take n (drop k xs) ++ drop (k + n) xs
split xs k n = sym (take-append-drop n (drop k xs)) ∙ ap (λ l. take n (drop k xs) ++ l) (drop-drop n k xs)

-- the number of this many bits is that of the same bits of a part
number_in : (xs : List Bool) (at w k n x : ℕ) → k + n ≤ w
    → x ≡ number_of (slice_range xs (at + k) (at + k + n))
    → x ≡ number_of (take n (drop k (take w (drop at xs))))
number_in xs at w k n x h is = is ∙ ap number_of (part_is xs (at + k) n ∙ chunk xs at w k n h)

pub one_step : (xs : List Bool) (at w k n x : ℕ) → k + n ≤ w
    → x ≡ number_of (slice_range xs (at + k) (at + k + n))
    → has_one (drop k (take w (drop at xs))) ≡ (not (x == 0) || has_one (drop (k + n) (take w (drop at xs))))
one_step xs at w k n x h is =
    let p = take w (drop at xs) in
    let c = take n (drop k p) in
    ap has_one (split p k n)
    ∙ list_any-append (λ b. b) c (drop (k + n) p)
    ∙ ap (λ b. b || has_one (drop (k + n) p))
    (sym (number_zero c) ∙ ap (λ m. not (m == 0)) (sym (number_in xs at w k n x h is)))

-- the bits of a number are those that it stands for
pub bits_in : (xs : List Bool) (at n x : ℕ) → at + n ≤ length xs
    → x ≡ number_of (slice_range xs at (at + n)) → bits_of n x ≡ take n (drop at xs)
bits_in xs at n x h is =
    bits_of_part n x (slice_range xs at (at + n)) (length-part xs at n h) is ∙ part_is xs at n

same_self : (b : Bool) (r : Bool) → (same_bit b b && r) ≡ r
same_self true r = refl
same_self false r = refl

eq_front : (cs xs ys : List Bool) → bits_eq (cs ++ xs) (cs ++ ys) ≡ bits_eq xs ys
eq_front [] xs ys = refl
eq_front (c ∷ cs) xs ys = same_self c (bits_eq (cs ++ xs) (cs ++ ys)) ∙ eq_front cs xs ys

-- equal bits make equal numbers
eq_number : (n : ℕ) (xs ys : List Bool) → bits_eq xs ys ≡ true → number_of (take n xs) ≡ number_of (take n ys)
eq_number zero xs ys e = refl
eq_number (suc n) [] [] e = refl
eq_number (suc n) [] (y ∷ ys) e = absurd (false≢true e)
eq_number (suc n) (x ∷ xs) [] e = absurd (false≢true e)
eq_number (suc n) (true ∷ xs) (true ∷ ys) e = ap (λ m. 1 + 2 * m) (eq_number n xs ys e)
eq_number (suc n) (false ∷ xs) (false ∷ ys) e = ap (λ m. 0 + 2 * m) (eq_number n xs ys e)
eq_number (suc n) (true ∷ xs) (false ∷ ys) e = absurd (false≢true e)
eq_number (suc n) (false ∷ xs) (true ∷ ys) e = absurd (false≢true e)

not_eq : (b : Bool) → (b ≡ true → ⊥) → b ≡ false
not_eq true h = absurd (h refl)
not_eq false h = refl

-- a word that is the same, and one that isn't
module _ (xs ys : List Bool) (at k n x y : ℕ) (h : k + n ≤ length ys) (inside : at + length ys ≤ length xs)
    (is : x ≡ number_of (slice_range xs (at + k) (at + k + n)))
    (other : y ≡ number_of (slice_range ys k (k + n))) where
  abbrev part : List Bool
  part = take (length ys) (drop at xs)

  pub same_step : x ≡ y → bits_eq (drop k part) (drop k ys) ≡ bits_eq (drop (k + n) part) (drop (k + n) ys)
  same_step e =
      let c : take n (drop k part) ≡ take n (drop k ys) =
      sym (chunk xs at (length ys) k n h) ∙ sym (bits_in xs (at + k) n x (omega (arith, h, inside)) is)
      ∙ ap (bits_of n) e ∙ bits_in ys k n y h other in
      ap (λ l. bits_eq l (drop k ys)) (split part k n ∙ ap (λ l. l ++ drop (k + n) part) c)
      ∙ ap (bits_eq (take n (drop k ys) ++ drop (k + n) part)) (split ys k n)
      ∙ eq_front (take n (drop k ys)) (drop (k + n) part) (drop (k + n) ys)

  pub other_step : (x ≡ y → ⊥) → bits_eq (drop k part) (drop k ys) ≡ false
  other_step apart =
      not_eq (bits_eq (drop k part) (drop k ys)) (λ e.
      apart (number_in xs at (length ys) k n x h is ∙ eq_number n (drop k part) (drop k ys) e
      ∙ sym (other ∙ ap number_of (part_is ys k n))))

-- ---- bits that differ where others are 1

get_or-differing : (cs es fs : List Bool) (k : ℕ) → length es ≡ length cs
    → length fs ≡ length cs → get_or (differing cs es fs) k false
    ≡ (get_or cs k false && not (same_bit (get_or es k false) (get_or fs k false)))
get_or-differing [] es fs k a b = refl
get_or-differing (c ∷ cs) [] fs k a b = absurd (omega (arith, a))
get_or-differing (c ∷ cs) (e ∷ es) [] k a b = absurd (omega (arith, b))
get_or-differing (c ∷ cs) (e ∷ es) (f ∷ fs) zero a b = refl
get_or-differing (c ∷ cs) (e ∷ es) (f ∷ fs) (suc k) a b =
    get_or-differing cs es fs k (omega (arith, a)) (omega (arith, b))

mixed : (f e c : ℕ) → f < 2 → e < 2 → c < 2
    → (min ((f + e) % 2) c == 1) ≡ ((c == 1) && not (same_bit (e == 1) (f == 1)))
mixed zero zero zero a b d = refl
mixed zero zero (suc zero) a b d = refl
mixed zero (suc zero) zero a b d = refl
mixed zero (suc zero) (suc zero) a b d = refl
mixed (suc zero) zero zero a b d = refl
mixed (suc zero) zero (suc zero) a b d = refl
mixed (suc zero) (suc zero) zero a b d = refl
mixed (suc zero) (suc zero) (suc zero) a b d = refl
mixed (suc (suc f)) e c a b d = absurd (omega (arith, a))
mixed zero (suc (suc e)) c a b d = absurd (omega (arith, b))
mixed (suc zero) (suc (suc e)) c a b d = absurd (omega (arith, b))
mixed zero zero (suc (suc c)) a b d = absurd (omega (arith, d))
mixed zero (suc zero) (suc (suc c)) a b d = absurd (omega (arith, d))
mixed (suc zero) zero (suc (suc c)) a b d = absurd (omega (arith, d))
mixed (suc zero) (suc zero) (suc (suc c)) a b d = absurd (omega (arith, d))

length-differing : (cs es fs : List Bool) → length es ≡ length cs → length fs ≡ length cs
    → length (differing cs es fs) ≡ length cs
length-differing [] es fs a b = refl
length-differing (c ∷ cs) [] fs a b = absurd (omega (arith, a))
length-differing (c ∷ cs) (e ∷ es) [] a b = absurd (omega (arith, b))
length-differing (c ∷ cs) (e ∷ es) (f ∷ fs) a b =
    ap suc (length-differing cs es fs (omega (arith, a)) (omega (arith, b)))

number_of-differing : (cs es fs : List Bool) → length es ≡ length cs → length fs ≡ length cs
    → bit_and (bit_xor (number_of fs) (number_of es)) (number_of cs) ≡ number_of (differing cs es fs)
number_of-differing cs es fs a b =
    let n = length cs in
    let z = bit_and (bit_xor (number_of fs) (number_of es)) (number_of cs) in
    let small : z < 2 ^ n = omega (
      arith,
      and_le_r (bit_xor (number_of fs) (number_of es)) (number_of cs),
      number_of-lt cs n (omega arith),
    ) in
    number_is (differing cs es fs) z n (length-differing cs es fs a b) small (λ k below.
    let f = bit_at (number_of fs) k in
    let e = bit_at (number_of es) k in
    let c = bit_at (number_of cs) k in
    let is : bit_at z k ≡ min ((f + e) % 2) c = bit_at_and (bit_xor (number_of fs) (number_of es))
    (number_of cs) k ∙ ap (λ m. min m c) (bit_at_xor (number_of fs) (number_of es) k) in
    ap (λ m. m == 1) is
    ∙ mixed f e c (bit_at-lt (number_of fs) k) (bit_at-lt (number_of es) k) (bit_at-lt (number_of cs) k)
    ∙ ap (λ t. (c == 1) && not (same_bit (e == 1) t)) (number_bit fs k)
    ∙ ap (λ t. (c == 1) && not (same_bit t (get_or fs k false))) (number_bit es k)
    ∙ ap (λ t. t && not (same_bit (get_or es k false) (get_or fs k false))) (number_bit cs k)
    ∙ sym (get_or-differing cs es fs k a b))

drop-differing : (k : ℕ) (cs es fs : List Bool) → length es ≡ length cs → length fs ≡ length cs
    → drop k (differing cs es fs) ≡ differing (drop k cs) (drop k es) (drop k fs)
drop-differing zero cs es fs a b = refl
drop-differing (suc k) [] es fs a b = refl
drop-differing (suc k) (c ∷ cs) [] fs a b = absurd (omega (arith, a))
drop-differing (suc k) (c ∷ cs) (e ∷ es) [] a b = absurd (omega (arith, b))
drop-differing (suc k) (c ∷ cs) (e ∷ es) (f ∷ fs) a b =
    drop-differing k cs es fs (omega (arith, a)) (omega (arith, b))

take-differing : (n : ℕ) (cs es fs : List Bool)
    → take n (differing cs es fs) ≡ differing (take n cs) (take n es) (take n fs)
take-differing zero cs es fs = refl
take-differing (suc n) [] es fs = refl
take-differing (suc n) (c ∷ cs) [] fs = refl
take-differing (suc n) (c ∷ cs) (e ∷ es) [] = refl
take-differing (suc n) (c ∷ cs) (e ∷ es) (f ∷ fs) =
    ap (λ l. (c && not (same_bit e f)) ∷ l) (take-differing n cs es fs)

pub length-span : {X : Type 0} (xs : List X) (at w : ℕ)
    → at + w ≤ length xs → length (take w (drop at xs)) ≡ w
length-span xs at w h = simp (length-take, length-drop) (omega (arith, h))

-- past the last of this many bits
pub differ_end : (cs es fs : List Bool) (at w k : ℕ) → at + w ≤ length cs
    → at + w ≤ length es → at + w ≤ length fs → w ≤ k
    → drop k (differing (take w (drop at cs)) (take w (drop at es)) (take w (drop at fs))) ≡ []
differ_end cs es fs at w k in_cs in_es in_fs h =
    let cut = λ (xs : List Bool). take w (drop at xs) in
    let long = length-differing (cut cs) (cut es) (cut fs) (length-span es at w in_es
    ∙ sym (length-span cs at w in_cs)) (length-span fs at w in_fs ∙ sym (length-span cs at w in_cs)) in
    drop_all k (differing (cut cs) (cut es) (cut fs)) (omega (arith, long, length-span cs at w in_cs, h))

module _ (cs es fs : List Bool) (at w k n c e f : ℕ) (h : k + n ≤ w) (in_cs : at + w ≤ length cs)
    (in_es : at + w ≤ length es) (in_fs : at + w ≤ length fs) (is_c : c ≡ number_of
    (slice_range cs (at + k) (at + k + n))) (is_e : e ≡ number_of (slice_range es (at + k) (at + k + n)))
    (is_f : f ≡ number_of (slice_range fs (at + k) (at + k + n))) where
  abbrev span : List Bool → List Bool
  span xs = take w (drop at xs)

  abbrev here : List Bool → List Bool
  here xs = take n (drop k (span xs))

  as_long : (xs : List Bool) → at + w ≤ length xs → length (here xs) ≡ n
  as_long xs i = simp (length-take, length-drop) (omega (arith, h, i))

  number_here : number_of (take n (drop k (differing (span cs) (span es) (span fs))))
      ≡ bit_and (bit_xor f e) c
  number_here =
      ap (λ l. number_of (take n l))
      (drop-differing k (span cs) (span es) (span fs) (length-span es at w in_es
      ∙ sym (length-span cs at w in_cs)) (length-span fs at w in_fs ∙ sym (length-span cs at w in_cs)))
      ∙ ap number_of (take-differing n (drop k (span cs)) (drop k (span es)) (drop k (span fs)))
      ∙ sym (number_of-differing (here cs) (here es) (here fs) (as_long es in_es ∙ sym (as_long cs in_cs))
      (as_long fs in_fs ∙ sym (as_long cs in_cs)))
      ∙ ap (λ m. bit_and (bit_xor m (number_of (here es))) (number_of (here cs)))
      (sym (number_in fs at w k n f h is_f))
      ∙ ap (λ m. bit_and (bit_xor f m) (number_of (here cs))) (sym (number_in es at w k n e h is_e))
      ∙ ap (λ m. bit_and (bit_xor f e) m) (sym (number_in cs at w k n c h is_c))

  pub differ_step : has_one (drop k (differing (span cs) (span es) (span fs))) ≡ (not
      (bit_and (bit_xor f e) c == 0) || has_one (drop (k + n) (differing (span cs) (span es) (span fs))))
  differ_step =
      let d = differing (span cs) (span es) (span fs) in
      ap has_one (split d k n)
      ∙ list_any-append (λ b. b) (take n (drop k d)) (drop (k + n) d)
      ∙ ap (λ b. b || has_one (drop (k + n) d))
      (sym (number_zero (take n (drop k d))) ∙ ap (λ m. not (m == 0)) number_here)

-- ---- parts

pub words_as_many : (n c e f : ℕ) (ts : List Bool) → length ts ≡ n
    → AreAsMany (length ts) (bits_of n c) (bits_of n e) (bits_of n f)
words_as_many n c e f ts len = record {
  compared = length-bits_of n c ∙ sym len;
  expected = length-bits_of n e ∙ sym len;
  found = length-bits_of n f ∙ sym len;
}

pub length-part_bits : (p : BitPart) → length (part_bits p) ≡ p.count
length-part_bits p =
    length-together (bits_of p.count p.tdi) (bits_of p.count p.compared) (bits_of p.count p.expected)
    (bits_of p.count p.found) (words_as_many p.count p.compared p.expected p.found
    (bits_of p.count p.tdi) (length-bits_of p.count p.tdi))
    ∙ length-bits_of p.count p.tdi

pub part_at : (p : BitPart) (i : ℕ) → i < p.count
    → drop i (part_bits p) ≡ record {
      tdi = bit_at p.tdi i == 1;
      expect = expect_of (bit_at p.compared i == 1)
          (bit_at p.expected i == 1);
      found = bit_at p.found i == 1;
    } ∷ drop (i + 1) (part_bits p)
part_at p i h =
    let n = p.count in
    let ts : List Bool = bits_of n p.tdi in
    let cs : List Bool = bits_of n p.compared in
    let es : List Bool = bits_of n p.expected in
    let fs : List Bool = bits_of n p.found in
    let rest = drop (i + 1) (part_bits p) in
    let bit : Bool → Bool → Bool → Bool
    → List Shifted = λ t c e f. record { tdi = t; expect = expect_of c e; found = f } ∷ rest in
    together_at ts cs es fs i (words_as_many n p.compared p.expected p.found ts (length-bits_of n p.tdi))
    (omega (arith, length-bits_of n p.tdi, h))
    ∙ ap (λ t. bit t (get_or cs i false) (get_or es i false) (get_or fs i false)) (get_or-bits_of n p.tdi i h)
    ∙ ap (λ c. bit (bit_at p.tdi i == 1) c (get_or es i false) (get_or fs i false))
    (get_or-bits_of n p.compared i h)
    ∙ ap (λ e. bit (bit_at p.tdi i == 1) (bit_at p.compared i == 1) e (get_or fs i false))
    (get_or-bits_of n p.expected i h)
    ∙ ap (λ f. bit (bit_at p.tdi i == 1) (bit_at p.compared i == 1) (bit_at p.expected i == 1) f)
    (get_or-bits_of n p.found i h)

-- the first bit of a part is the one at its position
pub first_is : (xs : List Shifted) (at : ℕ) (x : Shifted) (rest : List Shifted)
    → take 1 (drop at xs) ≡ x ∷ rest → slice_get xs at ≡ Some x
first_is [] zero x rest e = absurd cc
first_is [] (suc at) x rest e = absurd cc
first_is (y ∷ ys) zero x rest e = let same : y ≡ x = cc in ap Some same
first_is (y ∷ ys) (suc at) x rest e = first_is ys at x rest e

-- ---- the bits of a scan, by the lists of their values
module _ (ts cs es fs : List Bool) (v : ScanItems) (is : record { items = together ts cs es fs } ≡ v)
    (m : AreAsMany (length ts) cs es fs) where
  pub count_is : length v.items ≡ length ts
  count_is = ap (λ r. length r.items) (sym is) ∙ length-together ts cs es fs m

  pub tdi_is : ts ≡ tdi_bits v.items
  tdi_is = sym (tdi-together ts cs es fs m) ∙ ap (λ r. tdi_bits r.items) is

  pub appended : (p : BitPart) (t c e f : List Bool) → t ≡ ts ++ bits_of p.count p.tdi
      → c ≡ cs ++ bits_of p.count p.compared → e ≡ es ++ bits_of p.count p.expected
      → f ≡ fs ++ bits_of p.count p.found → together t c e f ≡ v.items ++ part_bits p
  appended p t c e f is_t is_c is_e is_f =
      let n = p.count in
      let us : List Bool = bits_of n p.tdi in
      let ds : List Bool = bits_of n p.compared in
      let ns : List Bool = bits_of n p.expected in
      let gs : List Bool = bits_of n p.found in
      ap (λ l. together l c e f) is_t
      ∙ ap (λ l. together (ts ++ us) l e f) is_c
      ∙ ap (λ l. together (ts ++ us) (cs ++ ds) l f) is_e
      ∙ ap (λ l. together (ts ++ us) (cs ++ ds) (es ++ ns) l) is_f
      ∙ together-append ts cs es fs us ds ns gs m
      ∙ ap (λ r. r.items ++ part_bits p) is

  pub as_many_more : (n x y z w : ℕ) (t c e f : List Bool) → t ≡ ts ++ bits_of n x → c ≡ cs ++ bits_of n y
      → e ≡ es ++ bits_of n z → f ≡ fs ++ bits_of n w → AreAsMany (length t) c e f
  as_many_more n x y z w t c e f is_t is_c is_e is_f =
      let long : (xs l : List Bool) (b : ℕ) → l ≡ xs ++ bits_of n b
      → length l ≡ length xs + n = λ xs l b e. ap length e ∙ length-append xs (bits_of n b)
      ∙ ap (λ k. length xs + k) (length-bits_of n b) in
      record {
        compared = omega (arith, long ts t x is_t, long cs c y is_c, m.compared);
        expected = omega (arith, long ts t x is_t, long es e z is_e, m.expected);
        found = omega (arith, long ts t x is_t, long fs f w is_f, m.found);
      }

  pub spanned : (at w : ℕ) → take w (drop at v.items)
      ≡ together (take w (drop at ts)) (take w (drop at cs)) (take w (drop at es)) (take w (drop at fs))
  spanned at w =
      ap (λ r. take w (drop at r.items)) (sym is)
      ∙ ap (take w) (drop-together at ts cs es fs m)
      ∙ take-together w (drop at ts) (drop at cs) (drop at es) (drop at fs)

  span_many : (at w : ℕ) → at + w ≤ length ts → AreAsMany (length (take w (drop at ts))) (take w (drop at cs))
      (take w (drop at es)) (take w (drop at fs))
  span_many at w h = record {
    compared = length-span cs at w (omega (arith, h, m.compared)) ∙ sym (length-span ts at w h);
    expected = length-span es at w (omega (arith, h, m.expected)) ∙ sym (length-span ts at w h);
    found = length-span fs at w (omega (arith, h, m.found)) ∙ sym (length-span ts at w h);
  }

  pub parted : (at n t c e f : ℕ) → at + n ≤ length ts → t ≡ number_of (slice_range ts at (at + n))
      → c ≡ number_of (slice_range cs at (at + n)) → e ≡ number_of (slice_range es at (at + n))
      → f ≡ number_of (slice_range fs at (at + n))
      → together (bits_of n t) (bits_of n c) (bits_of n e) (bits_of n f) ≡ take n (drop at v.items)
  parted at n t c e f h is_t is_c is_e is_f =
      ap (λ l. together l (bits_of n c) (bits_of n e) (bits_of n f)) (bits_in ts at n t h is_t)
      ∙ ap (λ l. together (take n (drop at ts)) l (bits_of n e) (bits_of n f))
      (bits_in cs at n c (omega (arith, h, m.compared)) is_c)
      ∙ ap (λ l. together (take n (drop at ts)) (take n (drop at cs)) l (bits_of n f))
      (bits_in es at n e (omega (arith, h, m.expected)) is_e)
      ∙ ap (λ l. together (take n (drop at ts)) (take n (drop at cs)) (take n (drop at es)) l)
      (bits_in fs at n f (omega (arith, h, m.found)) is_f)
      ∙ sym (spanned at n)

  pub compared_is : (at w : ℕ) → at + w ≤ length ts
      → has_one (take w (drop at cs)) ≡ list_any is_compared (take w (drop at v.items))
  compared_is at w h =
      sym (ap (list_any is_compared) (spanned at w) ∙ compared-together (take w (drop at ts))
      (take w (drop at cs)) (take w (drop at es)) (take w (drop at fs)) (span_many at w h))

  pub differs_is : (at w : ℕ) → at + w ≤ length ts
      → has_one (differing (take w (drop at cs)) (take w (drop at es)) (take w (drop at fs)))
      ≡ list_any differs (take w (drop at v.items))
  differs_is at w h =
      sym (ap (list_any differs) (spanned at w) ∙ differs-together (take w (drop at ts)) (take w (drop at cs))
      (take w (drop at es)) (take w (drop at fs)) (span_many at w h))

  pub span_tdi : (at w : ℕ) → at + w ≤ length ts → take w (drop at ts) ≡ tdi_bits (take w (drop at v.items))
  span_tdi at w h =
      sym (ap tdi_bits (spanned at w) ∙ tdi-together (take w (drop at ts)) (take w (drop at cs))
      (take w (drop at es)) (take w (drop at fs)) (span_many at w h))
