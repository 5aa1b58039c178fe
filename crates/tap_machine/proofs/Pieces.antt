-- Several shift clocks of a scan at once.
use Rattle.std.proofs.Common.{◌≡◌, inl, inr, ℕ, zero, suc, ◌+◌, ◌-◌, ◌*◌, ◌/◌, ◌%◌, ◌^◌, ◌<◌, ◌≤◌, Bool, true}
use Rattle.std.proofs.Common.{false, List, [], ◌∷◌, ◌++◌, length, length-drop, length-take, take, drop}
use Rattle.std.proofs.Common.{slice_range, Option, Some, None, refl, sym, ap, ◌∙◌, arith}
use Rattle.std.specs.Prelude.{get_or, cond, map, replicate, unwrap_or, ◌==◌, if◌then◌else◌}
use Rattle.std.proofs.Math.Seq.{drop-cons, drop-nil}
use Rattle.std.proofs.Math.Pow.{pow_pos}
use Rattle.std.proofs.Math.Nat.{pow-suc}
use Rattle.std.proofs.lemmas.Bool.Decides.{eqb_tells, nat_tests}
use Rattle.std.proofs.lemmas.List.{get_or-drop, length-replicate, take_all, take-replicate, drop-replicate}
use Rattle.std.proofs.lemmas.Nat.Bits.{ones_shr}
use Rattle.ij_bits.specs.BitLists.{bits_of, number_of}
use Rattle.svf_writer.specs.Fits.{HasLength}
use Rattle.tap_machine.specs.declared.Pins.{Pins}
use Rattle.tap_machine.specs.declared.progress.Phase.TheVariants.{Exit, Shift}
use Rattle.tap_machine.specs.Play.{is_empty, masked, no_shift, shifts, expected, Played}
use Rattle.tap_machine.specs.Remaining.{phase_pins, pins_from, shifted_to}
use Rattle.tap_machine.specs.declared.Piece.{Piece}
use Rattle.tap_machine.specs.Pieces.{piece_pins, stretch}
use Rattle.ij_bits.proofs.WordBits.{get_or-bits_of, length-bits_of}
use Rattle.std.specs.Int.{bit_at}
use Rattle.tap_machine.proofs.Shifts.{drop_twice, expects_here, masked_at, pin, other_shift}
use Rattle.ij_bits.proofs.Hex.{bits_of-number_of}

-- ---- parts of lists

take_none : {X : Type 0} (n : ℕ) → ◌≡◌ {A = List X} (take n []) []
take_none zero = refl
take_none (suc n) = refl

drop_later : {X : Type 0} (i : ℕ) (xs : List X) → drop i (drop 1 xs) ≡ drop (suc i) xs
drop_later i [] = drop-nil i
drop_later i (x ∷ xs) = refl

drop_first : {X : Type 0} (n : ℕ) (xs : List X) → drop 1 (take (suc n) xs) ≡ take n (drop 1 xs)
drop_first n [] = sym (take_none n)
drop_first n (x ∷ xs) = refl

first_of_some : {X : Type 0} (n : ℕ) (xs : List X) (d : X) → get_or (take (suc n) xs) 0 d ≡ get_or xs 0 d
first_of_some n [] d = refl
first_of_some n (x ∷ xs) d = refl

pub part_is : {X : Type 0} (xs : List X) (k n : ℕ) → slice_range xs k (k + n) ≡ take n (drop k xs)
part_is xs k n = let own : k + n - k ≡ n = omega arith in ap (λ m. take m (drop k xs)) own

pub length-part : {X : Type 0} (xs : List X) (k n : ℕ)
    → k + n ≤ length xs → length (slice_range xs k (k + n)) ≡ n
length-part xs k n h = ap length (part_is xs k n) ∙ simp (length-take, length-drop) (omega (arith, h))

pub part-replicate : {X : Type 0} (len k n : ℕ) (x : X) → k + n ≤ len
    → slice_range (replicate len x) k (k + n) ≡ replicate n x
part-replicate len k n x h =
    let few : n ≤ len - k = omega (arith, h) in
    part_is (replicate len x) k n ∙ ap (take n) (drop-replicate k len x) ∙ take-replicate n (len - k) x few

-- ---- clocks

-- shift clocks that others follow
abbrev pub middle : ℕ → ℕ → List Bool → List (Option Bool) → List Pins
middle scan k [] es = []
middle scan k (t ∷ ts) es =
    record { tms = false; tdi = t; expect = get_or es 0 None; scan = scan; bit = k }
    ∷ middle scan (suc k) ts (drop 1 es)

one_more : (scan : ℕ) (p : Played) (n k : ℕ) (within : k < length p.tdi) (rest : List Pins)
    → middle scan k (take (suc n) (drop k p.tdi)) (take (suc n) (drop k p.expects)) ++ rest
    ≡ pin scan p k within false
    ∷ (middle scan (suc k) (take n (drop (suc k) p.tdi)) (take n (drop (suc k) p.expects)) ++ rest)
one_more scan p n k within rest =
    ap (λ ts. middle scan k (take (suc n) ts) (take (suc n) (drop k p.expects)) ++ rest)
    (drop-cons p.tdi k false within)
    ∙ ap (λ e. record { tms = false; tdi = get_or p.tdi k false; expect = e; scan = scan; bit = k } ∷ (middle
    scan (suc k) (take n (drop (suc k) p.tdi)) (drop 1 (take (suc n) (drop k p.expects))) ++ rest))
    (first_of_some n (drop k p.expects) None ∙ expects_here scan p k within)
    ∙ ap (λ es. pin scan p k within false ∷ (middle scan (suc k) (take n (drop (suc k) p.tdi)) es ++ rest))
    (drop_first n (drop k p.expects) ∙ ap (take n) (drop_twice k p.expects))

-- the first of the shift clocks, and the others
pub many_shifts : (scan : ℕ) (p : Played) (n k : ℕ) → k + n < length p.tdi → pins_from scan p k
    ≡ middle scan k (take n (drop k p.tdi)) (take n (drop k p.expects)) ++ pins_from scan p (k + n)
many_shifts scan p zero k h = let same : k ≡ k + 0 = omega arith in ap (pins_from scan p) same
many_shifts scan p (suc n) k h =
    let within : k < length p.tdi = omega (arith, h) in
    let at : suc k + n ≡ k + suc n = omega arith in
    other_shift scan p k within (omega (arith, h))
    ∙ ap (λ ps. pin scan p k within false ∷ ps) (many_shifts scan p n (suc k) (omega (arith, h)))
    ∙ ap (λ i. pin scan p k within false ∷ (middle scan (suc k) (take n (drop (suc k) p.tdi))
    (take n (drop (suc k) p.expects)) ++ pins_from scan p i)) at
    ∙ sym (one_more scan p n k within (pins_from scan p (k + suc n)))

-- as many of them as some bits say
pub some_shifts : (scan : ℕ) (p : Played) (n k : ℕ) (ts : List Bool) (es : List (Option Bool))
    → k + n < length p.tdi → ts ≡ slice_range p.tdi k (k + n) → es ≡ slice_range p.expects k (k + n)
    → pins_from scan p k ≡ middle scan k ts es ++ pins_from scan p (k + n)
some_shifts scan p n k ts es h t e =
    many_shifts scan p n k h
    ∙ ap (λ xs. middle scan k xs (take n (drop k p.expects)) ++ pins_from scan p (k + n))
    (sym (t ∙ part_is p.tdi k n))
    ∙ ap (λ xs. middle scan k ts xs ++ pins_from scan p (k + n)) (sym (e ∙ part_is p.expects k n))

-- ---- pieces

cond_false : (b : Bool) → cond b false false ≡ false
cond_false true = refl
cond_false false = refl

cond_true : (b : Bool) → cond b true false ≡ b
cond_true true = refl
cond_true false = refl

middle_is : (scan k : ℕ) (ts : List Bool) (es : List (Option Bool))
    → middle scan k ts es ≡ stretch scan k false ts es
middle_is scan k [] es = refl
middle_is scan k (t ∷ ts) es =
    ap (λ b. record { tms = b; tdi = t; expect = get_or es 0 None; scan = scan; bit = k }
    ∷ middle scan (suc k) ts (drop 1 es)) (sym (cond_false (is_empty ts)))
    ∙ ap (λ ps. record {
      tms = cond (is_empty ts) false false;
      tdi = t;
      expect = get_or es 0 None;
      scan = scan;
      bit = k;
    } ∷ ps) (middle_is scan (suc k) ts (drop 1 es))

-- the last shift clocks of a scan
shifts_are : (scan k n : ℕ) (ts : List Bool) (es : List (Option Bool)) → length ts ≤ n
    → shifts scan k ts es ≡ stretch scan k true ts (take n es)
shifts_are scan k n [] es few = refl
shifts_are scan k zero (t ∷ ts) es few = absurd (omega (arith, few))
shifts_are scan k (suc n) (t ∷ ts) es few =
    ap (λ b. record { tms = b; tdi = t; expect = get_or es 0 None; scan = scan; bit = k }
    ∷ shifts scan (suc k) ts (drop 1 es)) (sym (cond_true (is_empty ts)))
    ∙ ap (λ e. record { tms = cond (is_empty ts) true false; tdi = t; expect = e; scan = scan; bit = k }
    ∷ shifts scan (suc k) ts (drop 1 es)) (sym (first_of_some n es None))
    ∙ ap (λ ps. record {
      tms = cond (is_empty ts) true false;
      tdi = t;
      expect = get_or (take (suc n) es) 0 None;
      scan = scan;
      bit = k;
    } ∷ ps) (shifts_are scan (suc k) n ts
    (drop 1 es) (omega (arith, few)) ∙ ap (stretch scan (suc k) true ts) (sym (drop_first n es)))

-- as many shift clocks as some bits say, up to the last one or before it
pub piece_is : (scan len : ℕ) (p : Played) (n k : ℕ) (tms : Bool) (ts : List Bool) (es : List (Option Bool))
    → length p.tdi ≡ len → k + n ≤ len → tms ≡ (k + n == len)
    → ts ≡ slice_range p.tdi k (k + n) → es ≡ slice_range p.expects k (k + n)
    → pins_from scan p k ≡ stretch scan k tms ts es ++ phase_pins scan p (shifted_to len (k + n))
piece_is scan len p n k tms ts es long within last t e =
    elim (eqb_tells (k + n) len) [
      | inl all ↦
          let ends : (k + n == len) ≡ true = grind (arith, nat_tests, all.1) in
          let t_is : ts ≡ drop k p.tdi = t ∙ part_is p.tdi k n
          ∙ take_all n (drop k p.tdi) (omega (arith, all.1, length-drop k p.tdi)) in
          ap (λ ps. ps ++ map no_shift (true ∷ false ∷ [])) (shifts_are scan k n (drop k p.tdi)
          (drop k p.expects) (omega (arith, all.1, length-drop k p.tdi)))
          ∙ ap (λ xs. stretch scan k true xs (take n (drop k p.expects))
          ++ map no_shift (true ∷ false ∷ [])) (sym t_is)
          ∙ ap (λ xs. stretch scan k true ts xs ++ map no_shift (true ∷ false ∷ []))
          (sym (e ∙ part_is p.expects k n))
          ∙ ap (λ b. stretch scan k b ts es ++ map no_shift (true ∷ false ∷ [])) (sym (last ∙ ends))
          ∙ ap (λ b. stretch scan k tms ts es ++ phase_pins scan p (cond b Exit (Shift (k + n)))) (sym ends)
      | inr more ↦
          let goes : (k + n == len) ≡ false = grind (arith, nat_tests, more.1) in
          some_shifts scan p n k ts es (omega (arith, more.1)) t e
          ∙ ap (λ ps. ps ++ pins_from scan p (k + n)) (middle_is scan k ts es)
          ∙ ap (λ b. stretch scan k b ts es ++ pins_from scan p (k + n)) (sym (last ∙ goes))
          ∙ ap (λ b. stretch scan k tms ts es ++ phase_pins scan p (cond b Exit (Shift (k + n)))) (sym goes)
    ]

-- the clocks of a piece from one on
stretch-drop : (scan k i : ℕ) (tms : Bool) (ts : List Bool) (es : List (Option Bool))
    → drop i (stretch scan k tms ts es) ≡ stretch scan (k + i) tms (drop i ts) (drop i es)
stretch-drop scan k zero tms ts es =
    let same : k ≡ k + 0 = omega arith in ap (λ j. stretch scan j tms ts es) same
stretch-drop scan k (suc i) tms [] es = refl
stretch-drop scan k (suc i) tms (t ∷ ts) es =
    let at : suc k + i ≡ k + suc i = omega arith in
    stretch-drop scan (suc k) i tms ts (drop 1 es)
    ∙ ap (λ j. stretch scan j tms (drop i ts) (drop i (drop 1 es))) at
    ∙ ap (stretch scan (k + suc i) tms (drop i ts)) (drop_later i es)

is_empty-length : (xs : List Bool) (i n : ℕ) → length xs ≡ n - suc i → i < n → is_empty xs ≡ (i + 1 == n)
is_empty-length [] i n long within =
    let all : i + 1 ≡ n = omega (arith, long, within) in grind (arith, nat_tests, all)
is_empty-length (x ∷ xs) i n long within =
    let more : i + 1 < n = omega (arith, long, within) in grind (arith, nat_tests, more)

pub piece_at : (p : Piece) (i : ℕ) → i < p.count
    → drop i (piece_pins p) ≡ record {
      tms = cond (i + 1 == p.count) p.tms false;
      tdi = bit_at p.tdi i == 1;
      expect = cond (bit_at p.compared i == 1) (Some (bit_at p.expected i == 1)) None;
      scan = p.scan;
      bit = p.bit + i;
    } ∷ drop (i + 1) (piece_pins p)
piece_at p i within =
    let n : ℕ = p.count in
    let ts : List Bool = bits_of n p.tdi in
    let want : List Bool = bits_of n p.expected in
    let marks : List Bool = bits_of n p.compared in
    let es : List (Option Bool) = masked want marks in
    let there : i < length ts = omega (arith, length-bits_of n p.tdi, within) in
    let wanted : i < length want = omega (arith, length-bits_of n p.expected, within) in
    let left : length (drop (suc i) ts)
    ≡ n - suc i = omega (arith, length-drop (suc i) ts, length-bits_of n p.tdi) in
    let one : suc i ≡ i + 1 = omega arith in
    let at : p.bit + suc i ≡ suc (p.bit + i) = omega arith in
    let zero_on : i + 0 ≡ i = omega arith in
    let rest : stretch p.scan (suc (p.bit + i)) p.tms (drop (suc i) ts) (drop 1 (drop i es))
    ≡ drop (i + 1) (piece_pins p) =
    ap (stretch p.scan (suc (p.bit + i)) p.tms (drop (suc i) ts)) (drop_twice i es)
    ∙ ap (λ j. stretch p.scan j p.tms (drop (suc i) ts) (drop (suc i) es)) (sym at)
    ∙ sym (stretch-drop p.scan p.bit (suc i) p.tms ts es) ∙ ap (λ j. drop j (piece_pins p)) one in
    let expect : get_or (drop i es) 0 None
    ≡ cond (bit_at p.compared i == 1) (Some (bit_at p.expected i == 1)) None =
    get_or-drop i es 0 None ∙ ap (λ j. get_or es j None) zero_on ∙ masked_at want marks i wanted
    ∙ ap (λ b. cond b (Some (get_or want i false)) None) (get_or-bits_of n p.compared i within)
    ∙ ap (λ b. cond (bit_at p.compared i == 1) (Some b) None) (get_or-bits_of n p.expected i within) in
    stretch-drop p.scan p.bit i p.tms ts es
    ∙ ap (λ xs. stretch p.scan (p.bit + i) p.tms xs (drop i es)) (drop-cons ts i false there)
    ∙ ap (λ b. record {
      tms = cond b p.tms false;
      tdi = get_or ts i false;
      expect = get_or (drop i es) 0 None;
      scan = p.scan;
      bit = p.bit + i;
    } ∷ stretch p.scan (suc (p.bit + i)) p.tms (drop (suc i) ts)
    (drop 1 (drop i es))) (is_empty-length (drop (suc i) ts) i n left within)
    ∙ ap (λ b. record {
      tms = cond (i + 1 == n) p.tms false;
      tdi = b;
      expect = get_or (drop i es) 0 None;
      scan = p.scan;
      bit = p.bit + i;
    } ∷ stretch p.scan (suc (p.bit + i)) p.tms (drop (suc i) ts)
    (drop 1 (drop i es))) (get_or-bits_of n p.tdi i within)
    ∙ ap (λ e. record {
      tms = cond (i + 1 == n) p.tms false;
      tdi = bit_at p.tdi i == 1;
      expect = e;
      scan = p.scan;
      bit = p.bit + i;
    }
    ∷ stretch p.scan (suc (p.bit + i)) p.tms (drop (suc i) ts) (drop 1 (drop i es))) expect
    ∙ ap (λ ps. record {
      tms = cond (i + 1 == n) p.tms false;
      tdi = bit_at p.tdi i == 1;
      expect = cond (bit_at
          p.compared i == 1) (Some (bit_at p.expected i == 1)) None;
      scan = p.scan;
      bit = p.bit + i;
    } ∷ ps) rest

-- as many clocks as it says
length-stretch : (scan k : ℕ) (tms : Bool) (ts : List Bool) (es : List (Option Bool))
    → length (stretch scan k tms ts es) ≡ length ts
length-stretch scan k tms [] es = refl
length-stretch scan k tms (t ∷ ts) es = ap suc (length-stretch scan (suc k) tms ts (drop 1 es))

pub length-piece_pins : (p : Piece) → length (piece_pins p) ≡ p.count
length-piece_pins p = length-stretch p.scan p.bit p.tms (bits_of p.count p.tdi) _
    ∙ length-bits_of p.count p.tdi

-- ---- what is expected

drop-masked : (k : ℕ) (t m : List Bool) → drop k (masked t m) ≡ masked (drop k t) (drop k m)
drop-masked zero t m = refl
drop-masked (suc k) [] m = refl
drop-masked (suc k) (x ∷ t) [] = drop-masked k t [] ∙ ap (masked (drop k t)) (drop-nil k)
drop-masked (suc k) (x ∷ t) (b ∷ m) = drop-masked k t m

take-masked : (n : ℕ) (t m : List Bool) → take n (masked t m) ≡ masked (take n t) (take n m)
take-masked zero t m = refl
take-masked (suc n) [] m = refl
take-masked (suc n) (x ∷ t) [] =
    ap (λ es. None ∷ es) (take-masked n t [] ∙ ap (masked (take n t)) (take_none n))
take-masked (suc n) (x ∷ t) (b ∷ m) = ap (λ es. cond b (Some x) None ∷ es) (take-masked n t m)

part-masked : (t m : List Bool) (k n : ℕ)
    → masked (slice_range t k (k + n)) (slice_range m k (k + n)) ≡ slice_range (masked t m) k (k + n)
part-masked t m k n =
    ap (λ xs. masked xs (slice_range m k (k + n))) (part_is t k n)
    ∙ ap (masked (take n (drop k t))) (part_is m k n)
    ∙ sym (part_is (masked t m) k n ∙ ap (take n) (drop-masked k t m) ∙ take-masked n (drop k t) (drop k m))

masked_nowhere : (ts : List Bool) (n : ℕ) → length ts ≡ n → masked ts (replicate n false) ≡ replicate n None
masked_nowhere [] zero e = refl
masked_nowhere [] (suc n) e = absurd (omega (arith, e))
masked_nowhere (t ∷ ts) zero e = absurd (omega (arith, e))
masked_nowhere (t ∷ ts) (suc n) e = ap (λ es. None ∷ es) (masked_nowhere ts n (omega (arith, e)))

-- with TDO: where MASK is 1
pub part_expected : (len k n : ℕ) (tdo : Option (List Bool)) (t other mask bits : List Bool) → tdo ≡ Some t
    → bits ≡ slice_range mask k (k + n) → masked (slice_range (unwrap_or tdo other) k (k + n)) bits
    ≡ slice_range (expected len tdo mask) k (k + n)
part_expected len k n tdo t other mask bits given is =
    ap (λ o. masked (slice_range (unwrap_or o other) k (k + n)) bits) given
    ∙ ap (masked (slice_range t k (k + n))) is
    ∙ part-masked t mask k n
    ∙ sym (ap (λ o. slice_range (expected len o mask) k (k + n)) given)

-- without TDO: nowhere
pub nothing_expected : (len k n : ℕ) (tdo : Option (List Bool)) (mask bits : List Bool) → tdo ≡ None
    → k + n ≤ len → bits ≡ replicate n false
    → masked (slice_range (unwrap_or tdo (replicate len false)) k (k + n)) bits
    ≡ slice_range (expected len tdo mask) k (k + n)
nothing_expected len k n tdo mask bits none within is =
    ap (λ o. masked (slice_range (unwrap_or o (replicate len false)) k (k + n)) bits) none
    ∙ ap (masked (slice_range (replicate len false) k (k + n))) is
    ∙ masked_nowhere (slice_range (replicate len false) k (k + n)) n
    (ap length (part-replicate len k n false within) ∙ length-replicate n false)
    ∙ sym (part-replicate len k n None within)
    ∙ sym (ap (λ o. slice_range (expected len o mask) k (k + n)) none)

-- ---- bits of numbers

pub bits_of_part : (n x : ℕ) (bits : List Bool) → length bits ≡ n → x ≡ number_of bits → bits_of n x ≡ bits
bits_of_part n x bits long is =
    ap (λ m. bits_of m x) (sym long) ∙ ap (bits_of (length bits)) is ∙ bits_of-number_of bits

ones_from : (n : ℕ) → bits_of n (2 ^ n - 1) ≡ replicate n true
ones_from zero = refl
ones_from (suc n) =
    let some : 0 < 2 ^ n = pow_pos n in
    let odd : (2 ^ suc n - 1) % 2 ≡ 1 = omega (arith, some, pow-suc 2 n) in
    let half : (2 ^ suc n - 1) / 2 ≡ 2 ^ n - 1 = omega (arith, some, pow-suc 2 n) in
    ap (λ k. (k == 1) ∷ bits_of n ((2 ^ suc n - 1) / 2)) odd
    ∙ ap (λ k. true ∷ bits_of n k) half ∙ ap (λ bs. true ∷ bs) (ones_from n)

pub ones_number : (n : ℕ) → n ≤ 64 → 18446744073709551615 / 2 ^ (64 - n) ≡ 2 ^ n - 1
ones_number n few = let own : 64 - (64 - n) ≡ n = omega (arith, few) in
    ones_shr 64 (64 - n) (omega arith) ∙ ap (λ k. 2 ^ k - 1) own

pub ones : (n x : ℕ) → n ≤ 64 → x ≡ 18446744073709551615 / 2 ^ (64 - n) → bits_of n x ≡ replicate n true
ones n x few is = ap (bits_of n) (is ∙ ones_number n few) ∙ ones_from n

-- ---- parts of scans

pub held_bits : (n : ℕ) (o : Option (List Bool)) (other : List Bool) → 0 < n
    → length (unwrap_or o []) ≡ n → unwrap_or o other ≡ unwrap_or o []
held_bits n None other some e = absurd (omega (arith, some, e))
held_bits n (Some bits) other some e = refl
