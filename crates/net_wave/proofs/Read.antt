-- What a reader finds in the text of moments.
use Rattle.std.proofs.Common.{◌≡◌, ℕ, zero, suc, ◌+◌, ◌*◌, ◌^◌, ◌<◌, ◌≤◌, Bool, true, false, not, cond}
use Rattle.std.proofs.Common.{Option, Some, None, List, [], ◌∷◌, ◌++◌, length, map, take, get_or, refl, ap}
use Rattle.std.proofs.Common.{sym, ◌∙◌, arith, add-one}
use Rattle.std.specs.Prelude.{◌==◌, ◌||◌, nat_lt}
use Rattle.std.specs.Str.{bytes_eq}
use Rattle.std.proofs.lemmas.Bool.Decides.{nat_tests}
use Rattle.std.proofs.lemmas.List.{length-map}
use Rattle.std.proofs.lemmas.Slice.Eq.{bytes_eq-Decides}
use Rattle.instruments.specs.declared.Counts.{Counts}
use Rattle.instruments.specs.Seen.{SeenModel}
use Rattle.net_bench.specs.Bench.{Chip, State, clock}
use Rattle.net_bench.specs.Playing.{after_pins}
use Rattle.net_graph.specs.Path.{row_of}
use Rattle.report.specs.Registers.{digit}
use Rattle.tap_machine.specs.declared.Pins.{Pins}
use Rattle.tap_machine.specs.Play.{no_shift}
use Rattle.net_wave.specs.declared.var.Var.{Var}
use Rattle.net_wave.specs.declared.var.Var.TheVariants.{Tms, Tdi, Tdo, Expect, Differs, Tap, Instruction}
use Rattle.net_wave.specs.declared.var.Var.TheVariants.{Scan, Bit, Update, Shift, OnPath, Row, Input, Output}
use Rattle.net_wave.specs.declared.var.Var.TheVariants.{Word}
use Rattle.net_wave.specs.Codes.{code}
use Rattle.net_wave.specs.Laws.{HalvesAreRead, TckIsRead, last_told}
use Rattle.net_wave.specs.Moments.{Change, Moment, change_at, changes, counted, falling, moment_text}
use Rattle.net_wave.specs.Moments.{moments_from, moments_text, next_clock, rising, trimmed, untold}
use Rattle.net_wave.specs.Reader.{Event, events, padded, read_value, told_at}
use Rattle.net_wave.specs.Values.{digits, expect_digit, is_odd_at, row_digits, row_width, tap_code, unknown}
use Rattle.net_wave.specs.Values.{value, values}
use Rattle.net_wave.specs.Vars.{up_to}
use Rattle.net_wave.proofs.Apart.{codes_differ}
use Rattle.net_wave.proofs.Reading.{AllDigits, AreDigits, IsDigit, front, moment_read, padded_again, told}
use Rattle.net_wave.proofs.Replay.{tck_alone, tck_is_other, told_all}

-- ---- digits of values

is_digit : (b : Bool) → IsDigit (digit b)
is_digit true = (refl, refl, refl, refl, refl)
is_digit false = (refl, refl, refl, refl, refl)

digits_both : (xs ys : List ℕ) → AreDigits xs → AreDigits ys → AreDigits (xs ++ ys)
digits_both [] ys h g = g
digits_both (x ∷ xs) ys h g = (h.0, digits_both xs ys h.1 g)

digits_are : (at : ℕ → Bool) (n : ℕ) → AreDigits (digits at n)
digits_are at zero = tt
digits_are at (suc n) = (is_digit (at n), digits_are at n)

unknown_are : (n : ℕ) → AreDigits (unknown n)
unknown_are zero = tt
unknown_are (suc n) = digits_both (unknown n) (120 ∷ []) (unknown_are n) ((refl, refl, refl, refl, refl), tt)

expect_is : (e : Option Bool) → IsDigit (expect_digit e)
expect_is None = (refl, refl, refl, refl, refl)
expect_is (Some b) = is_digit b

row_are : (width : ℕ) (q : Option ℕ) → AreDigits (row_digits width q)
row_are width None = unknown_are width
row_are width (Some q) = digits_are _ width

module _ (chip : Chip Counts) (models : List SeenModel) where
  value_digits : (v : Var) (p : Pins) (s : State Counts) → AreDigits (value chip models v p s)
  value_digits Tms p s = (is_digit _, tt)
  value_digits Tdi p s = (is_digit _, tt)
  value_digits Tdo p s = (is_digit _, tt)
  value_digits Expect p s = (expect_is p.expect, tt)
  value_digits Differs p s = (is_digit _, tt)
  value_digits Tap p s = digits_are (is_odd_at (tap_code s.tap)) 4
  value_digits Instruction p s = digits_are _ (length s.ir_hold)
  value_digits Scan p s = digits_are (is_odd_at p.scan) 32
  value_digits Bit p s = digits_are (is_odd_at p.bit) 16
  value_digits (Update r) p s = digits_are _ _
  value_digits (Shift r) p s = digits_are _ _
  value_digits (OnPath r) p s = (is_digit _, tt)
  value_digits (Row m) p s = row_are (row_width chip.net m) (row_of chip.net s.holds m)
  value_digits (Input i n) p s = digits_are _ _
  value_digits (Output i n) p s = digits_are _ _
  value_digits (Word i w) p s = digits_are _ _

  values_digits : (vars : List Var) (p : Pins) (s : State Counts) (i : ℕ)
      → AreDigits (get_or (values chip models vars p s) i [])
  values_digits [] p s i = tt
  values_digits (v ∷ vs) p s zero = value_digits v p s
  values_digits (v ∷ vs) p s (suc i) = values_digits vs p s i

all_both : (xs ys : List Change) → AllDigits xs → AllDigits ys → AllDigits (xs ++ ys)
all_both [] ys h g = g
all_both (x ∷ xs) ys h g = (h.0, all_both xs ys h.1 g)

if_digits : (b : Bool) (c : Change) → AreDigits c.digits → AllDigits (cond b (c ∷ []) [])
if_digits true c h = (h, tt)
if_digits false c h = tt

changes_digits : (first : Bool) (before now : List (List ℕ)) → ((i : ℕ) → AreDigits (get_or now i []))
    → (n : ℕ) → AllDigits (up_to (change_at first before now) n)
changes_digits first before now h zero = tt
changes_digits first before now h (suc n) =
    all_both (up_to (change_at first before now) n)
    (change_at first before now n) (changes_digits first before now h n)
    (if_digits (first || not (bytes_eq (get_or before n []) (get_or now n [])))
    (record { number = suc n; digits = get_or now n [] }) (h n))

-- ---- codes and numbers

abbrev AllSmall : List Change → Type 0
AllSmall [] = Unit {0}
AllSmall (c ∷ cs) = (c.number < 2 ^ 32) × AllSmall cs

small_both : (xs ys : List Change) → AllSmall xs → AllSmall ys → AllSmall (xs ++ ys)
small_both [] ys h g = g
small_both (x ∷ xs) ys h g = (h.0, small_both xs ys h.1 g)

if_small : (b : Bool) (c : Change) → c.number < 2 ^ 32 → AllSmall (cond b (c ∷ []) [])
if_small true c h = (h, tt)
if_small false c h = tt

changes_small : (first : Bool) (before now : List (List ℕ)) (n : ℕ) → n < 2 ^ 32
    → AllSmall (up_to (change_at first before now) n)
changes_small first before now zero h = tt
changes_small first before now (suc n) h =
    small_both (up_to (change_at first before now) n) (change_at first before now n)
    (changes_small first before now n (omega (arith, h)))
    (if_small (first || not (bytes_eq (get_or before n []) (get_or now n [])))
    (record { number = suc n; digits = get_or now n [] }) h)

pub same_code : (a b : ℕ) → a < 2 ^ 32 → b < 2 ^ 32 → bytes_eq (code a) (code b) ≡ (a == b)
same_code a b h g = cases (a == b) refl (bytes_eq (code a) (code b)) refl
  where
    cases : (x : Bool) → (a == b) ≡ x → (y : Bool) → bytes_eq (code a) (code b) ≡ y → y ≡ x
    cases true e true f = refl
    cases false e false f = refl
    cases true e false f =
        let same : a ≡ b = grind (arith, nat_tests) in
        let found : bytes_eq (code a) (code b) ≡ true =
        (bytes_eq-Decides (code a) (code b)).1 (ap code same) in
        absurd (let wrong : true ≡ false = sym found ∙ f in cc)
    cases false e true f =
        let same : a ≡ b = codes_differ a b h g ((bytes_eq-Decides (code a) (code b)).0 f) in
        absurd (grind (arith, nat_tests))

-- ---- moments, read

module _ (time n : ℕ) (n_small : n < 2 ^ 32) where
  abbrev found : List ℕ → List Event → List ℕ
  found last es = told_at time (code n) last es

  lifted : (b : Bool) (x y : List ℕ) → cond b (trimmed x) (trimmed y) ≡ trimmed (cond b x y)
  lifted true x y = refl
  lifted false x y = refl

  changes_found : (cs : List Change) (last : List ℕ) (es : List Event) → AllSmall cs
      → found (trimmed last) (map told cs ++ es) ≡ found (trimmed (last_told n last cs)) es
  changes_found [] last es h = refl
  changes_found (c ∷ cs) last es h =
      ap (λ (b : Bool). found (cond b (trimmed c.digits) (trimmed last)) (map told cs ++ es))
      (same_code c.number n h.0 n_small)
      ∙ ap (λ (l : List ℕ). found l (map told cs ++ es)) (lifted (c.number == n) c.digits last)
      ∙ changes_found cs (cond (c.number == n) c.digits last) es h.1

  front_found : (first : Bool) (last : List ℕ) (es : List Event)
      → found last (front first ++ es) ≡ found last es
  front_found true last es = refl
  front_found false last es = refl

  -- a moment that isn't after the time
  moment_found : (m : Moment) (last : List ℕ) (xs : List ℕ) → AllDigits m.changes → AllSmall m.changes
      → m.time ≤ time → found (trimmed last) (events (moment_text m ++ xs))
      ≡ found (trimmed (last_told n last m.changes)) (events xs)
  moment_found m last xs digits small h =
      let early : nat_lt time (counted m.time) ≡ false = grind (arith, nat_tests) in
      ap (found (trimmed last)) (moment_read m xs digits)
      ∙ ap (λ (b : Bool). cond b (trimmed last) (found (trimmed last)
      (front m.first ++ (map told m.changes ++ (front m.first ++ events xs))))) early
      ∙ front_found m.first (trimmed last) (map told m.changes ++ (front m.first ++ events xs))
      ∙ changes_found m.changes last (front m.first ++ events xs) small
      ∙ front_found m.first (trimmed (last_told n last m.changes)) (events xs)

  -- one after it
  late_found : (m : Moment) (last : List ℕ) (xs : List ℕ) → AllDigits m.changes → time < m.time
      → m.time < 2 ^ 64 → found (trimmed last) (events (moment_text m ++ xs)) ≡ trimmed last
  late_found m last xs digits h small =
      let late : nat_lt time (counted m.time) ≡ true = grind (arith, nat_tests) in
      ap (found (trimmed last)) (moment_read m xs digits)
      ∙ ap (λ (b : Bool). cond b (trimmed last)
      (found (trimmed last) (front m.first ++ (map told m.changes ++ (front m.first ++ events xs))))) late

module _ (chip : Chip Counts) (models : List SeenModel) (vars : List Var) (few : length vars < 2 ^ 32) where
  falling_digits : (first : Bool) (k : ℕ) (before : List (List ℕ)) (p : Pins) (s : State Counts)
      → AllDigits (falling first k before (values chip models vars p s)).changes
  falling_digits first k before p s =
      let now = values chip models vars p s in (
        ((refl, refl, refl, refl, refl), tt),
        changes_digits first before now (values_digits chip models vars p s) (length now),
      )

  falling_small : (first : Bool) (k : ℕ) (before : List (List ℕ)) (p : Pins) (s : State Counts)
      → AllSmall (falling first k before (values chip models vars p s)).changes
  falling_small first k before p s =
      let now = values chip models vars p s in
      let many : length now ≡ length vars = length-map vars (λ (v : Var). value chip models v p s) in
      (omega arith, changes_small first before now (length now) (omega (arith, many, few)))

  -- clocks that are all after a time
  late_from : (time n : ℕ) (n_small : n < 2 ^ 32) (k : ℕ) (before : List (List ℕ)) (ps : List Pins)
      (s : State Counts) (d : List ℕ) → time < 2 * k → 2 * k < 2 ^ 64
      → found time n n_small (trimmed d)
      (events (moments_text (moments_from chip models vars false k before ps s))) ≡ trimmed d
  late_from time n n_small k before [] s d late small =
      late_found time n n_small (falling false k before (values chip models vars (no_shift false) s)) d []
      (falling_digits false k before (no_shift false) s) late small
  late_from time n n_small k before (p ∷ ps) s d late small =
      let now = values chip models vars p s in
      let later = moments_from chip models vars false (next_clock k) now ps (clock chip p.tms p.tdi s) in
      late_found time n n_small (falling false k before now) d (moments_text (rising k ∷ later))
      (falling_digits false k before p s) late small

  rising_found : (time n : ℕ) (n_small : n < 2 ^ 32) (k : ℕ) (d xs : List ℕ) → 2 * k + 1 ≤ time
      → found time n n_small (trimmed d) (events (moment_text (rising k) ++ xs))
      ≡ found time n n_small (trimmed (cond (0 == n) (49 ∷ []) d)) (events xs)
  rising_found time n n_small k d xs h =
      moment_found time n n_small (rising k) d xs
      (((refl, refl, refl, refl, refl), tt), tt) (omega arith, tt) h

  -- TCK
  abbrev zero_small : 0 < 2 ^ 32
  zero_small = omega arith

  tck_fallen : (time : ℕ) (first : Bool) (k : ℕ) (before : List (List ℕ)) (p : Pins)
      (s : State Counts) (d xs : List ℕ) → 2 * k ≤ time
      → found time 0 zero_small (trimmed d)
      (events (moment_text (falling first k before (values chip models vars p s)) ++ xs))
      ≡ found time 0 zero_small (48 ∷ []) (events xs)
  tck_fallen time first k before p s d xs h =
      let now = values chip models vars p s in
      moment_found time 0 zero_small (falling first k before now) d xs
      (falling_digits first k before p s) (falling_small first k before p s) h
      ∙ ap (λ (l : List ℕ). found time 0 zero_small (trimmed l) (events xs))
      (tck_alone first before now (48 ∷ []) (length now))

  tck_low : (j : ℕ) (ps : List Pins) (first : Bool) (k : ℕ) (before : List (List ℕ)) (s : State Counts)
      (d : List ℕ) → j ≤ length ps → 2 * (k + length ps) + 1 < 2 ^ 64
      → found (2 * (k + j)) 0 zero_small (trimmed d)
      (events (moments_text (moments_from chip models vars first k before ps s))) ≡ 48 ∷ []
  tck_low zero [] first k before s d h small =
      tck_fallen (2 * (k + 0)) first k before (no_shift false) s d [] (omega arith)
  tck_low zero (p ∷ ps) first k before s d h small =
      let now = values chip models vars p s in
      let later = moments_from chip models vars false (next_clock k) now ps (clock chip p.tms p.tdi s) in
      tck_fallen (2 * (k + 0)) first k before p s d (moments_text (rising k ∷ later)) (omega arith)
      ∙ late_found (2 * (k + 0)) 0 zero_small (rising k) (48 ∷ []) (moments_text later)
      (((refl, refl, refl, refl, refl), tt), tt) (omega arith) (omega (arith, small))
  tck_low (suc j) [] first k before s d h small = absurd (omega (arith, h))
  tck_low (suc j) (p ∷ ps) first k before s d h small =
      let now = values chip models vars p s in
      let t = clock chip p.tms p.tdi s in
      let time = 2 * (k + suc j) in
      let later = moments_from chip models vars false (next_clock k) now ps t in
      let next : next_clock k ≡ k + 1 = omega (arith, small) in
      let same : time ≡ 2 * (next_clock k + j) = omega (arith, next) in
      tck_fallen time first k before p s d (moments_text (rising k ∷ later)) (omega arith)
      ∙ rising_found time 0 zero_small k (48 ∷ []) (moments_text later) (omega (arith, h))
      ∙ ap (λ (x : ℕ). found x 0 zero_small (49 ∷ []) (events (moments_text later))) same
      ∙ tck_low j ps false (next_clock k) now t (49 ∷ []) (omega (arith, h)) (omega (arith, small, next))

  tck_high : (j : ℕ) (ps : List Pins) (first : Bool) (k : ℕ) (before : List (List ℕ)) (s : State Counts)
      (d : List ℕ) → j < length ps → 2 * (k + length ps) + 1 < 2 ^ 64
      → found (2 * (k + j) + 1) 0 zero_small (trimmed d)
      (events (moments_text (moments_from chip models vars first k before ps s))) ≡ 49 ∷ []
  tck_high j [] first k before s d h small = absurd (omega (arith, h))
  tck_high zero (p ∷ ps) first k before s d h small =
      let now = values chip models vars p s in
      let t = clock chip p.tms p.tdi s in
      let time = 2 * (k + 0) + 1 in
      let later = moments_from chip models vars false (next_clock k) now ps t in
      let next : next_clock k ≡ k + 1 = omega (arith, small) in
      tck_fallen time first k before p s d (moments_text (rising k ∷ later)) (omega arith)
      ∙ rising_found time 0 zero_small k (48 ∷ []) (moments_text later) (omega arith)
      ∙ late_from time 0 zero_small (next_clock k) now ps t (49 ∷ [])
      (omega (arith, next)) (omega (arith, small, next))
  tck_high (suc j) (p ∷ ps) first k before s d h small =
      let now = values chip models vars p s in
      let t = clock chip p.tms p.tdi s in
      let time = 2 * (k + suc j) + 1 in
      let later = moments_from chip models vars false (next_clock k) now ps t in
      let next : next_clock k ≡ k + 1 = omega (arith, small) in
      let same : time ≡ 2 * (next_clock k + j) + 1 = omega (arith, next) in
      tck_fallen time first k before p s d (moments_text (rising k ∷ later)) (omega arith)
      ∙ rising_found time 0 zero_small k (48 ∷ []) (moments_text later) (omega (arith, h))
      ∙ ap (λ (x : ℕ). found x 0 zero_small (49 ∷ []) (events (moments_text later))) same
      ∙ tck_high j ps false (next_clock k) now t (49 ∷ []) (omega (arith, h)) (omega (arith, small, next))

module _ (chip : Chip Counts) (models : List SeenModel) (vars : List Var) (i : ℕ)
    (within : i < length vars) (few : length vars < 2 ^ 32) where
  abbrev n_small : suc i < 2 ^ 32
  n_small = omega (arith, within, few)

  fallen_found : (time : ℕ) (first : Bool) (k : ℕ) (before : List (List ℕ)) (p : Pins) (s : State Counts)
      (d : List ℕ) (xs : List ℕ) → (first ≡ false → d ≡ get_or before i []) → 2 * k ≤ time
      → found time (suc i) n_small (trimmed d)
      (events (moment_text (falling first k before (values chip models vars p s)) ++ xs))
      ≡ found time (suc i) n_small (trimmed (get_or (values chip models vars p s) i [])) (events xs)
  fallen_found time first k before p s d xs known h =
      let now = values chip models vars p s in
      let many : length now ≡ length vars = length-map vars (λ (v : Var). value chip models v p s) in
      moment_found time (suc i) n_small (falling first k before now) d xs
      (falling_digits chip models vars few first k before p s)
      (falling_small chip models vars few first k before p s) h
      ∙ ap (λ (b : Bool). found time (suc i) n_small (trimmed
      (last_told (suc i) (cond b (48 ∷ []) d) (changes first before now))) (events xs)) (tck_is_other i)
      ∙ ap (λ (l : List ℕ). found time (suc i) n_small (trimmed l) (events xs))
      (told_all first before now i d known (omega (arith, within, many)))

  found_from : (j : ℕ) (ps : List Pins) (first : Bool) (k : ℕ) (before : List (List ℕ)) (s : State Counts)
      (d : List ℕ) → (first ≡ false → d ≡ get_or before i [])
      → j ≤ length ps → 2 * (k + length ps) + 1 < 2 ^ 64
      → found (2 * (k + j)) (suc i) n_small (trimmed d)
      (events (moments_text (moments_from chip models vars first k before ps s))) ≡ trimmed (get_or
      (values chip models vars (get_or ps j (no_shift false)) (after_pins chip (take j ps) s)) i [])
  found_from zero [] first k before s d known h small =
      fallen_found (2 * (k + 0)) first k before (no_shift false) s d [] known (omega arith)
  found_from zero (p ∷ ps) first k before s d known h small =
      let now = values chip models vars p s in
      let later = moments_from chip models vars false (next_clock k) now ps (clock chip p.tms p.tdi s) in
      fallen_found (2 * (k + 0)) first k before p s d (moments_text (rising k ∷ later)) known (omega arith)
      ∙ late_found (2 * (k + 0)) (suc i) n_small (rising k) (get_or now i []) (moments_text later)
      (((refl, refl, refl, refl, refl), tt), tt) (omega arith) (omega (arith, small))
  found_from (suc j) [] first k before s d known h small = absurd (omega (arith, h))
  found_from (suc j) (p ∷ ps) first k before s d known h small =
      let now = values chip models vars p s in
      let t = clock chip p.tms p.tdi s in
      let time = 2 * (k + suc j) in
      let later = moments_from chip models vars false (next_clock k) now ps t in
      let next : next_clock k ≡ k + 1 = omega (arith, small) in
      let same : time ≡ 2 * (next_clock k + j) = omega (arith, next) in
      fallen_found time first k before p s d (moments_text (rising k ∷ later)) known (omega arith)
      ∙ moment_found time (suc i) n_small (rising k) (get_or now i []) (moments_text later)
      (((refl, refl, refl, refl, refl), tt), tt) (omega arith, tt) (omega (arith, h))
      ∙ ap (λ (b : Bool). found time (suc i) n_small (trimmed (cond b (49 ∷ []) (get_or now i [])))
      (events (moments_text later))) (tck_is_other i)
      ∙ ap (λ (x : ℕ). found x (suc i) n_small (trimmed (get_or now i [])) (events (moments_text later))) same
      ∙ found_from j ps false (next_clock k) now t (get_or now i []) (λ e. refl)
      (omega (arith, h)) (omega (arith, small, next))

  half_from : (j : ℕ) (ps : List Pins) (first : Bool) (k : ℕ) (before : List (List ℕ)) (s : State Counts)
      (d : List ℕ) → (first ≡ false → d ≡ get_or before i [])
      → j < length ps → 2 * (k + length ps) + 1 < 2 ^ 64
      → found (2 * (k + j) + 1) (suc i) n_small (trimmed d)
      (events (moments_text (moments_from chip models vars first k before ps s))) ≡ trimmed (get_or
      (values chip models vars (get_or ps j (no_shift false)) (after_pins chip (take j ps) s)) i [])
  half_from j [] first k before s d known h small = absurd (omega (arith, h))
  half_from zero (p ∷ ps) first k before s d known h small =
      let now = values chip models vars p s in
      let t = clock chip p.tms p.tdi s in
      let time = 2 * (k + 0) + 1 in
      let later = moments_from chip models vars false (next_clock k) now ps t in
      let next : next_clock k ≡ k + 1 = omega (arith, small) in
      fallen_found time first k before p s d (moments_text (rising k ∷ later)) known (omega arith)
      ∙ rising_found chip models vars few time (suc i) n_small k
      (get_or now i []) (moments_text later) (omega arith)
      ∙ ap (λ (b : Bool). found time (suc i) n_small (trimmed (cond b (49 ∷ []) (get_or now i [])))
      (events (moments_text later))) (tck_is_other i)
      ∙ late_from chip models vars few time (suc i) n_small (next_clock k) now ps t (get_or now i [])
      (omega (arith, next)) (omega (arith, small, next))
  half_from (suc j) (p ∷ ps) first k before s d known h small =
      let now = values chip models vars p s in
      let t = clock chip p.tms p.tdi s in
      let time = 2 * (k + suc j) + 1 in
      let later = moments_from chip models vars false (next_clock k) now ps t in
      let next : next_clock k ≡ k + 1 = omega (arith, small) in
      let same : time ≡ 2 * (next_clock k + j) + 1 = omega (arith, next) in
      fallen_found time first k before p s d (moments_text (rising k ∷ later)) known (omega arith)
      ∙ rising_found chip models vars few time (suc i) n_small k
      (get_or now i []) (moments_text later) (omega (arith, h))
      ∙ ap (λ (b : Bool). found time (suc i) n_small (trimmed (cond b (49 ∷ []) (get_or now i [])))
      (events (moments_text later))) (tck_is_other i)
      ∙ ap (λ (x : ℕ). found x (suc i) n_small (trimmed (get_or now i [])) (events (moments_text later))) same
      ∙ half_from j ps false (next_clock k) now t (get_or now i []) (λ e. refl)
      (omega (arith, h)) (omega (arith, small, next))

pub moments_found : (chip : Chip Counts) (models : List SeenModel) (vars : List Var) (ps : List Pins)
    (s : State Counts) (from i j : ℕ) → i < length vars → length vars < 2 ^ 32
    → j ≤ length ps → 2 * (from + length ps) + 1 < 2 ^ 64
    → read_value (moments_text (moments_from chip models vars true from (untold (length vars)) ps s))
    (code (i + 1)) (length (get_or (values chip models vars (get_or ps j (no_shift false))
    (after_pins chip (take j ps) s)) i [])) (2 * (from + j))
    ≡ get_or (values chip models vars (get_or ps j (no_shift false)) (after_pins chip (take j ps) s)) i []
moments_found chip models vars ps s from i j within few h small =
    let v = get_or
    (values chip models vars (get_or ps j (no_shift false)) (after_pins chip (take j ps) s)) i [] in
    let text = moments_text (moments_from chip models vars true from (untold (length vars)) ps s) in
    ap (λ (n : ℕ). read_value text (code n) (length v) (2 * (from + j))) (add-one i)
    ∙ ap (padded (length v)) (found_from chip models vars i within few j ps true from
    (untold (length vars)) s [] (λ e. absurd (cc)) h small)
    ∙ padded_again v

pub halves_found : HalvesAreRead
halves_found chip models vars ps s from i j within few h small =
    let v = get_or
    (values chip models vars (get_or ps j (no_shift false)) (after_pins chip (take j ps) s)) i [] in
    let text = moments_text (moments_from chip models vars true from (untold (length vars)) ps s) in
    ap (λ (n : ℕ). read_value text (code n) (length v) (2 * (from + j) + 1)) (add-one i)
    ∙ ap (padded (length v)) (half_from chip models vars i within few j ps true from
    (untold (length vars)) s [] (λ e. absurd (cc)) h small)
    ∙ padded_again v

pub tck_found : TckIsRead
tck_found chip models vars ps s from few small = (
  λ j h. ap (padded 1) (tck_low chip models vars few j ps true from (untold (length vars)) s [] h small),
  λ j h. ap (padded 1) (tck_high chip models vars few j ps true from (untold (length vars)) s [] h small),
)
