-- Changes, replayed.
use Rattle.std.proofs.Common.{◌≡◌, ℕ, zero, suc, ◌+◌, ◌-◌, ◌*◌, ◌<◌, ◌≤◌, Bool, true, false, not, cond, List}
use Rattle.std.proofs.Common.{[], ◌∷◌, ◌++◌, length, take, get_or, refl, ap, ◌∙◌, arith, add-one}
use Rattle.std.specs.Prelude.{◌==◌, ◌||◌}
use Rattle.std.specs.List.{flat_map}
use Rattle.std.specs.Str.{bytes_eq}
use Rattle.std.proofs.lemmas.Bool.Decides.{nat_tests}
use Rattle.std.proofs.lemmas.List.{length-map}
use Rattle.std.proofs.lemmas.Slice.Eq.{bytes_eq-Decides}
use Rattle.instruments.specs.declared.Counts.{Counts}
use Rattle.instruments.specs.Seen.{SeenModel}
use Rattle.net_bench.specs.Bench.{Chip, State, clock}
use Rattle.net_bench.specs.Playing.{after_pins}
use Rattle.tap_machine.specs.declared.Pins.{Pins}
use Rattle.tap_machine.specs.Play.{no_shift}
use Rattle.net_wave.specs.declared.var.Var.{Var}
use Rattle.net_wave.specs.Laws.{last_told, replayed}
use Rattle.net_wave.specs.Moments.{Change, Moment, change_at, changes, falling, moments_from, next_clock}
use Rattle.net_wave.specs.Moments.{rising, untold}
use Rattle.net_wave.specs.Values.{value, values}
use Rattle.net_wave.specs.Vars.{up_to}
use Rattle.ij_bits.proofs.Tests.{next_not_zero}

told_both : (n : ℕ) (d : List ℕ) (xs ys : List Change)
    → last_told n d (xs ++ ys) ≡ last_told n (last_told n d xs) ys
told_both n d [] ys = refl
told_both n d (x ∷ xs) ys = told_both n (cond (x.number == n) x.digits d) xs ys

-- TCK is another variable
pub tck_is_other : (i : ℕ) → (0 == suc i) ≡ false
tck_is_other i = grind (arith, nat_tests)

-- the changes of variables say nothing of TCK
pub tck_alone : (first : Bool) (before now : List (List ℕ)) (d : List ℕ) (n : ℕ)
    → last_told 0 d (up_to (change_at first before now) n) ≡ d
tck_alone first before now d zero = refl
tck_alone first before now d (suc n) =
    told_both 0 d (up_to (change_at first before now) n) (change_at first before now n)
    ∙ ap (λ (e : List ℕ). last_told 0 e (change_at first before now n)) (tck_alone first before now d n)
    ∙ cases (first || not (bytes_eq (get_or before n []) (get_or now n [])))
  where
    cases : (b : Bool)
        → last_told 0 d (cond b (record { number = suc n; digits = get_or now n [] } ∷ []) []) ≡ d
    cases true = ap (λ (t : Bool). cond t (get_or now n []) d) (next_not_zero n)
    cases false = refl

module _ (first : Bool) (before now : List (List ℕ)) (i : ℕ) where
  abbrev here : List Change
  here = change_at first before now i

  -- the changes of other variables
  others : (d : List ℕ) (k : ℕ) → (suc k == suc i) ≡ false
      → last_told (suc i) d (change_at first before now k) ≡ d
  others d k e = cases (first || not (bytes_eq (get_or before k []) (get_or now k [])))
    where
      cases : (b : Bool)
          → last_told (suc i) d (cond b (record { number = suc k; digits = get_or now k [] } ∷ []) []) ≡ d
      cases true = ap (λ t. cond t (get_or now k []) d) e
      cases false = refl

  -- its own
  own : (d : List ℕ) → (first ≡ false → d ≡ get_or before i [])
      → last_told (suc i) d (change_at first before now i) ≡ get_or now i []
  own d known = cases first refl (bytes_eq (get_or before i []) (get_or now i [])) refl
    where
      told : last_told (suc i) d (record { number = suc i; digits = get_or now i [] } ∷ []) ≡ get_or now i []
      told = let same : (suc i == suc i) ≡ true = grind (arith, nat_tests) in
          ap (λ t. cond t (get_or now i []) d) same

      cases : (b : Bool) → first ≡ b → (k : Bool)
          → bytes_eq (get_or before i []) (get_or now i []) ≡ k → last_told (suc i) d
          (cond (b || not k) (record { number = suc i; digits = get_or now i [] } ∷ []) []) ≡ get_or now i []
      cases true f k e = told
      cases false f false e = told
      cases false f true e = known f ∙ (bytes_eq-Decides (get_or before i []) (get_or now i [])).0 e

  -- those of the first n places
  told_to : (n : ℕ) (d : List ℕ) → (first ≡ false → d ≡ get_or before i []) → n ≤ i
      → last_told (suc i) d (up_to (change_at first before now) n) ≡ d
  told_to zero d known h = refl
  told_to (suc n) d known h =
      let other : (suc n == suc i) ≡ false = grind (arith, nat_tests) in
      told_both (suc i) d (up_to (change_at first before now) n) (change_at first before now n)
      ∙ ap (λ e. last_told (suc i) e (change_at first before now n)) (told_to n d known (omega (arith, h)))
      ∙ others d n other

  told_from : (k n : ℕ) (d : List ℕ) → (first ≡ false → d ≡ get_or before i []) → n ≡ suc i + k
      → last_told (suc i) d (up_to (change_at first before now) n) ≡ get_or now i []
  told_from zero n d known e =
      let more : n ≡ suc i = omega (arith, e) in
      ap (λ m. last_told (suc i) d (up_to (change_at first before now) m)) more
      ∙ told_both (suc i) d (up_to (change_at first before now) i) (change_at first before now i)
      ∙ ap (λ x. last_told (suc i) x (change_at first before now i)) (told_to i d known (omega arith))
      ∙ own d known
  told_from (suc k) n d known e =
      let m = suc i + k in
      let more : n ≡ suc m = omega (arith, e) in
      let other : (suc m == suc i) ≡ false = grind (arith, nat_tests) in
      ap (λ x. last_told (suc i) d (up_to (change_at first before now) x)) more
      ∙ told_both (suc i) d (up_to (change_at first before now) m) (change_at first before now m)
      ∙ ap (λ x. last_told (suc i) x (change_at first before now m)) (told_from k m d known refl)
      ∙ others (get_or now i []) m other

  pub told_all : (d : List ℕ) → (first ≡ false → d ≡ get_or before i []) → i < length now
      → last_told (suc i) d (changes first before now) ≡ get_or now i []
  told_all d known h = told_from (length now - suc i) (length now) d known (omega (arith, h))

module _ (chip : Chip Counts) (models : List SeenModel) (vars : List Var)
    (i : ℕ) (within : i < length vars) where
  abbrev told : List ℕ → List Moment → List ℕ
  told d ms = last_told (suc i) d (flat_map (λ m. m.changes) ms)

  tck : (0 == suc i) ≡ false
  tck = tck_is_other i

  -- the moment at which a clock begins tells the value of the clock
  fallen : (first : Bool) (k : ℕ) (before : List (List ℕ)) (p : Pins) (s : State Counts) (d : List ℕ)
      (later : List Moment) → (first ≡ false → d ≡ get_or before i [])
      → told d (falling first k before (values chip models vars p s) ∷ later)
      ≡ told (get_or (values chip models vars p s) i []) later
  fallen first k before p s d later known =
      let now = values chip models vars p s in
      let there : i < length now =
      omega (arith, within, length-map vars (λ (v : Var). value chip models v p s)) in
      ap (λ t. last_told (suc i) (cond t (48 ∷ []) d)
      (changes first before now ++ flat_map (λ m. m.changes) later)) tck
      ∙ told_both (suc i) d (changes first before now) (flat_map (λ m. m.changes) later)
      ∙ ap (λ x. last_told (suc i) x (flat_map (λ m. m.changes) later))
      (told_all first before now i d known there)

  from : (j : ℕ) (ps : List Pins) (first : Bool) (k : ℕ) (before : List (List ℕ)) (s : State Counts)
      (d : List ℕ) → (first ≡ false → d ≡ get_or before i []) → j ≤ length ps
      → told d (take (2 * j + 1) (moments_from chip models vars first k before ps s)) ≡ get_or
      (values chip models vars (get_or ps j (no_shift false)) (after_pins chip (take j ps) s)) i []
  from zero [] first k before s d known h = fallen first k before (no_shift false) s d [] known
  from zero (p ∷ ps) first k before s d known h = fallen first k before p s d [] known
  from (suc j) [] first k before s d known h = absurd (omega arith)
  from (suc j) (p ∷ ps) first k before s d known h =
      let now = values chip models vars p s in
      let t = clock chip p.tms p.tdi s in
      let later = moments_from chip models vars false (next_clock k) now ps t in
      let two : 2 * suc j + 1 ≡ suc (suc (2 * j + 1)) = omega arith in
      ap (λ n. told d (take n (falling first k before now ∷ rising k ∷ later))) two
      ∙ fallen first k before p s d (rising k ∷ take (2 * j + 1) later) known
      ∙ ap (λ t. told (cond t (49 ∷ []) (get_or now i [])) (take (2 * j + 1) later)) tck
      ∙ from j ps false (next_clock k) now t (get_or now i []) (λ e. refl) (omega (arith, h))

pub replay : (chip : Chip Counts) (models : List SeenModel) (vars : List Var) (ps : List Pins)
    (s : State Counts) (from_clock i j : ℕ) → i < length vars → j ≤ length ps
    → replayed (i + 1)
    (take (2 * j + 1) (moments_from chip models vars true from_clock (untold (length vars)) ps s))
    ≡ get_or (values chip models vars (get_or ps j (no_shift false)) (after_pins chip (take j ps) s)) i []
replay chip models vars ps s from_clock i j within h =
    ap (λ n. replayed n (take (2 * j + 1)
    (moments_from chip models vars true from_clock (untold (length vars)) ps s))) (add-one i)
    ∙ from chip models vars i within j ps true from_clock (untold (length vars)) s [] (λ e. absurd (cc)) h
