-- The text of the pins, and that of the variables after them.
use Rattle.std.proofs.Common.{◌≡◌, ℕ, zero, suc, ◌+◌, ◌*◌, Bool, true, false, cond, List, [], ◌∷◌, ◌++◌}
use Rattle.std.proofs.Common.{length, get_or, drop, decimal, codes, refl, ap, sym, ◌∙◌, arith, append-nil}
use Rattle.std.proofs.Common.{append_assoc}
use Rattle.std.specs.List.{flat_map}
use Rattle.instruments.specs.declared.Counts.{Counts}
use Rattle.instruments.specs.Seen.{SeenModel}
use Rattle.net_bench.specs.Bench.{Chip, State}
use Rattle.tap_machine.specs.declared.Pins.{Pins}
use Rattle.net_wave.specs.declared.shown.Shown.{Shown}
use Rattle.net_wave.specs.declared.var.Var.{Var}
use Rattle.net_wave.specs.declared.var.Var.TheVariants.{Instruction}
use Rattle.net_wave.specs.Changes.{WasTold, later_at, later_changes, pin_digits, pin_vars, pins_text}
use Rattle.net_wave.specs.Changes.{shown_at, told_if}
use Rattle.net_wave.specs.Moments.{Change, change_at, change_if, change_text, changes, counted, falling}
use Rattle.net_wave.specs.Moments.{moment_text, rising}
use Rattle.report.specs.Registers.{digit}
use Rattle.net_wave.specs.Values.{bits_digits, differs, expect_digit, number_digits, tap_code, values}
use Rattle.net_wave.specs.Vars.{up_to}

pub up_alike : {T : Type 0} (f g : ℕ → List T) (n : ℕ) → ((i : ℕ) → f i ≡ g i) → up_to f n ≡ up_to g n
up_alike f g zero same = refl
up_alike f g (suc n) same =
    ap (λ l. l ++ f n) (up_alike f g n same) ∙ ap (λ l. up_to g n ++ l) (same n)

-- the first of them apart
up_front : (f : ℕ → List Change) (n : ℕ) → up_to f (suc n) ≡ f 0 ++ up_to (λ i. f (suc i)) n
up_front f zero = sym (append-nil (f 0))
up_front f (suc n) =
    ap (λ (l : List Change). l ++ f (suc n)) (up_front f n)
    ∙ append_assoc (f 0) (up_to (λ i. f (suc i)) n) (f (suc n))

pub flat_both : (xs ys : List Change)
    → flat_map change_text (xs ++ ys) ≡ flat_map change_text xs ++ flat_map change_text ys
flat_both [] ys = refl
flat_both (x ∷ xs) ys = ap (λ (l : List ℕ). change_text x ++ l) (flat_both xs ys)
    ∙ sym (append_assoc (change_text x) (flat_map change_text xs) (flat_map change_text ys))

peel : (f : ℕ → List Change) (n : ℕ) (rest : List ℕ) → flat_map change_text (up_to (λ i. f (suc i)) n) ≡ rest
    → flat_map change_text (up_to f (suc n)) ≡ flat_map change_text (f 0) ++ rest
peel f n rest is =
    ap (flat_map change_text) (up_front f n)
    ∙ flat_both (f 0) (up_to (λ i. f (suc i)) n)
    ∙ ap (λ (l : List ℕ). flat_map change_text (f 0) ++ l) is

later_is : (first : Bool) (told vals : List (List ℕ)) (f : ℕ → List Change) → ((i : ℕ) → f i ≡ change_if first
    (suc (suc (suc (suc (suc (suc (suc (suc (suc (suc i)))))))))) (get_or told i []) (get_or vals i []))
    → flat_map change_text (up_to f (length vals)) ≡ flat_map change_text (later_changes first told vals)
later_is first told vals f is =
    ap (flat_map change_text) (up_alike f (later_at first told vals) (length vals)
    (λ i. is i ∙ ap (λ (k : ℕ). change_if first k (get_or told i []) (get_or vals i [])) (ten i)))
  where
    ten : (i : ℕ) → suc (suc (suc (suc (suc (suc (suc (suc (suc (suc i))))))))) ≡ i + 10
    ten i = omega arith

-- the pins one after the other, and then the rest
abbrev pins_before : Bool → Shown → Shown → List ℕ → List ℕ → List ℕ → List ℕ
pins_before first b n i j rest =
    told_if first 1 (digit b.pins.tms ∷ []) (digit n.pins.tms ∷ [])
    ++ (told_if first 2 (digit b.pins.tdi ∷ []) (digit n.pins.tdi ∷ [])
    ++ (told_if first 3 (digit b.tdo ∷ []) (digit n.tdo ∷ [])
    ++ (told_if first 4 (expect_digit b.pins.expect ∷ []) (expect_digit n.pins.expect ∷ [])
    ++ (told_if first 5 (digit (differs b.pins.expect b.tdo) ∷ []) (digit (differs n.pins.expect n.tdo) ∷ [])
    ++ (told_if first 6 (number_digits 4 (tap_code b.tap)) (number_digits 4 (tap_code n.tap))
    ++ (told_if first 7 i j
    ++ (told_if first 8 (number_digits 32 b.pins.scan) (number_digits 32 n.pins.scan)
    ++ (told_if first 9 (number_digits 16 b.pins.bit) (number_digits 16 n.pins.bit)
    ++ rest))))))))

all_changes : (first : Bool) (b n : Shown) (i j : List ℕ) (told vals : List (List ℕ))
    → flat_map change_text (changes first (pin_digits b i ++ told) (pin_digits n j ++ vals))
    ≡ pins_before first b n i j (flat_map change_text (later_changes first told vals))
all_changes first b n i j told vals =
    let m = length vals in
    let f = change_at first (pin_digits b i ++ told) (pin_digits n j ++ vals) in
    peel f (suc (suc (suc (suc (suc (suc (suc (suc m)))))))) _
    (peel (λ k. f (suc k)) (suc (suc (suc (suc (suc (suc (suc m))))))) _
    (peel (λ k. f (suc (suc k))) (suc (suc (suc (suc (suc (suc m)))))) _
    (peel (λ k. f (suc (suc (suc k)))) (suc (suc (suc (suc (suc m))))) _
    (peel (λ k. f (suc (suc (suc (suc k))))) (suc (suc (suc (suc m)))) _
    (peel (λ k. f (suc (suc (suc (suc (suc k)))))) (suc (suc (suc m))) _
    (peel (λ k. f (suc (suc (suc (suc (suc (suc k))))))) (suc (suc m)) _
    (peel (λ k. f (suc (suc (suc (suc (suc (suc (suc k)))))))) (suc m) _
    (peel (λ k. f (suc (suc (suc (suc (suc (suc (suc (suc k))))))))) m _
    (later_is first told vals
    (λ k. f (suc (suc (suc (suc (suc (suc (suc (suc (suc k)))))))))) (λ k. refl))))))))))

regroup : (a b c d e f g h i l x : List ℕ)
    → ((10 ∷ 48 ∷ 33 ∷ 10 ∷ (a ++ (b ++ (c ++ (d ++ (e ++ f)))))) ++ (g ++ (h ++ i))) ++ (l ++ x)
    ≡ 10 ∷ 48 ∷ 33 ∷ 10 ∷ ((a ++ (b ++ (c ++ (d ++ (e ++ (f ++ (g ++ (h ++ (i ++ l))))))))) ++ x)
regroup a b c d e f g h i l x = simp append_assoc

join : (first : Bool) (ds rest : List ℕ) → (35 ∷ ds) ++ (cond first (codes "\n$dumpvars") [] ++ 10 ∷ rest)
    ≡ (35 ∷ (ds ++ 10 ∷ [])) ++ (cond first (codes "$dumpvars\n") [] ++ rest)
join true ds rest = sym (append_assoc (35 ∷ ds) (10 ∷ []) (codes "$dumpvars\n" ++ rest))
join false ds rest = sym (append_assoc (35 ∷ ds) (10 ∷ []) rest)

-- the moment at which a clock begins
pub falling_is : (first : Bool) (k : ℕ) (b n : Shown) (i j : List ℕ) (told vals : List (List ℕ))
    (digits : List ℕ) → digits ≡ 35 ∷ decimal (counted (2 * k))
    → digits ++ (cond first (codes "\n$dumpvars") [] ++ (pins_text first b n i j
    ++ (flat_map change_text (later_changes first told vals) ++ cond first (codes "$end\n") [])))
    ≡ moment_text (falling first k (pin_digits b i ++ told) (pin_digits n j ++ vals))
falling_is first k b n i j told vals digits is =
    let end = cond first (codes "$end\n") [] in
    let later = flat_map change_text (later_changes first told vals) in
    let ds = decimal (counted (2 * k)) in
    ap (λ (l : List ℕ). l
    ++ (cond first (codes "\n$dumpvars") [] ++ (pins_text first b n i j ++ (later ++ end)))) is
    ∙ ap (λ (l : List ℕ). (35 ∷ ds) ++ (cond first (codes "\n$dumpvars") [] ++ l))
    (regroup (told_if first 1 (digit b.pins.tms ∷ []) (digit n.pins.tms ∷ []))
    (told_if first 2 (digit b.pins.tdi ∷ []) (digit n.pins.tdi ∷ []))
    (told_if first 3 (digit b.tdo ∷ []) (digit n.tdo ∷ []))
    (told_if first 4 (expect_digit b.pins.expect ∷ []) (expect_digit n.pins.expect ∷ [])) (told_if first 5
    (digit (differs b.pins.expect b.tdo) ∷ []) (digit (differs n.pins.expect n.tdo) ∷ []))
    (told_if first 6 (number_digits 4 (tap_code b.tap)) (number_digits 4 (tap_code n.tap)))
    (told_if first 7 i j) (told_if first 8 (number_digits 32 b.pins.scan) (number_digits 32 n.pins.scan))
    (told_if first 9 (number_digits 16 b.pins.bit) (number_digits 16 n.pins.bit)) later end)
    ∙ join first ds (48 ∷ 33 ∷ 10 ∷ (pins_before first b n i j later ++ end))
    ∙ ap (λ (l : List ℕ). (35 ∷ (ds ++ 10 ∷ [])) ++ (cond first (codes "$dumpvars\n") [] ++ 48 ∷ 33 ∷ 10
    ∷ (l ++ end))) (sym (all_changes first b n i j told vals))

pub rising_is : (k : ℕ) (digits : List ℕ) → digits ≡ 35 ∷ decimal (counted (2 * k + 1))
    → digits ++ codes "\n1!\n" ≡ moment_text (rising k)
rising_is k digits is =
    ap (λ (l : List ℕ). l ++ codes "\n1!\n") is
    ∙ sym (append_assoc (35 ∷ decimal (counted (2 * k + 1))) (10 ∷ []) (codes "1!\n"))

-- ---- what was written of the pins, and of the others

module _ (chip : Chip Counts) (models : List SeenModel) (vars : List Var) (last : Shown) (i : List ℕ)
    (told : List (List ℕ)) (s : State Counts)
    (was : WasTold chip models (pin_vars ++ vars) (pin_digits last i ++ told) last s) where
  pub others_told : WasTold chip models vars told last s
  others_told = record { before = was.before; all = ap (drop 9) was.all; shown = was.shown; next = was.next }

  pub instruction_told : WasTold chip models (Instruction ∷ []) (i ∷ []) last s
  instruction_told =
      record {
        before = was.before;
        all = ap (λ (l : List (List ℕ)). get_or l 6 [] ∷ []) was.all;
        shown = was.shown;
        next = was.next;
      }

pub values_are : (chip : Chip Counts) (models : List SeenModel) (vars : List Var) (p : Pins)
    (s : State Counts) (now : Shown) → now ≡ shown_at chip p s
    → pin_digits now (bits_digits s.ir_hold) ++ values chip models vars p s
    ≡ values chip models (pin_vars ++ vars) p s
values_are chip models vars p s now is =
    ap (λ (x : Shown). pin_digits x (bits_digits s.ir_hold) ++ values chip models vars p s) is
