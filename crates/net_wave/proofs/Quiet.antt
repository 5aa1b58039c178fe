-- Variables that stay where a clock moves nothing on the chip.
use Rattle.std.proofs.Common.{◌≡◌, ℕ, zero, suc, ◌+◌, ◌<◌, ◌≤◌, Bool, true, false, cond, List, [], ◌∷◌}
use Rattle.std.proofs.Common.{get_or, length, refl, ap, sym, ◌∙◌, arith}
use Rattle.std.specs.Prelude.{◌==◌, ◌||◌, ◌&&◌}
use Rattle.std.specs.List.{list_any}
use Rattle.std.proofs.lemmas.Bool.Decides.{nat_tests}
use Rattle.net_wave.specs.declared.shown.Shown.{Shown}
use Rattle.net_wave.specs.declared.var.Var.{Var}
use Rattle.net_wave.specs.declared.var.Var.TheVariants.{Tms, Tdi, Tdo, Expect, Differs, Tap, Instruction}
use Rattle.net_wave.specs.declared.var.Var.TheVariants.{Scan, Bit, Update, Shift, OnPath, Row, Input, Output}
use Rattle.net_wave.specs.declared.var.Var.TheVariants.{Word}
use Rattle.net_wave.specs.Changes.{Stay, is_idle, is_shift, may_change, has_instrument_event}
use Rattle.net_wave.specs.Changes.{changes_shift_stages, changes_update_stages}
use Rattle.net_wave.specs.Header.{is_pin}
use Rattle.ij_bits.proofs.Tests.{or_left_false}

same_place : (vars : List Var) (k : ℕ) (d e : Var) → k < length vars → get_or vars k d ≡ get_or vars k e
same_place [] k d e h = absurd (omega (arith, h))
same_place (x ∷ xs) zero d e h = refl
same_place (x ∷ xs) (suc k) d e h = same_place xs k d e (omega (arith, h))

pub next_place : (vars : List Var) (i place next : ℕ) (d : Var) → i < length vars → place ≤ i
    → next ≡ cond (is_pin (get_or vars i d)) (i + 1) place
    → ((k : ℕ) → place ≤ k → k < i → is_pin (get_or vars k Tms) ≡ false)
    → (next ≤ i + 1) × ((k : ℕ) → next ≤ k → k < i + 1 → is_pin (get_or vars k Tms) ≡ false)
next_place vars i place next d h few is rest = cases (is_pin (get_or vars i d)) refl
  where
    cases : (b : Bool) → is_pin (get_or vars i d) ≡ b
        → (next ≤ i + 1) × ((k : ℕ) → next ≤ k → k < i + 1 → is_pin (get_or vars k Tms) ≡ false)
    cases true e =
        let here : next ≡ i + 1 = is ∙ ap (λ (b : Bool). cond b (i + 1) place) e in
        (omega (arith, here), λ k l m. absurd (omega (arith, here, l, m)))
    cases false e =
        let here : next ≡ place = is ∙ ap (λ (b : Bool). cond b (i + 1) place) e in
        (omega (arith, here, few), λ k l m. place_of k (k == i) refl (omega (arith, here, l)) m)
      where
        place_of : (k : ℕ) (b : Bool) → (k == i) ≡ b → place ≤ k
            → k < i + 1 → is_pin (get_or vars k Tms) ≡ false
        place_of k true e2 l m =
            let same : k ≡ i = grind (arith, nat_tests) in
            ap (λ (n : ℕ). is_pin (get_or vars n Tms)) same ∙ ap is_pin (same_place vars i Tms d h) ∙ e
        place_of k false e2 l m =
            let other : k ≡ i → ⊥ = λ q. grind (arith, nat_tests) in rest k l (omega (arith, m, other))

-- a variable of the chip
quiet : (b n : Shown) (v : Var) → is_pin v ≡ false → has_instrument_event b.tap n.tap ≡ false
    → (is_shift v ≡ true → changes_shift_stages b.tap ≡ false) → may_change b n v ≡ false
quiet b n Tms pin run shift = absurd (cc)
quiet b n Tdi pin run shift = absurd (cc)
quiet b n Tdo pin run shift = absurd (cc)
quiet b n Expect pin run shift = absurd (cc)
quiet b n Differs pin run shift = absurd (cc)
quiet b n Tap pin run shift = absurd (cc)
quiet b n Instruction pin run shift = absurd (cc)
quiet b n Scan pin run shift = absurd (cc)
quiet b n Bit pin run shift = absurd (cc)
quiet b n (Update r) pin run shift = or_left_false (changes_update_stages n.tap) (is_idle b.tap && is_idle
    n.tap) run
quiet b n (Shift r) pin run shift = shift refl
quiet b n (OnPath r) pin run shift = or_left_false (changes_update_stages n.tap) (is_idle b.tap && is_idle
    n.tap) run
quiet b n (Row m) pin run shift = or_left_false (changes_update_stages n.tap) (is_idle b.tap && is_idle
    n.tap) run
quiet b n (Input i p) pin run shift = run
quiet b n (Output i p) pin run shift = run
quiet b n (Word i w) pin run shift = run

no_shift_at : (vars : List Var) (k : ℕ) → list_any is_shift vars ≡ false
    → k < length vars → is_shift (get_or vars k Tms) ≡ false
no_shift_at [] k none h = absurd (omega (arith, h))
no_shift_at (v ∷ vs) k none h = cases k (is_shift v) refl none h (no_shift_at vs)
  where
    cases : (k : ℕ) (b : Bool) → is_shift v ≡ b → list_any is_shift (v ∷ vs) ≡ false → k < length (v ∷ vs)
        → ((k : ℕ) → list_any is_shift vs ≡ false → k < length vs → is_shift (get_or vs k Tms) ≡ false)
        → is_shift (get_or (v ∷ vs) k Tms) ≡ false
    cases k true e none h later = absurd (let wrong : (true || list_any is_shift vs)
        ≡ false = ap (λ (b : Bool). b || list_any is_shift vs) (sym e) ∙ none in cc)
    cases zero false e none h later = e
    cases (suc k) false e none h later =
        later k (ap (λ (b : Bool). b || list_any is_shift vs) (sym e) ∙ none) (omega (arith, h))

-- where there are no shift stages, or none changes
pub all_quiet : (vars : List Var) (pins : ℕ) (shifts : Bool) (b n : Shown)
    → ((k : ℕ) → pins ≤ k → k < length vars → is_pin (get_or vars k Tms) ≡ false)
    → (shifts ≡ false → list_any is_shift vars ≡ false) → has_instrument_event b.tap n.tap ≡ false
    → (shifts && changes_shift_stages b.tap) ≡ false → Stay b n vars pins
all_quiet vars pins true b n pin none run shift =
    λ k l m. quiet b n (get_or vars k Tms) (pin k l m) run (λ e. shift)
all_quiet vars pins false b n pin none run shift =
    λ k l m. quiet b n (get_or vars k Tms) (pin k l m) run
    (λ e. absurd (let wrong : true ≡ false = sym e ∙ no_shift_at vars k (none refl) m in cc))
