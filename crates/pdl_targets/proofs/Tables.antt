-- What is known of the rounds of the rows of all muxes.
use Rattle.std.proofs.Common.{◌≡◌, inl, inr, ℕ, ◌+◌, ◌-◌, ◌*◌, ◌<◌, ◌≤◌, min, Bool, true, false, List, length}
use Rattle.std.proofs.Common.{get_or, get_or-set_same, get_or-set_other, take, refl, sym, ap, ◌∙◌, arith}
use Rattle.std.specs.Prelude.{◌==◌, ◌&&◌, ◌||◌, not, slice_set}
use Rattle.std.specs.Int.{bit_at, div_ceil}
use Rattle.std.specs.List.{list_any}
use Rattle.std.proofs.lemmas.Bool.{cases_lt}
use Rattle.std.proofs.lemmas.Bool.Decides.{eqb_tells}
use Rattle.std.proofs.lemmas.List.{get_or_default}
use Rattle.std.proofs.lemmas.List.Folds.{list_any_more}
use Rattle.pdl_targets.specs.Rows.{MuxSets, StampedRows, has_other, mux_at, no_mux}

-- ---- a row is put

-- the rounds of a mux, once there is room for it
pub grown_at : (muxes grown : List MuxSets) (mux : ℕ) (rounds : MuxSets) → mux + 1 ≤ length grown
    → ((m : ℕ) → mux_at grown m ≡ mux_at muxes m)
    → rounds ≡ get_or grown mux rounds → rounds ≡ mux_at muxes mux
grown_at muxes grown mux rounds room same is =
    is ∙ get_or_default grown mux rounds no_mux (omega arith) ∙ same mux

pub row_put : (stamp : ℕ) (muxes grown : List MuxSets) (mux row round : ℕ) (rounds new : MuxSets)
    → mux + 1 ≤ length grown → ((m : ℕ) → mux_at grown m ≡ mux_at muxes m) → rounds ≡ get_or grown mux rounds
    → ((r k : ℕ) → has_other stamp new r k ≡ ((k == round && not (row == r)) || has_other stamp rounds r k))
    → (m r k : ℕ) → has_other stamp (mux_at (slice_set grown mux new) m) r k
    ≡ ((k == round && ((mux == m) && not (row == r))) || has_other stamp (mux_at muxes m) r k)
row_put stamp muxes grown mux row round rounds new room same is put m r k =
    elim (eqb_tells mux m) [
      | inl here ↦
          ap (λ i. has_other stamp (mux_at (slice_set grown mux new) i) r k) (sym here.1)
          ∙ ap (λ (s : MuxSets). has_other stamp s r k) (get_or-set_same grown mux new no_mux (omega arith))
          ∙ put r k
          ∙ ap (λ (s : MuxSets). (k == round && not (row == r)) || has_other stamp s r k)
          (grown_at muxes grown mux rounds room same is ∙ ap (mux_at muxes) here.1)
          ∙ sym (ap
          (λ t. (k == round && (t && not (row == r))) || has_other stamp (mux_at muxes m) r k) here.0)
      | inr away ↦
          ap (λ (s : MuxSets). has_other stamp s r k)
          (get_or-set_other grown mux m new no_mux (λ e. away.1 (sym e)) ∙ same m)
          ∙ sym (or_nothing (k == round) (has_other stamp (mux_at muxes m) r k))
          ∙ sym (ap
          (λ t. (k == round && (t && not (row == r))) || has_other stamp (mux_at muxes m) r k) away.0)
    ]
  where
    or_nothing : (e b : Bool) → ((e && false) || b) ≡ b
    or_nothing true b = refl
    or_nothing false b = refl

-- ---- one row more of a list

pub add_step : {A : Type 0} (p : A → Bool) (xs : List A) (i : ℕ) (d : A) (e old current now : Bool)
    → i < length xs
    → current ≡ ((e && list_any p (take i xs)) || old) → now ≡ ((e && p (get_or xs i d)) || current)
    → now ≡ ((e && list_any p (take (i + 1) xs)) || old)
add_step p xs i d e old current now within so_far here =
    here
    ∙ ap (λ t. (e && p (get_or xs i d)) || t) so_far
    ∙ turned e (list_any p (take i xs)) (p (get_or xs i d)) old
    ∙ ap (λ t. (e && t) || old) (sym (list_any_more p xs i d within))
  where
    turned : (e a b c : Bool) → ((e && b) || ((e && a) || c)) ≡ ((e && (a || b)) || c)
    turned true true true c = refl
    turned true true false c = refl
    turned true false b c = refl
    turned false a b c = refl

-- the word of a mux, as a function sees it
pub place_in : (stamp mux row k : ℕ) (muxes : List MuxSets) (now : StampedRows) (rounds : MuxSets) (b : Bool)
    → mux < length muxes → record { stamp = stamp; muxes = muxes } ≡ now → rounds ≡ get_or muxes mux rounds
    → b ≡ has_other stamp rounds row k → b ≡ has_other now.stamp (mux_at now.muxes mux) row k
place_in stamp mux row k muxes now rounds b within is value here =
    here
    ∙ ap (λ (s : MuxSets). has_other stamp s row k) (value ∙ get_or_default muxes mux rounds no_mux within)
    ∙ ap (λ (t : StampedRows). has_other t.stamp (mux_at t.muxes mux) row k) is

-- ---- the first open round

-- all of 64 rounds more
pub full_word : (p : ℕ → Bool) (word w j : ℕ) → ((i : ℕ) → i < 64 * w → p i ≡ true)
    → ((i : ℕ) → i < 64 → (bit_at word i == 1) ≡ p (64 * w + i)) → ((i : ℕ) → i < 64 → bit_at word i ≡ 1)
    → j < 64 * (w + 1) → p j ≡ true
full_word p word w j before told full below =
    elim (cases_lt j (64 * w)) [
      | inl first ↦ before j first
      | inr past ↦
          let i : ℕ = j - 64 * w in
          let low : i < 64 = omega arith in
          let at : j ≡ 64 * w + i = omega arith in
          ap p at ∙ sym (told i low) ∙ ap (λ n. n == 1) (full i low)
    ]

pub open_before : (p : ℕ → Bool) (word w k rounds result j : ℕ) → ((i : ℕ) → i < 64 * w → p i ≡ true)
    → ((i : ℕ) → i < 64 → (bit_at word i == 1) ≡ p (64 * w + i))
    → (k < 64) × (bit_at word k ≡ 0) × ((i : ℕ) → i < k → bit_at word i ≡ 1)
    → result ≡ min (64 * w + k) rounds → j < result → p j ≡ true
open_before p word w k rounds result j before told first is below =
    elim (cases_lt j (64 * w)) [
      | inl early ↦ before j early
      | inr past ↦
          let i : ℕ = j - 64 * w in
          let within : i < k = omega arith in
          let low : i < 64 = omega (arith, first.0) in
          let at : j ≡ 64 * w + i = omega arith in
          ap p at ∙ sym (told i low) ∙ ap (λ n. n == 1) (first.2 i within)
    ]

pub open_at : (p : ℕ → Bool) (word w k rounds result : ℕ)
    → ((i : ℕ) → i < 64 → (bit_at word i == 1) ≡ p (64 * w + i))
    → (k < 64) × (bit_at word k ≡ 0) × ((i : ℕ) → i < k → bit_at word i ≡ 1)
    → result ≡ min (64 * w + k) rounds → result < rounds → p result ≡ false
open_at p word w k rounds result told first is inside =
    let at : result ≡ 64 * w + k = omega arith in
    ap p at ∙ sym (told k first.0) ∙ ap (λ n. n == 1) first.1

pub all_before : (p : ℕ → Bool) (rounds words w j : ℕ) → ((i : ℕ) → i < 64 * w → p i ≡ true)
    → words ≡ div_ceil rounds 64 → words ≤ w → j < rounds → p j ≡ true
all_before p rounds words w j before is past below = before j (omega arith)
