-- While a scan is shifted, update stages and the instruction stay.
use Rattle.std.proofs.Common.{◌≡◌, ℕ, suc, ◌<◌, Bool, true, false, Option, List, [], ◌∷◌, ◌++◌, length, drop}
use Rattle.std.proofs.Common.{map, refl, ap, sym, ◌∙◌, subst, arith}
use Rattle.instruments.specs.declared.Counts.{Counts}
use Rattle.tap_machine.specs.declared.TapState.{TapState}
use Rattle.tap_machine.specs.declared.TapState.TheVariants.{RunTestIdle, SelectDrScan, CaptureDr, ShiftDr}
use Rattle.tap_machine.specs.declared.TapState.TheVariants.{Exit1Dr, SelectIrScan, CaptureIr, ShiftIr}
use Rattle.tap_machine.specs.declared.TapState.TheVariants.{Exit1Ir}
use Rattle.tap_machine.specs.Tap.{next}
use Rattle.tap_machine.specs.Play.{no_shift, shifts}
use Rattle.net_bench.specs.Bench.{Chip, State, begin_clock, capture_bits, clock, dr_bits, end_clock, put_dr}
use Rattle.net_bench.specs.Bench.{select_of}
use Rattle.net_bench.specs.Instruction.{Selected, Network, Identity, Bypass}
use Rattle.net_bench.specs.Playing.{after_pins}
use Rattle.net_graph.specs.Chain.{shift}
use Rattle.svf_notes.specs.Scans.{scans_of}
use Rattle.svf_notes.specs.Laws.{IsScanOf, ScansKeepTheirPath}
use Rattle.svf_notes.proofs.Compared.{quiet_map, quiet_scans, shifted_bits, shifts_scan}

-- the controller moves on, and nothing is updated
pub record Moved (s t : State Counts) (tap : TapState) : Type 0 where
  pub tap_is : t.tap ≡ tap
  pub holds : t.holds ≡ s.holds
  pub instruction : t.ir_hold ≡ s.ir_hold

pub moved_on : (s t u : State Counts) (a b : TapState) → Moved s t a → Moved t u b → Moved s u b
moved_on s t u a b one two =
    record {
      tap_is = two.tap_is;
      holds = two.holds ∙ one.holds;
      instruction = two.instruction ∙ one.instruction;
    }

module _ (chip : Chip Counts) where
  put_holds : (sel : Selected) (bits : List Bool) (s : State Counts)
      → (put_dr chip sel bits s).holds ≡ s.holds
  put_holds Network bits s = refl
  put_holds Identity bits s = refl
  put_holds Bypass bits s = refl

  put_instruction : (sel : Selected) (bits : List Bool) (s : State Counts)
      → (put_dr chip sel bits s).ir_hold ≡ s.ir_hold
  put_instruction Network bits s = refl
  put_instruction Identity bits s = refl
  put_instruction Bypass bits s = refl

  -- a clock, by the state of the controller in which it comes
  abbrev pub clock_in : TapState → Bool → Bool → State Counts → State Counts
  clock_in tap tms tdi s = end_clock chip tap (next tap tms) (record (begin_clock chip tap tdi s) {
    tap =
        next tap tms;
  })

  clock_is : (tap : TapState) (tms tdi : Bool) (s : State Counts) → s.tap ≡ tap
      → clock chip tms tdi s ≡ clock_in tap tms tdi s
  unfolding clock
  clock_is tap tms tdi s e = ap (λ (t : TapState). clock_in t tms tdi s) e

  pub moves : (tap : TapState) (tms tdi : Bool) (s : State Counts) (b : TapState) → s.tap ≡ tap
      → Moved s (clock_in tap tms tdi s) b → Moved s (clock chip tms tdi s) b
  moves tap tms tdi s b e m = subst (λ (t : State Counts). Moved s t b) (sym (clock_is tap tms tdi s e)) m

  to_select : (s : State Counts) → s.tap ≡ RunTestIdle → Moved s (clock chip true false s) SelectDrScan
  to_select s e = moves RunTestIdle true false s SelectDrScan e
      (record { tap_is = refl; holds = refl; instruction = refl })

  to_capture : (s : State Counts) → s.tap ≡ SelectDrScan → Moved s (clock chip false false s) CaptureDr
  to_capture s e = moves SelectDrScan false false s CaptureDr e
      (record { tap_is = refl; holds = refl; instruction = refl })

  to_shift : (s : State Counts) → s.tap ≡ CaptureDr → Moved s (clock chip false false s) ShiftDr
  to_shift s e =
      let sel = select_of chip s in
      let bits = capture_bits chip sel s in
      moves CaptureDr false false s ShiftDr e
      (record { tap_is = refl; holds = put_holds sel bits s; instruction = put_instruction sel bits s })

  to_select_ir : (s : State Counts) → s.tap ≡ SelectDrScan → Moved s (clock chip true false s) SelectIrScan
  to_select_ir s e = moves SelectDrScan true false s SelectIrScan e
      (record { tap_is = refl; holds = refl; instruction = refl })

  to_capture_ir : (s : State Counts) → s.tap ≡ SelectIrScan → Moved s (clock chip false false s) CaptureIr
  to_capture_ir s e = moves SelectIrScan false false s CaptureIr e
      (record { tap_is = refl; holds = refl; instruction = refl })

  to_shift_ir : (s : State Counts) → s.tap ≡ CaptureIr → Moved s (clock chip false false s) ShiftIr
  to_shift_ir s e = moves CaptureIr false false s ShiftIr e
      (record { tap_is = refl; holds = refl; instruction = refl })

  pub shift_on : (tdi : Bool) (s : State Counts) → s.tap ≡ ShiftDr → Moved s (clock chip false tdi s) ShiftDr
  shift_on tdi s e =
      let sel = select_of chip s in
      let bits = shift (dr_bits chip sel s) tdi in
      moves ShiftDr false tdi s ShiftDr e
      (record { tap_is = refl; holds = put_holds sel bits s; instruction = put_instruction sel bits s })

  pub shift_off : (tdi : Bool) (s : State Counts) → s.tap ≡ ShiftDr → Moved s (clock chip true tdi s) Exit1Dr
  shift_off tdi s e =
      let sel = select_of chip s in
      let bits = shift (dr_bits chip sel s) tdi in
      moves ShiftDr true tdi s Exit1Dr e
      (record { tap_is = refl; holds = put_holds sel bits s; instruction = put_instruction sel bits s })

  pub shift_on_ir : (tdi : Bool) (s : State Counts) → s.tap ≡ ShiftIr
      → Moved s (clock chip false tdi s) ShiftIr
  shift_on_ir tdi s e =
      moves ShiftIr false tdi s ShiftIr e (record { tap_is = refl; holds = refl; instruction = refl })

  pub shift_off_ir : (tdi : Bool) (s : State Counts) → s.tap ≡ ShiftIr
      → Moved s (clock chip true tdi s) Exit1Ir
  shift_off_ir tdi s e =
      moves ShiftIr true tdi s Exit1Ir e (record { tap_is = refl; holds = refl; instruction = refl })

  -- ---- the shift clocks of one scan

  module _ (in_shift out : TapState) (on : (tdi : Bool) (s : State Counts) → s.tap ≡ in_shift
      → Moved s (clock chip false tdi s) in_shift) (off : (tdi : Bool) (s : State Counts) → s.tap ≡ in_shift
      → Moved s (clock chip true tdi s) out) where
    pub shifts_move : (n k : ℕ) (t : Bool) (ts : List Bool) (es : List (Option Bool)) (s : State Counts)
        → s.tap ≡ in_shift → Moved s (after_pins chip (shifts n k (t ∷ ts) es) s) out
    shifts_move n k t [] es s e = off t s e
    shifts_move n k t (u ∷ us) es s e =
        let one = on t s e in
        let after = clock chip false t s in
        moved_on s after (after_pins chip (shifts n (suc k) (u ∷ us) (drop 1 es)) after) in_shift out one
        (shifts_move n (suc k) u us (drop 1 es) after one.tap_is)

    written : (ts : List Bool) (es : List (Option Bool)) (s : State Counts)
        → map (λ b. b.tdi) (shifted_bits chip ts es s) ≡ ts
    written [] es s = refl
    written (t ∷ []) es s = refl
    written (t ∷ (u ∷ us)) es s =
        ap (λ (l : List Bool). t ∷ l) (written (u ∷ us) (drop 1 es) (clock chip false t s))

    scan_is : (front : List Bool) (n : ℕ) (ts : List Bool) (es : List (Option Bool)) (s : State Counts)
        → 0 < length ts → Moved s (after_pins chip (map no_shift front) s) in_shift
        → IsScanOf (scans_of chip (map no_shift front
        ++ (shifts (suc n) 0 ts es ++ map no_shift (true ∷ false ∷ []))) s) (suc n) ts out s
    scan_is front n [] es s some begun = absurd (omega arith)
    scan_is front n (t ∷ ts) es s some begun =
        let first = after_pins chip (map no_shift front) s in
        let end = after_pins chip (shifts (suc n) 0 (t ∷ ts) es) first in
        let last = map no_shift (true ∷ false ∷ []) in
        let all = moved_on s first end in_shift out begun
        (shifts_move (suc n) 0 t ts es first begun.tap_is) in
        record {
          scan = record { number = suc n; bits = shifted_bits chip (t ∷ ts) es first; state = end };
          one = quiet_scans chip (map no_shift front) (shifts (suc n) 0 (t ∷ ts) es ++ last) s
              (quiet_map front) ∙ shifts_scan chip n 0 t ts es last first;
          number = refl;
          written = written (t ∷ ts) es first;
          tap_is = all.tap_is;
          holds = all.holds;
          instruction = all.instruction;
        }

  pub to_dr : (s : State Counts) → s.tap ≡ RunTestIdle
      → Moved s (after_pins chip (map no_shift (true ∷ false ∷ false ∷ [])) s) ShiftDr
  to_dr s e =
      let a = clock chip true false s in
      let b = clock chip false false a in
      let c = clock chip false false b in
      let one = to_select s e in
      let two = moved_on s a b SelectDrScan CaptureDr one (to_capture a one.tap_is) in
      moved_on s b c CaptureDr ShiftDr two (to_shift b two.tap_is)

  pub to_ir : (s : State Counts) → s.tap ≡ RunTestIdle
      → Moved s (after_pins chip (map no_shift (true ∷ true ∷ false ∷ false ∷ [])) s) ShiftIr
  to_ir s e =
      let a = clock chip true false s in
      let b = clock chip true false a in
      let c = clock chip false false b in
      let d = clock chip false false c in
      let one = to_select s e in
      let two = moved_on s a b SelectDrScan SelectIrScan one (to_select_ir a one.tap_is) in
      let three = moved_on s b c SelectIrScan CaptureIr two (to_capture_ir b two.tap_is) in
      moved_on s c d CaptureIr ShiftIr three (to_shift_ir c three.tap_is)

pub scans_keep_their_path : ScansKeepTheirPath
scans_keep_their_path chip n p s e some = (
  scan_is chip ShiftDr Exit1Dr (shift_on chip) (shift_off chip)
      (true ∷ false ∷ false ∷ []) n p.tdi p.expects s some (to_dr chip s e),
  scan_is chip ShiftIr Exit1Ir (shift_on_ir chip) (shift_off_ir chip)
      (true ∷ true ∷ false ∷ false ∷ []) n p.tdi p.expects s some (to_ir chip s e),
)
