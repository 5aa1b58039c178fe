-- Each value has as many digits as its variable is declared with.
use Rattle.std.proofs.Common.{◌≡◌, ℕ, zero, suc, ◌==◌, Bool, true, false, cond, Option, Some, None, List, []}
use Rattle.std.proofs.Common.{◌∷◌, length, map, get_or, refl, ap, sym, ◌∙◌, arith, length-append}
use Rattle.std.proofs.lemmas.List.{length-replicate}
use Rattle.std.proofs.lemmas.Bool.Decides.{nat_tests}
use Rattle.bench_report.specs.Report.{chip}
use Rattle.ij_bits.proofs.WordBits.{length-bits_of}
use Rattle.instruments.specs.declared.Counts.{Counts}
use Rattle.instruments.specs.Seen.{SeenModel}
use Rattle.net_bench.specs.Bench.{Chip, State, begin_clock, capture_bits, clock, dr_bits, end_clock}
use Rattle.net_bench.specs.Bench.{power_up, put_dr}
use Rattle.net_bench.specs.Bench.{run_from, select_of, update_dr}
use Rattle.net_bench.specs.Instruction.{Selected, Network, Identity, Bypass, reset_instruction}
use Rattle.net_bench.specs.Playing.{after_pins}
use Rattle.net_bench.specs.Laws.{IsShaped}
use Rattle.net_bench.proofs.PublicLaws.{is_shaped_first, stays_shaped}
use Rattle.net_bench.proofs.Wide.{captures_wide}
use Rattle.net_graph.specs.Chain.{shift}
use Rattle.net_graph.specs.declared.device.Device.{Device}
use Rattle.net_graph.specs.declared.net.Net.{Net}
use Rattle.net_graph.specs.Named.{width_of}
use Rattle.net_graph.specs.Signals.{Holds, bits_at}
use Rattle.net_graph.proofs.Shapes.{capture_widths, length_at, widths}
use Rattle.tap_machine.specs.declared.Pins.{Pins}
use Rattle.tap_machine.specs.declared.TapState.{TapState}
use Rattle.tap_machine.specs.declared.TapState.TheVariants.{TestLogicReset, RunTestIdle, CaptureDr, ShiftDr}
use Rattle.tap_machine.specs.declared.TapState.TheVariants.{UpdateDr, UpdateIr}
use Rattle.tap_machine.specs.Tap.{next}
use Rattle.net_wave.specs.declared.var.Var.{Var}
use Rattle.net_wave.specs.declared.var.Var.TheVariants.{Tms, Tdi, Tdo, Expect, Differs, Tap, Instruction}
use Rattle.net_wave.specs.declared.var.Var.TheVariants.{Scan, Bit, Update, Shift, OnPath, Row, Input, Output}
use Rattle.net_wave.specs.declared.var.Var.TheVariants.{Word}
use Rattle.net_wave.specs.Header.{one_bit, ranged, shape, shape_if_wide}
use Rattle.net_wave.specs.Values.{digits, is_odd_at, row_digits, tap_code, unknown, value}
use Rattle.net_wave.specs.Widths.{WidthsAgree}

-- ---- digits

digits_long : (at : ℕ → Bool) (n : ℕ) → length (digits at n) ≡ n
digits_long at zero = refl
digits_long at (suc n) = ap suc (digits_long at n)

unknown_long : (n : ℕ) → length (unknown n) ≡ n
unknown_long zero = refl
unknown_long (suc n) = omega (arith, length-append (unknown n) (120 ∷ []), unknown_long n)

row_long : (width : ℕ) (q : Option ℕ) → length (row_digits width q) ≡ width
row_long width None = unknown_long width
row_long width (Some q) = digits_long _ width

-- one bit has no range, and is as wide all the same
pub wide_is : (width : ℕ) → (shape_if_wide width).width ≡ width
wide_is width = by (width == 1) refl
  where
    by : (b : Bool) → (width == 1) ≡ b → (cond b one_bit (ranged width)).width ≡ width
    by true e = let one : width ≡ 1 = grind (arith, nat_tests) in sym one
    by false e = refl

-- ---- what the instruction register holds

reset_long : (device : Device) → length (reset_instruction device) ≡ device.ir
reset_long device = by device.idcode
  where
    by : (id : Option (ℕ × ℕ)) → length (reset_instruction (record device { idcode = id })) ≡ device.ir
    by None = length-replicate device.ir true
    by (Some id) = length-bits_of device.ir id.1

module _ (c : Chip Counts) where
  put_held : (z : Selected) (bits : List Bool) (s : State Counts) → (put_dr c z bits s).ir_hold ≡ s.ir_hold
  put_held Network bits s = refl
  put_held Identity bits s = refl
  put_held Bypass bits s = refl

  act_held : (t : TapState) (tdi : Bool) (s : State Counts) → (begin_clock c t tdi s).ir_hold ≡ s.ir_hold
  act_held CaptureDr tdi s = put_held (select_of c s) (capture_bits c (select_of c s) s) s
  act_held ShiftDr tdi s = put_held (select_of c s) (shift (dr_bits c (select_of c s) s) tdi) s
  act_held _ tdi s = refl

  update_held : (z : Selected) (s : State Counts) → (update_dr c z s).ir_hold ≡ s.ir_hold
  update_held Network s = refl
  update_held Identity s = refl
  update_held Bypass s = refl

  run_held : (before : TapState) (s : State Counts) → (run_from c before s).ir_hold ≡ s.ir_hold
  run_held RunTestIdle s = refl
  run_held _ s = refl

  -- where the instruction register is taken over, what it holds is what is in its stage
  enter_held : (before after : TapState) (s : State Counts)
      → length (end_clock c before after s).ir_stage ≡ c.device.ir → length s.ir_hold ≡ c.device.ir
      → length (end_clock c before after s).ir_hold ≡ c.device.ir
  enter_held before UpdateIr s stage hold = stage
  enter_held before UpdateDr s stage hold = ap length (update_held (select_of c s) s) ∙ hold
  enter_held before TestLogicReset s stage hold = reset_long c.device
  enter_held before RunTestIdle s stage hold = ap length (run_held before s) ∙ hold
  enter_held before _ s stage hold = hold

  -- a register has its bits, and the instruction register its own
  pub record Fits (s : State Counts) : Type 0 where
    pub shaped : IsShaped c s
    pub held : length s.ir_hold ≡ c.device.ir

  clock_held : (tms tdi : Bool) (s : State Counts) → IsShaped c (clock c tms tdi s)
      → length s.ir_hold ≡ c.device.ir → length (clock c tms tdi s).ir_hold ≡ c.device.ir
  unfolding clock
  clock_held tms tdi s after held =
      enter_held s.tap (next s.tap tms) (record (begin_clock c s.tap tdi s) { tap = next s.tap tms }) after.ir
      (ap length (act_held s.tap tdi s) ∙ held)

  pub played_fits : capture_widths c.net ≡ widths c.net
      → (ps : List Pins) (s : State Counts) → Fits s → Fits (after_pins c ps s)
  played_fits shape_if_wide [] s h = h
  played_fits shape_if_wide (p ∷ ps) s h =
      let after = stays_shaped c (p ∷ []) s shape_if_wide h.shaped in
      played_fits shape_if_wide ps (clock c p.tms p.tdi s)
      (record { shaped = after; held = clock_held p.tms p.tdi s after h.held })

  pub begins : Fits (power_up c)
  begins = record { shaped = is_shaped_first c; held = reset_long c.device }

-- ---- values

bits_long : (net : Net) (holds : Holds) (r : ℕ) → map length holds ≡ widths net
    → length (bits_at holds r) ≡ width_of net r
bits_long net holds r h = length_at holds r ∙ ap (λ (ns : List ℕ). get_or ns r 0) h

module _ (net : Net) (device : Device) (models : List SeenModel) where
  abbrev it : Chip Counts
  it = chip net device models

  pub value_long : (v : Var) (p : Pins) (s : State Counts) → Fits it s
      → length (value it models v p s) ≡ (shape net device models v).width
  value_long Tms p s h = refl
  value_long Tdi p s h = refl
  value_long Tdo p s h = refl
  value_long Expect p s h = refl
  value_long Differs p s h = refl
  value_long Tap p s h = digits_long (is_odd_at (tap_code s.tap)) 4
  value_long Instruction p s h = digits_long _ (length s.ir_hold) ∙ h.held
  value_long Scan p s h = digits_long (is_odd_at p.scan) 32
  value_long Bit p s h = digits_long (is_odd_at p.bit) 16
  value_long (Update r) p s h = digits_long _ (length (bits_at s.holds r))
      ∙ bits_long net s.holds r h.shaped.holds
  value_long (Shift r) p s h = digits_long _ (length (bits_at s.stages r))
      ∙ bits_long net s.stages r h.shaped.stages
  value_long (OnPath r) p s h = refl
  value_long (Row m) p s h = row_long _ _
  value_long (Input i n) p s h = digits_long _ _ ∙ sym (wide_is _)
  value_long (Output i n) p s h = digits_long _ _ ∙ sym (wide_is _)
  value_long (Word i w) p s h = digits_long _ _ ∙ sym (wide_is _)

pub widths_agree : WidthsAgree
widths_agree net device models v played p is =
    let it = chip net device models in
    value_long net device models v p (after_pins it played (power_up it))
    (played_fits it (captures_wide net net.regs.items is.regs) played (power_up it) (begins it))
