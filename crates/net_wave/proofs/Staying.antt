-- Values that stay from one clock to the next.
use Rattle.std.proofs.Common.{◌≡◌, ℕ, Bool, true, false, not, List, [], ◌∷◌, ◌<◌, get_or, length, refl, ap}
use Rattle.std.proofs.Common.{sym, ◌∙◌, subst, arith}
use Rattle.std.specs.Prelude.{◌==◌, ◌||◌, ◌&&◌}
use Rattle.std.proofs.lemmas.Bool.Decides.{nat_tests}
use Rattle.std.proofs.lemmas.List.{get_or-map}
use Rattle.ij_bits.specs.BitLists.{same_bit}
use Rattle.instruments.specs.declared.Counts.{Counts}
use Rattle.instruments.specs.OnNetwork.{Running}
use Rattle.instruments.specs.Seen.{SeenModel}
use Rattle.net_graph.specs.Signals.{Holds}
use Rattle.net_bench.specs.Bench.{Chip, State, begin_clock, capture_bits, clock, dr_bits, end_clock, put_dr}
use Rattle.net_bench.specs.Bench.{run_from}
use Rattle.net_bench.specs.Bench.{select_of, tdo, update_dr}
use Rattle.net_bench.specs.Instruction.{Selected, Network, Identity, Bypass}
use Rattle.net_graph.specs.Chain.{shift}
use Rattle.report.specs.Registers.{digit}
use Rattle.tap_machine.specs.declared.Pins.{Pins}
use Rattle.tap_machine.specs.declared.TapState.{TapState}
use Rattle.tap_machine.specs.declared.TapState.TheVariants.{TestLogicReset, RunTestIdle, CaptureDr, ShiftDr}
use Rattle.tap_machine.specs.declared.TapState.TheVariants.{UpdateDr, CaptureIr, ShiftIr, UpdateIr}
use Rattle.tap_machine.specs.Tap.{next}
use Rattle.net_wave.specs.declared.shown.Shown.{Shown}
use Rattle.net_wave.specs.declared.var.Var.{Var}
use Rattle.net_wave.specs.declared.var.Var.TheVariants.{Tms, Tdi, Tdo, Expect, Differs, Tap, Instruction}
use Rattle.net_wave.specs.declared.var.Var.TheVariants.{Scan, Bit, Update, Shift, OnPath, Row, Input, Output}
use Rattle.net_wave.specs.declared.var.Var.TheVariants.{Word}
use Rattle.net_wave.specs.Changes.{WasTold, is_idle, changes_instruction, may_change, has_instrument_event}
use Rattle.net_wave.specs.Changes.{changes_shift_stages, shown_at, changes_update_stages}
use Rattle.net_wave.specs.Values.{differs, expect_digit, number_digits, tap_code, value, values}

-- ---- tests that find nothing new

same_bits : (a b : Bool) → not (same_bit a b) ≡ false → b ≡ a
same_bits true true e = refl
same_bits true false e = absurd (cc)
same_bits false true e = absurd (cc)
same_bits false false e = refl

same_numbers : (n m : ℕ) → not (n == m) ≡ false → m ≡ n
same_numbers n m e = cases (n == m) refl e
  where
    cases : (b : Bool) → (n == m) ≡ b → not b ≡ false → m ≡ n
    cases true is e = grind (arith, nat_tests)
    cases false is e = absurd (cc)

either_false : (a b : Bool) → (a || b) ≡ false → (a ≡ false)
either_false true b e = absurd (cc)
either_false false b e = refl

-- ---- what a clock leaves as it is

module _ (chip : Chip Counts) where
  put_holds : (x : Selected) (bits : List Bool) (s : State Counts) → (put_dr chip x bits s).holds ≡ s.holds
  put_holds Network bits s = refl
  put_holds Identity bits s = refl
  put_holds Bypass bits s = refl

  put_ir : (x : Selected) (bits : List Bool) (s : State Counts) → (put_dr chip x bits s).ir_hold ≡ s.ir_hold
  put_ir Network bits s = refl
  put_ir Identity bits s = refl
  put_ir Bypass bits s = refl

  put_insts : (x : Selected) (bits : List Bool) (s : State Counts) → (put_dr chip x bits s).insts ≡ s.insts
  put_insts Network bits s = refl
  put_insts Identity bits s = refl
  put_insts Bypass bits s = refl

  act_holds : (tap : TapState) (tdi : Bool) (s : State Counts) → (begin_clock chip tap tdi s).holds ≡ s.holds
  act_holds CaptureDr tdi s = put_holds (select_of chip s) (capture_bits chip (select_of chip s) s) s
  act_holds ShiftDr tdi s = put_holds (select_of chip s) (shift (dr_bits chip (select_of chip s) s) tdi) s
  act_holds CaptureIr tdi s = refl
  act_holds ShiftIr tdi s = refl
  act_holds _ tdi s = refl

  act_ir : (tap : TapState) (tdi : Bool) (s : State Counts) → (begin_clock chip tap tdi s).ir_hold ≡ s.ir_hold
  act_ir CaptureDr tdi s = put_ir (select_of chip s) (capture_bits chip (select_of chip s) s) s
  act_ir ShiftDr tdi s = put_ir (select_of chip s) (shift (dr_bits chip (select_of chip s) s) tdi) s
  act_ir CaptureIr tdi s = refl
  act_ir ShiftIr tdi s = refl
  act_ir _ tdi s = refl

  act_insts : (tap : TapState) (tdi : Bool) (s : State Counts) → (begin_clock chip tap tdi s).insts ≡ s.insts
  act_insts CaptureDr tdi s = put_insts (select_of chip s) (capture_bits chip (select_of chip s) s) s
  act_insts ShiftDr tdi s = put_insts (select_of chip s) (shift (dr_bits chip (select_of chip s) s) tdi) s
  act_insts CaptureIr tdi s = refl
  act_insts ShiftIr tdi s = refl
  act_insts _ tdi s = refl

  act_stages : (tap : TapState) (tdi : Bool) (s : State Counts) → changes_shift_stages tap ≡ false
      → (begin_clock chip tap tdi s).stages ≡ s.stages
  act_stages CaptureDr tdi s e = absurd (cc)
  act_stages ShiftDr tdi s e = absurd (cc)
  act_stages CaptureIr tdi s e = refl
  act_stages ShiftIr tdi s e = refl
  act_stages _ tdi s e = refl

  update_tap : (x : Selected) (s : State Counts) → (update_dr chip x s).tap ≡ s.tap
  update_tap Network s = refl
  update_tap Identity s = refl
  update_tap Bypass s = refl

  update_ir : (x : Selected) (s : State Counts) → (update_dr chip x s).ir_hold ≡ s.ir_hold
  update_ir Network s = refl
  update_ir Identity s = refl
  update_ir Bypass s = refl

  update_stages : (x : Selected) (s : State Counts) → (update_dr chip x s).stages ≡ s.stages
  update_stages Network s = refl
  update_stages Identity s = refl
  update_stages Bypass s = refl

  run_tap : (before : TapState) (s : State Counts) → (run_from chip before s).tap ≡ s.tap
  run_tap RunTestIdle s = refl
  run_tap _ s = refl

  run_holds : (before : TapState) (s : State Counts) → (run_from chip before s).holds ≡ s.holds
  run_holds RunTestIdle s = refl
  run_holds _ s = refl

  run_ir : (before : TapState) (s : State Counts) → (run_from chip before s).ir_hold ≡ s.ir_hold
  run_ir RunTestIdle s = refl
  run_ir _ s = refl

  run_stages : (before : TapState) (s : State Counts) → (run_from chip before s).stages ≡ s.stages
  run_stages RunTestIdle s = refl
  run_stages _ s = refl

  run_insts : (before : TapState) (s : State Counts) → is_idle before ≡ false
      → (run_from chip before s).insts ≡ s.insts
  run_insts RunTestIdle s e = absurd (cc)
  run_insts _ s e = refl

  enter_tap : (before after : TapState) (s : State Counts) → (end_clock chip before after s).tap ≡ s.tap
  enter_tap before UpdateIr s = refl
  enter_tap before UpdateDr s = update_tap (select_of chip s) s
  enter_tap before TestLogicReset s = refl
  enter_tap before RunTestIdle s = run_tap before s
  enter_tap before _ s = refl

  enter_holds : (before after : TapState) (s : State Counts) → changes_update_stages after ≡ false
      → (end_clock chip before after s).holds ≡ s.holds
  enter_holds before UpdateIr s e = refl
  enter_holds before UpdateDr s e = absurd (cc)
  enter_holds before TestLogicReset s e = absurd (cc)
  enter_holds before RunTestIdle s e = run_holds before s
  enter_holds before _ s e = refl

  enter_ir : (before after : TapState) (s : State Counts) → changes_instruction after ≡ false
      → (end_clock chip before after s).ir_hold ≡ s.ir_hold
  enter_ir before UpdateIr s e = absurd (cc)
  enter_ir before UpdateDr s e = update_ir (select_of chip s) s
  enter_ir before TestLogicReset s e = absurd (cc)
  enter_ir before RunTestIdle s e = run_ir before s
  enter_ir before _ s e = refl

  enter_stages : (before after : TapState) (s : State Counts) → (end_clock chip before after s).stages ≡
      s.stages
  enter_stages before UpdateIr s = refl
  enter_stages before UpdateDr s = update_stages (select_of chip s) s
  enter_stages before TestLogicReset s = refl
  enter_stages before RunTestIdle s = run_stages before s
  enter_stages before _ s = refl

  -- instruments that have no event
  idle_insts : (before : TapState) (s : State Counts) → (is_idle before && true) ≡ false
      → (run_from chip before s).insts ≡ s.insts
  idle_insts RunTestIdle s e = absurd (cc)
  idle_insts _ s e = refl

  enter_insts : (before after : TapState) (s : State Counts) → has_instrument_event before after ≡ false
      → (end_clock chip before after s).insts ≡ s.insts
  enter_insts before UpdateIr s e = refl
  enter_insts before UpdateDr s e = absurd (cc)
  enter_insts before TestLogicReset s e = absurd (cc)
  enter_insts before RunTestIdle s e = idle_insts before s e
  enter_insts before _ s e = refl

  module _ (tms tdi : Bool) (s : State Counts) where
    abbrev t : State Counts
    t = clock chip tms tdi s

    abbrev mid : State Counts
    mid = record (begin_clock chip s.tap tdi s) { tap = next s.tap tms }

    tap_is : t.tap ≡ next s.tap tms
    unfolding clock
    tap_is = enter_tap s.tap (next s.tap tms) mid

    pub holds_stay : changes_update_stages t.tap ≡ false → t.holds ≡ s.holds
    unfolding clock
    holds_stay e = enter_holds s.tap (next s.tap tms) mid
        (sym (ap changes_update_stages tap_is) ∙ e) ∙ act_holds s.tap tdi s

    pub ir_stays : changes_instruction t.tap ≡ false → t.ir_hold ≡ s.ir_hold
    unfolding clock
    ir_stays e = enter_ir s.tap (next s.tap tms) mid (sym (ap changes_instruction tap_is) ∙ e) ∙ act_ir
        s.tap tdi s

    pub insts_stay : has_instrument_event s.tap t.tap ≡ false → t.insts ≡ s.insts
    unfolding clock
    insts_stay e = enter_insts s.tap (next s.tap tms) mid
        (sym (ap (has_instrument_event s.tap) tap_is) ∙ e) ∙ act_insts s.tap tdi s

    pub stages_stay : changes_shift_stages s.tap ≡ false → t.stages ≡ s.stages
    unfolding clock
    stages_stay e = enter_stages s.tap (next s.tap tms) mid ∙ act_stages s.tap tdi s e

  -- ---- values

  module _ (models : List SeenModel) (q p : Pins) (s : State Counts) where
    abbrev after : State Counts
    after = clock chip q.tms q.tdi s

    -- a variable that can't have changed has the value of the clock before
    pub value_stays : (v : Var) → may_change (shown_at chip q s) (shown_at chip p after) v ≡ false
        → value chip models v p after ≡ value chip models v q s
    value_stays Tms e = ap (λ (b : Bool). digit b ∷ []) (same_bits q.tms p.tms e)
    value_stays Tdi e = ap (λ (b : Bool). digit b ∷ []) (same_bits q.tdi p.tdi e)
    value_stays Tdo e = ap (λ (b : Bool). digit b ∷ []) (same_bits (tdo chip s) (tdo chip after) e)
    value_stays Expect e =
        ap (λ (n : ℕ). n ∷ []) (same_numbers (expect_digit q.expect) (expect_digit p.expect) e)
    value_stays Differs e =
        ap (λ (b : Bool). digit b ∷ [])
        (same_bits (differs q.expect (tdo chip s)) (differs p.expect (tdo chip after)) e)
    value_stays Tap e = ap (number_digits 4) (same_numbers (tap_code s.tap) (tap_code after.tap) e)
    value_stays Instruction e = ap (λ (bits : List Bool). value chip models Instruction q
        (record s { ir_hold = bits })) (ir_stays q.tms q.tdi s e)
    value_stays Scan e = ap (number_digits 32) (same_numbers q.scan p.scan e)
    value_stays Bit e = ap (number_digits 16) (same_numbers q.bit p.bit e)
    value_stays (Update r) e = ap
        (λ (h : Holds). value chip models (Update r) q (record s { holds = h })) (holds_stay q.tms q.tdi s e)
    value_stays (Shift r) e = ap (λ (h : Holds). value chip models (Shift r) q (record s { stages = h }))
        (stages_stay q.tms q.tdi s e)
    value_stays (OnPath r) e = ap
        (λ (h : Holds). value chip models (OnPath r) q (record s { holds = h })) (holds_stay q.tms q.tdi s e)
    value_stays (Row m) e =
        ap (λ (h : Holds). value chip models (Row m) q (record s { holds = h })) (holds_stay q.tms q.tdi s e)
    value_stays (Input i n) e =
        ap (λ (h : Holds). value chip models (Input i n) q (record after { holds = h })) (holds_stay q.tms
        q.tdi s (either_false (changes_update_stages after.tap) (is_idle s.tap && is_idle after.tap) e))
        ∙ ap (λ (x : List (Running Counts)). value chip models (Input i n) q (record s { insts = x }))
        (insts_stay q.tms q.tdi s e)
    value_stays (Output i n) e = ap (λ (x : List (Running Counts)). value chip models (Output i n) q
        (record s { insts = x })) (insts_stay q.tms q.tdi s e)
    value_stays (Word i w) e = ap (λ (x : List (Running Counts)). value chip models (Word i w) q
        (record s { insts = x })) (insts_stay q.tms q.tdi s e)

  -- what was told of a variable that can't have changed is its value now
  pub told_stays : (models : List SeenModel) (vars : List Var) (told : List (List ℕ)) (last : Shown)
      (p : Pins) (s : State Counts) (k : ℕ) (d : Var) → WasTold chip models vars told last s → k < length vars
      → may_change last (shown_at chip p s) (get_or vars k d) ≡ false
      → get_or told k [] ≡ get_or (values chip models vars p s) k []
  told_stays models vars told last p s k d was h e =
      let v = get_or vars k d in
      let q = last.pins in
      let b = was.before in
      let one : may_change (shown_at chip q b) (shown_at chip p s) v
      ≡ false = subst (λ (x : Shown). may_change x (shown_at chip p s) v ≡ false) was.shown e in
      let two : may_change (shown_at chip q b) (shown_at chip p (clock chip q.tms q.tdi b)) v ≡ false = subst
      (λ (x : State Counts). may_change (shown_at chip q b) (shown_at chip p x) v ≡ false) was.next one in
      ap (λ (l : List (List ℕ)). get_or l k []) was.all
      ∙ get_or-map (λ (x : Var). value chip models x q b) vars k d [] h
      ∙ sym (value_stays models q p b v two)
      ∙ ap (λ (x : State Counts). value chip models v p x) (sym was.next)
      ∙ sym (get_or-map (λ (x : Var). value chip models x p s) vars k d [] h)
