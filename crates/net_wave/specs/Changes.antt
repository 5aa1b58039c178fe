-- What may change from one clock to the next: at the pins what is there, on the chip what a clock between
-- two states of the TAP controller can move (IEEE 1149.1-2013, clause 6; IEEE 1687-2014, hardware rules:
-- capture, shift, update, reset and instruments).
use Rattle.std.specs.Prelude.{◌≡◌, ◌<◌, ◌≤◌, ℕ, ◌+◌, ◌==◌, ◌||◌, ◌&&◌, not, Bool, true, false, codes, List}
use Rattle.std.specs.Prelude.{[], ◌∷◌, ◌++◌, get_or, length}
use Rattle.std.specs.List.{flat_map}
use Rattle.ij_bits.specs.BitLists.{same_bit}
use Rattle.instruments.specs.declared.Counts.{Counts}
use Rattle.instruments.specs.Seen.{SeenModel}
use Rattle.net_bench.specs.Bench.{Chip, State, clock, tdo}
use Rattle.tap_machine.specs.declared.Pins.{Pins}
use Rattle.tap_machine.specs.declared.TapState.{TapState}
use Rattle.tap_machine.specs.declared.TapState.TheVariants.{TestLogicReset, RunTestIdle, CaptureDr, ShiftDr}
use Rattle.tap_machine.specs.declared.TapState.TheVariants.{UpdateDr, UpdateIr}
use Rattle.net_wave.specs.declared.shown.Shown.{Shown}
use Rattle.net_wave.specs.declared.var.Var.{Var}
use Rattle.net_wave.specs.declared.var.Var.TheVariants.{Tms, Tdi, Tdo, Expect, Differs, Tap, Instruction}
use Rattle.net_wave.specs.declared.var.Var.TheVariants.{Scan, Bit, Update, Shift, OnPath, Row, Input, Output}
use Rattle.net_wave.specs.declared.var.Var.TheVariants.{Word}
use Rattle.report.specs.Registers.{digit}
use Rattle.net_wave.specs.Moments.{Change, change_if, change_text, trimmed}
use Rattle.net_wave.specs.Values.{differs, expect_digit, number_digits, tap_code, values}
use Rattle.net_wave.specs.Vars.{up_to}

-- ---- what a clock moves, by the states in which it begins and ends

abbrev pub changes_shift_stages : TapState → Bool
changes_shift_stages CaptureDr = true
changes_shift_stages ShiftDr = true
changes_shift_stages _ = false

abbrev pub changes_update_stages : TapState → Bool
changes_update_stages UpdateDr = true
changes_update_stages TestLogicReset = true
changes_update_stages _ = false

abbrev pub changes_instruction : TapState → Bool
changes_instruction UpdateIr = true
changes_instruction TestLogicReset = true
changes_instruction _ = false

abbrev pub is_idle : TapState → Bool
is_idle RunTestIdle = true
is_idle _ = false

-- instruments have an event at an update, a reset and a run
abbrev pub has_instrument_event : TapState → TapState → Bool
has_instrument_event before now = changes_update_stages now || (is_idle before && is_idle now)

-- ---- variables

-- what a clock shows at the pins
abbrev pub shown_at : Chip Counts → Pins → State Counts → Shown
shown_at chip p s = record { pins = p; tdo = tdo chip s; tap = s.tap }

-- whether a variable may have another value at a clock than at the one before it
abbrev pub may_change : Shown → Shown → Var → Bool
may_change b n Tms = not (same_bit b.pins.tms n.pins.tms)
may_change b n Tdi = not (same_bit b.pins.tdi n.pins.tdi)
may_change b n Tdo = not (same_bit b.tdo n.tdo)
may_change b n Expect = not (expect_digit b.pins.expect == expect_digit n.pins.expect)
may_change b n Differs = not (same_bit (differs b.pins.expect b.tdo) (differs n.pins.expect n.tdo))
may_change b n Tap = not (tap_code b.tap == tap_code n.tap)
may_change b n Instruction = changes_instruction n.tap
may_change b n Scan = not (b.pins.scan == n.pins.scan)
may_change b n Bit = not (b.pins.bit == n.pins.bit)
may_change b n (Update r) = changes_update_stages n.tap
may_change b n (Shift r) = changes_shift_stages b.tap
may_change b n (OnPath r) = changes_update_stages n.tap
may_change b n (Row m) = changes_update_stages n.tap
may_change b n (Input i p) = has_instrument_event b.tap n.tap
may_change b n (Output i p) = has_instrument_event b.tap n.tap
may_change b n (Word i w) = has_instrument_event b.tap n.tap

abbrev pub is_shift : Var → Bool
is_shift (Shift r) = true
is_shift _ = false

-- the variables from a place on stay from this clock to the next
abbrev pub Stay : Shown → Shown → List Var → ℕ → Type 0
Stay before now vars place = (k : ℕ) → place ≤ k → k < length vars
    → may_change before now (get_or vars k Tms) ≡ false

-- what was written are the values of the clock before, which began in a state with these pins
pub record WasTold (chip : Chip Counts) (models : List SeenModel) (vars : List Var) (told : List (List ℕ))
    (last : Shown) (s : State Counts) : Type 0 where
  pub before : State Counts
  pub all : told ≡ values chip models vars last.pins before
  pub shown : last ≡ shown_at chip last.pins before
  pub next : s ≡ clock chip last.pins.tms last.pins.tdi before

-- ---- the pins, which are the first nine variables, and the others

abbrev pub pin_vars : List Var
pin_vars = Tms ∷ Tdi ∷ Tdo ∷ Expect ∷ Differs ∷ Tap ∷ Instruction ∷ Scan ∷ Bit ∷ []

-- their digits at a clock that shows something, with those of the instruction
abbrev pub pin_digits : Shown → List ℕ → List (List ℕ)
pin_digits s instruction =
    (digit s.pins.tms ∷ []) ∷ (digit s.pins.tdi ∷ []) ∷ (digit s.tdo ∷ []) ∷ (expect_digit s.pins.expect ∷ [])
    ∷ (digit (differs s.pins.expect s.tdo) ∷ []) ∷ number_digits 4 (tap_code s.tap) ∷ instruction
    ∷ number_digits 32 s.pins.scan ∷ number_digits 16 s.pins.bit ∷ []

-- what is written of a variable, by its number
abbrev pub told_if : Bool → ℕ → List ℕ → List ℕ → List ℕ
told_if first number before now = flat_map change_text (change_if first number before now)

-- TCK falls; what is written of those before the instruction, and of those after it
abbrev pub fall_text : Bool → Shown → Shown → List ℕ
fall_text first b n =
    codes "\n0!\n"
    ++ (told_if first 1 (digit b.pins.tms ∷ []) (digit n.pins.tms ∷ [])
    ++ (told_if first 2 (digit b.pins.tdi ∷ []) (digit n.pins.tdi ∷ [])
    ++ (told_if first 3 (digit b.tdo ∷ []) (digit n.tdo ∷ [])
    ++ (told_if first 4 (expect_digit b.pins.expect ∷ []) (expect_digit n.pins.expect ∷ [])
    ++ (told_if first 5 (digit (differs b.pins.expect b.tdo) ∷ []) (digit (differs n.pins.expect n.tdo) ∷ [])
    ++ told_if first 6 (number_digits 4 (tap_code b.tap)) (number_digits 4 (tap_code n.tap)))))))

abbrev pub scan_text : Bool → Shown → Shown → List ℕ
scan_text first b n =
    told_if first 8 (number_digits 32 b.pins.scan) (number_digits 32 n.pins.scan)
    ++ told_if first 9 (number_digits 16 b.pins.bit) (number_digits 16 n.pins.bit)

abbrev pub pins_text : Bool → Shown → Shown → List ℕ → List ℕ → List ℕ
pins_text first b n before now = fall_text first b n ++ (told_if first 7 before now ++ scan_text first b n)

-- the others have the numbers from 10 on
abbrev pub later_at : Bool → List (List ℕ) → List (List ℕ) → ℕ → List Change
later_at first before now i = change_if first (i + 10) (get_or before i []) (get_or now i [])

abbrev pub later_changes : Bool → List (List ℕ) → List (List ℕ) → List Change
later_changes first before now = up_to (later_at first before now) (length now)

-- the binary digits of a number of 32 bits, without zeros at the left
unfoldable pub binary : ℕ → List ℕ
binary n = trimmed (number_digits 32 n)
