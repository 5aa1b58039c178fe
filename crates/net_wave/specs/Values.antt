-- What the variables of a wave are at one clock: digits, the highest first (IEEE 1364-2005, 18.2.1; IEEE
-- 1149.1-2013, clause 6: the codes of the controller's states; IEEE 1687-2014: active scan path, ScanMux,
-- data ports).
use Rattle.std.specs.Prelude.{ℕ, zero, suc, ◌/◌, ◌%◌, ◌^◌, ◌==◌, not, Bool, false, cond, List, [], ◌∷◌}
use Rattle.std.specs.Prelude.{get_or, length, map, Option, Some, None}
use Rattle.ij_bits.specs.BitLists.{bit, same_bit}
use Rattle.instruments.specs.declared.Counts.{Counts}
use Rattle.instruments.specs.OnNetwork.{inner_at, outputs}
use Rattle.instruments.specs.Seen.{SeenModel}
use Rattle.net_bench.specs.Bench.{Chip, State, tdo}
use Rattle.net_graph.specs.declared.net.Net.{Net}
use Rattle.net_graph.specs.declared.net.Sig.{Sig}
use Rattle.net_graph.specs.declared.net.Sig.TheVariants.{Zero}
use Rattle.net_graph.specs.Named.{output_widths}
use Rattle.net_graph.specs.Path.{is_in, route_of, row_of, rows_of}
use Rattle.net_graph.specs.Signals.{bits_at, signal}
use Rattle.report.specs.Registers.{digit}
use Rattle.tap_machine.specs.declared.Pins.{Pins}
use Rattle.tap_machine.specs.declared.TapState.{TapState}
use Rattle.tap_machine.specs.declared.TapState.TheVariants.{TestLogicReset, RunTestIdle, SelectDrScan}
use Rattle.tap_machine.specs.declared.TapState.TheVariants.{CaptureDr, ShiftDr, Exit1Dr, PauseDr, Exit2Dr}
use Rattle.tap_machine.specs.declared.TapState.TheVariants.{UpdateDr, SelectIrScan, CaptureIr, ShiftIr}
use Rattle.tap_machine.specs.declared.TapState.TheVariants.{Exit1Ir, PauseIr, Exit2Ir, UpdateIr}
use Rattle.net_wave.specs.declared.var.Var.{Var}
use Rattle.net_wave.specs.declared.var.Var.TheVariants.{Tms, Tdi, Tdo, Expect, Differs, Tap, Instruction}
use Rattle.net_wave.specs.declared.var.Var.TheVariants.{Scan, Bit, Update, Shift, OnPath, Row, Input, Output}
use Rattle.net_wave.specs.declared.var.Var.TheVariants.{Word}
use Rattle.net_wave.specs.Vars.{up_to, words_of}

-- ---- digits

-- the digits of the positions below n, the highest first
abbrev pub digits : (ℕ → Bool) → ℕ → List ℕ
digits at zero = []
digits at (suc n) = digit (at n) ∷ digits at n

abbrev pub bits_digits : List Bool → List ℕ
bits_digits bits = digits (bit bits) (length bits)

-- the lowest digits of a number
abbrev pub is_odd_at : ℕ → ℕ → Bool
is_odd_at n i = (n / 2 ^ i) % 2 == 1

abbrev pub number_digits : ℕ → ℕ → List ℕ
number_digits width n = digits (is_odd_at n) width

-- this many x (120)
abbrev pub unknown : ℕ → List ℕ
unknown width = up_to (λ _. 120 ∷ []) width

-- how many binary digits a number has, at most k
abbrev pub binary_length : ℕ → ℕ → ℕ
binary_length zero n = 0
binary_length (suc k) n = cond (n == 0) 0 (suc (binary_length k (n / 2)))

-- ---- pins and the controller

abbrev pub expect_digit : Option Bool → ℕ
expect_digit None = 120
expect_digit (Some e) = digit e

-- whether another bit than this one is expected
abbrev pub differs : Option Bool → Bool → Bool
differs None found = false
differs (Some e) found = not (same_bit e found)

abbrev pub tap_code : TapState → ℕ
tap_code TestLogicReset = 15
tap_code RunTestIdle = 12
tap_code SelectDrScan = 7
tap_code CaptureDr = 6
tap_code ShiftDr = 2
tap_code Exit1Dr = 1
tap_code PauseDr = 3
tap_code Exit2Dr = 0
tap_code UpdateDr = 5
tap_code SelectIrScan = 4
tap_code CaptureIr = 14
tap_code ShiftIr = 10
tap_code Exit1Ir = 9
tap_code PauseIr = 11
tap_code Exit2Ir = 8
tap_code UpdateIr = 13

-- ---- multiplexers and instruments

-- the digits of the number of rows are enough for each row
abbrev pub row_width : Net → ℕ → ℕ
row_width net m = binary_length 32 (length (rows_of net m))

abbrev pub row_digits : ℕ → Option ℕ → List ℕ
row_digits width None = unknown width
row_digits width (Some q) = number_digits width q

-- what drives an input of an instrument, position 0 first
abbrev pub drivers : Net → ℕ → ℕ → List Sig
drivers net i p =
    get_or (get_or (map (λ inst. map (λ port. port.bits.items) inst.ins.items) net.insts.items) i []) p []

-- what is at a position of an input
abbrev pub input_bit : Chip Counts → State Counts → ℕ → ℕ → ℕ → Bool
input_bit chip s i p k = signal (outputs chip.machines s.insts) s.holds (get_or (drivers chip.net i p) k Zero)

abbrev pub output_width : Net → ℕ → ℕ → ℕ
output_width net i p = get_or (output_widths net i) p 0

abbrev pub word_width : List SeenModel → ℕ → ℕ → ℕ
word_width models i w = get_or (map (λ word. word.width) (words_of models i)) w 0

-- ---- values

module _ (chip : Chip Counts) (models : List SeenModel) where
  -- a variable at a clock that begins in a state with some pins
  abbrev pub value : Var → Pins → State Counts → List ℕ
  value Tms p s = digit p.tms ∷ []
  value Tdi p s = digit p.tdi ∷ []
  value Tdo p s = digit (tdo chip s) ∷ []
  value Expect p s = expect_digit p.expect ∷ []
  value Differs p s = digit (differs p.expect (tdo chip s)) ∷ []
  value Tap p s = number_digits 4 (tap_code s.tap)
  value Instruction p s = bits_digits s.ir_hold
  value Scan p s = number_digits 32 p.scan
  value Bit p s = number_digits 16 p.bit
  value (Update r) p s = bits_digits (bits_at s.holds r)
  value (Shift r) p s = bits_digits (bits_at s.stages r)
  value (OnPath r) p s = digit (is_in (route_of chip.net s.holds) r) ∷ []
  value (Row m) p s = row_digits (row_width chip.net m) (row_of chip.net s.holds m)
  value (Input i p) q s = digits (input_bit chip s i p) (length (drivers chip.net i p))
  value (Output i p) q s = digits (outputs chip.machines s.insts i p) (output_width chip.net i p)
  value (Word i w) p s = number_digits (word_width models i w) (get_or (inner_at s.insts i).words w 0)

  abbrev pub values : List Var → Pins → State Counts → List (List ℕ)
  values vars p s = map (λ v. value v p s) vars
