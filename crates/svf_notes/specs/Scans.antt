-- The scans of a play: the bits of each as they are at TDI and TDO, and the state in which they were
-- shifted (Serial Vector Format, revision E: SIR, SDR; IEEE 1149.1-2013, clause 6: Shift-IR, Shift-DR).
use Rattle.std.specs.Prelude.{ℕ, ◌==◌, cond, Bool, List, [], ◌∷◌}
use Rattle.tap_machine.specs.declared.Pins.{Pins}
use Rattle.net_bench.specs.Bench.{Chip, State, clock, tdo}
use Rattle.svf_notes.specs.declared.scan.Shifted.{Shifted}

-- a scan: its number, its bits, position 0 first, and the state after its last shift clock, so before its
-- update
pub record Scan (L : Type 0) : Type 0 where
  pub number : ℕ
  pub bits : List Shifted
  pub state : State L

-- a bit before the bits of the first scan; without one that is shifted to its end it is in none
abbrev pub led_by : {L : Type 0} → Shifted → List (Scan L) → List (Scan L)
led_by b [] = []
led_by b (x ∷ xs) = record x { bits = b ∷ x.bits } ∷ xs

-- the bit of a clock, and the scan that ends with it
abbrev pub shifted_at : Pins → Bool → Shifted
shifted_at p found = record { tdi = p.tdi; expect = p.expect; found = found }

abbrev pub last_bit : {L : Type 0} → Pins → Bool → State L → Scan L
last_bit p found after = record { number = p.scan; bits = shifted_at p found ∷ []; state = after }

-- the bits of some clocks, by what was found in them
abbrev pub shifted_bits : List Pins → List Bool → List Shifted
shifted_bits [] fs = []
shifted_bits (p ∷ ps) [] = []
shifted_bits (p ∷ ps) (f ∷ fs) = shifted_at p f ∷ shifted_bits ps fs

-- one clock, by the pins, the bit at TDO and the state after it, and the scans after it: where nothing is
-- shifted it is in no scan, at the last bit of a scan TMS is 1, and any other bit goes on with the next one
abbrev pub with_clock : {L : Type 0} → Pins → Bool → State L → List (Scan L) → List (Scan L)
with_clock p found after later =
    cond (p.scan == 0) later (cond p.tms (last_bit p found after ∷ later) (led_by (shifted_at p found) later))

-- the scans of a play, in order
abbrev pub scans_of : {L : Type 0} → Chip L → List Pins → State L → List (Scan L)
scans_of chip [] s = []
scans_of chip (p ∷ ps) s =
    let after = clock chip p.tms p.tdi s in
    with_clock p (tdo chip s) after (scans_of chip ps after)
