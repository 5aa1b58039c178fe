-- What one SVF command does to the bench, whatever the network, its path and its instruments (Serial Vector
-- Format, revision E: SDR, SIR, RUNTEST and STATE; IEEE 1149.1-2013, clauses 6 to 10).
use Rattle.std.specs.Prelude.{◌≡◌, ◌+◌, ◌<◌, ℕ, zero, suc, Bool, List, [], ◌∷◌, ◌++◌, None, Some, length, map}
use Rattle.ij_bits.specs.BitLists.{bits_of}
use Rattle.instruments.specs.Machine.{Event, Run, Reset}
use Rattle.instruments.specs.OnNetwork.{all_have, changes, outputs}
use Rattle.net_graph.specs.declared.net.Net.{Net}
use Rattle.net_graph.specs.Chain.{IsRoute, captures, chain, put_chain, shifted, shifted_out}
use Rattle.net_graph.specs.Resets.{reset_holds}
use Rattle.net_graph.specs.Signals.{Holds}
use Rattle.svf_writer.specs.SeenCommands.{SDR, SIR, SeenCommand, SeenScan, Reset as StateReset}
use Rattle.svf_writer.specs.SeenCommands.{Idle as StateIdle, Run as RunTest}
use Rattle.svf_writer.specs.Written.{preface_commands}
use Rattle.tap_machine.specs.declared.Pins.{Pins}
use Rattle.tap_machine.specs.declared.Stable.{Stable}
use Rattle.tap_machine.specs.declared.Stable.TheVariants.{Reset as InReset, Idle as InIdle}
use Rattle.tap_machine.specs.declared.TapState.{TapState}
use Rattle.tap_machine.specs.declared.TapState.TheVariants.{RunTestIdle, TestLogicReset}
use Rattle.tap_machine.specs.Play.{AreWhole, no_scan, played, rests_after, scans_in}
use Rattle.net_bench.specs.Bench.{Chip, State, power_up, select_of}
use Rattle.net_bench.specs.Instruction.{Network, reset_instruction}
use Rattle.net_bench.specs.Playing.{after_pins, compares, compares_from, play_from, resting, scan_compares}

-- the controller's state where it rests
abbrev pub tap_of : Stable → TapState
tap_of InReset = TestLogicReset
tap_of InIdle = RunTestIdle

-- each scan of these commands gives a bit of TDI
abbrev pub GivesBits : SeenScan → Type 0
GivesBits scan = (t : Bool) × (ts : List Bool) × (scan.tdi ≡ Some (t ∷ ts))

abbrev pub AreGiven : List SeenCommand → Type 0
AreGiven [] = Unit {0}
AreGiven (SIR scan ∷ cs) = GivesBits scan × AreGiven cs
AreGiven (SDR scan ∷ cs) = GivesBits scan × AreGiven cs
AreGiven (StateReset ∷ cs) = AreGiven cs
AreGiven (StateIdle ∷ cs) = AreGiven cs
AreGiven (RunTest n ∷ cs) = AreGiven cs

-- no scan of these commands expects anything of TDO
abbrev pub ExpectNothing : List SeenCommand → Type 0
ExpectNothing [] = Unit {0}
ExpectNothing (SIR scan ∷ cs) = (scan.tdo ≡ None) × ExpectNothing cs
ExpectNothing (SDR scan ∷ cs) = (scan.tdo ≡ None) × ExpectNothing cs
ExpectNothing (StateReset ∷ cs) = ExpectNothing cs
ExpectNothing (StateIdle ∷ cs) = ExpectNothing cs
ExpectNothing (RunTest n ∷ cs) = ExpectNothing cs

-- each register captures as many bits as it has
abbrev pub CapturesAll : Net → Type 0
CapturesAll net = map (λ reg. length reg.capture.items) net.regs.items ≡ map (λ reg. reg.width) net.regs.items

module _ {L : Type 0} (chip : Chip L) where
  -- what the registers of the path capture, position 0 nearest scan-out
  abbrev pub captured : State L → List Bool
  captured s = captures chip.net (outputs chip.machines s.insts) s.holds (chip.path s.holds)

  -- the state after these bits were shifted into the registers of the path and took effect, with the events
  -- of the instruments that they change
  abbrev pub exchanged : State L → List Bool → State L
  exchanged s bits =
      let after = put_chain (chip.path s.holds) bits s.holds in
      record s {
        tap = RunTestIdle;
        stages = put_chain (chip.path s.holds) bits s.stages;
        holds = after;
        insts = changes chip.log chip.net chip.machines s.holds after s.insts;
      }

  -- the same where the bits are those that the path has in `after`, and no other register differs there
  abbrev pub stepped : State L → Holds → State L
  stepped s after =
      let path = chip.path s.holds in
      record s {
        tap = RunTestIdle;
        stages = put_chain path (chain path after) s.stages;
        holds = after;
        insts = changes chip.log chip.net chip.machines s.holds after s.insts;
      }

  -- each register of the network has its bits, and so has the instruction register
  pub record IsShaped (s : State L) : Type 0 where
    pub stages : map length s.stages ≡ map (λ reg. reg.width) chip.net.regs.items
    pub holds : map length s.holds ≡ map (λ reg. reg.width) chip.net.regs.items
    pub ir : length s.ir_stage ≡ chip.device.ir

  -- what a data scan of the network needs of the state: rest in Run-Test/Idle, the network selected, a path
  -- of different registers, and as many capture signals as bits
  pub record Ready (s : State L) : Type 0 where
    pub idle : s.tap ≡ RunTestIdle
    pub network : select_of chip s ≡ Network
    pub route : IsRoute (length s.stages) (chip.path s.holds)
    pub captured_fits : length (captured s) ≡ length (chain (chip.path s.holds) s.stages)

  -- the state after these bits became the instruction
  abbrev pub loaded : State L → List Bool → State L
  loaded s bits = record s { tap = RunTestIdle; ir_stage = bits; ir_hold = bits }

  -- the state after n run cycles: each instrument ran n times
  abbrev pub ran : ℕ → State L → State L
  ran zero s = s
  ran (suc n) s = ran n (record s { insts = all_have chip.log chip.net chip.machines Run s.holds s.insts })

  -- the state after a reset from Run-Test/Idle
  abbrev pub was_reset : State L → State L
  was_reset s =
      let after = reset_holds chip.net s.holds in
      record s {
        tap = TestLogicReset;
        holds = after;
        ir_hold = reset_instruction chip.device;
        insts = all_have chip.log chip.net chip.machines Reset after s.insts;
      }

-- What holds of each bench, whatever it keeps of an instrument's events.
module _ (L : Type 0) where
  -- A data scan of as many bits as the path has: the registers capture, each captured bit is compared with
  -- what is expected of it, the scan's bits come to stand in the registers, and they take effect.
  abbrev pub AnyScanShifts : Type 0
  AnyScanShifts =
      (chip : Chip L) (scans : ℕ) (scan : SeenScan) (bits : List Bool) (s : State L)
      → Ready chip s → scan.tdi ≡ Some bits → 0 < length bits → length bits ≡ length (captured chip s)
      → (play_from chip scans (SDR scan ∷ []) s ≡ exchanged chip s bits)
      × (compares_from chip scans (SDR scan ∷ []) s
      ≡ scan_compares (suc scans) 0 (played no_scan scan).expects (captured chip s))

  -- A data scan of any length: the registers capture, the scan's bits are shifted through them, each bit that
  -- comes out is compared with what is expected of it, and what is in the registers at the end takes
  -- effect.
  abbrev pub AnyLongScanShifts : Type 0
  AnyLongScanShifts =
      (chip : Chip L) (scans : ℕ) (scan : SeenScan) (bits : List Bool) (s : State L)
      → Ready chip s → scan.tdi ≡ Some bits → 0 < length bits
      → (play_from chip scans (SDR scan ∷ []) s ≡ exchanged chip s (shifted (captured chip s) bits))
      × (compares_from chip scans (SDR scan ∷ []) s
      ≡ scan_compares (suc scans) 0 (played no_scan scan).expects (shifted_out (captured chip s) bits))

  -- An instruction scan of as many bits as the instruction register has: they are the instruction.
  abbrev pub AnyInstructionLoads : Type 0
  AnyInstructionLoads =
      (chip : Chip L) (scans : ℕ) (scan : SeenScan) (bits : List Bool) (s : State L)
      → s.tap ≡ RunTestIdle → scan.tdi ≡ Some bits → 0 < length bits → length bits ≡ length s.ir_stage
      → play_from chip scans (SIR scan ∷ []) s ≡ loaded chip s bits

  -- Run cycles in Run-Test/Idle: the instruments run so often, and nothing else changes.
  abbrev pub AnyRunWaits : Type 0
  AnyRunWaits =
      (chip : Chip L) (scans n : ℕ) (s : State L)
      → s.tap ≡ RunTestIdle → play_from chip scans (RunTest n ∷ []) s ≡ ran chip n s

  -- A reset from Run-Test/Idle: bits with a reset value take it, the reset instruction is selected, and each
  -- instrument has one reset. At power-up a reset changes nothing.
  abbrev pub AnyResetResets : Type 0
  AnyResetResets =
      (chip : Chip L) (scans : ℕ)
      → ((s : State L) → s.tap ≡ RunTestIdle → play_from chip scans (StateReset ∷ []) s ≡ was_reset chip s)
      × (play_from chip scans (StateReset ∷ []) (power_up chip) ≡ power_up chip)

  -- STATE IDLE, and with it each command that isn't a reset, first takes the controller to Run-Test/Idle,
  -- with no event.
  abbrev pub IdlesRest : Type 0
  IdlesRest =
      (chip : Chip L) (scans : ℕ) (from : Stable) (s : State L)
      → s.tap ≡ tap_of from → play_from chip scans (StateIdle ∷ []) s ≡ record s { tap = RunTestIdle }

  -- The preface of an SVF, from Run-Test/Idle and from power-up: a reset, and the link's instruction is
  -- loaded.
  abbrev pub PrefacesLink : Type 0
  PrefacesLink =
      (chip : Chip L) (scans : ℕ) → 0 < chip.device.ir
      → ((s : State L) → s.tap ≡ RunTestIdle → length s.ir_stage ≡ chip.device.ir
      → play_from chip scans (preface_commands chip.device) s
      ≡ loaded chip (was_reset chip s) (bits_of chip.device.ir chip.device.opcode))
      × (play_from chip scans (preface_commands chip.device) (power_up chip)
      ≡ loaded chip (power_up chip) (bits_of chip.device.ir chip.device.opcode))

  -- A play of commands is the play of the first of them, and then of the others, whose scans rest on no
  -- earlier one.
  abbrev pub AnyPlaySplits : Type 0
  AnyPlaySplits =
      (chip : Chip L) (scans : ℕ) (first rest : List SeenCommand) (s : State L)
      → AreWhole rest → resting (play_from chip scans first s) ≡ rests_after (resting s) first
      → (play_from chip scans (first ++ rest) s
      ≡ play_from chip (scans + scans_in first) rest (play_from chip scans first s))
      × (compares_from chip scans (first ++ rest) s ≡ compares_from chip scans first s
      ++ compares_from chip (scans + scans_in first) rest (play_from chip scans first s))

  -- And so it is clock by clock, whatever the pins are.
  abbrev pub PinsSplit : Type 0
  PinsSplit =
      (chip : Chip L) (first rest : List Pins) (s : State L)
      → (after_pins chip (first ++ rest) s ≡ after_pins chip rest (after_pins chip first s))
      × (compares chip (first ++ rest) s
      ≡ compares chip first s ++ compares chip rest (after_pins chip first s))

  -- A play rests where its commands lead.
  abbrev pub PlaysRest : Type 0
  PlaysRest =
      (chip : Chip L) (scans : ℕ) (commands : List SeenCommand) (from : Stable) (s : State L)
      → s.tap ≡ tap_of from → AreGiven commands
      → resting (play_from chip scans commands s) ≡ rests_after from commands

  -- Where nothing is expected, nothing is compared.
  abbrev pub NothingIsCompared : Type 0
  NothingIsCompared =
      (chip : Chip L) (scans : ℕ) (commands : List SeenCommand) (s : State L)
      → ExpectNothing commands → compares_from chip scans commands s ≡ []

  -- Each register has its bits at power-up,
  abbrev pub IsShapedFirst : Type 0
  IsShapedFirst = (chip : Chip L) → IsShaped chip (power_up chip)

  -- keeps them in each clock,
  abbrev pub StaysShaped : Type 0
  StaysShaped =
      (chip : Chip L) (pins : List Pins) (s : State L)
      → CapturesAll chip.net → IsShaped chip s → IsShaped chip (after_pins chip pins s)

  -- and so has all that a data scan needs of it.
  abbrev pub ShapedIsReady : Type 0
  ShapedIsReady =
      (chip : Chip L) (s : State L)
      → CapturesAll chip.net → IsShaped chip s → s.tap ≡ RunTestIdle → select_of chip s ≡ Network
      → IsRoute (length chip.net.regs.items) (chip.path s.holds)
      → Ready chip s

-- The same of benches that keep the list of an instrument's events.
abbrev pub ScansShift : Type 0
ScansShift = AnyScanShifts (List Event)

abbrev pub InstructionsLoad : Type 0
InstructionsLoad = AnyInstructionLoads (List Event)

abbrev pub RunsWait : Type 0
RunsWait = AnyRunWaits (List Event)

abbrev pub ResetsReset : Type 0
ResetsReset = AnyResetResets (List Event)

abbrev pub PlaysSplit : Type 0
PlaysSplit = AnyPlaySplits (List Event)
