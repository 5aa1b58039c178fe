-- What the scans of a play are: what their commands say, and what the play compares (Serial Vector Format,
-- revision E: SIR, SDR; IEEE 1149.1-2013, clause 6: update stages change in Update-IR and Update-DR alone).
use Rattle.std.specs.Prelude.{◌≡◌, ◌<◌, ℕ, zero, suc, Bool, List, [], ◌∷◌, ◌++◌, length, map, Ok}
use Rattle.std.specs.List.{flat_map}
use Rattle.instruments.specs.declared.Counts.{Counts}
use Rattle.svf_writer.specs.SeenCommands.{SIR, SDR, Reset, Idle, Run, SeenCommand}
use Rattle.svf_reader.specs.Meaning.{svf}
use Rattle.tap_machine.specs.declared.TapState.{TapState}
use Rattle.tap_machine.specs.declared.TapState.TheVariants.{RunTestIdle, Exit1Dr, Exit1Ir}
use Rattle.tap_machine.specs.declared.Stable.{Stable}
use Rattle.tap_machine.specs.Play.{LastScan, Played, after_scan, no_scan, played, scans_in, sdr_pins}
use Rattle.tap_machine.specs.Play.{sir_pins}
use Rattle.net_bench.specs.Bench.{Chip, State}
use Rattle.net_bench.specs.Playing.{Compare, compare_of, compares_from, resting}
use Rattle.tap_machine.specs.Play.{pins}
use Rattle.svf_notes.specs.declared.scan.Shifted.{Shifted}
use Rattle.svf_notes.specs.Scans.{Scan, scans_of}

-- what is compared at the bits of a scan, from a position on
abbrev pub bit_compares : ℕ → ℕ → List Shifted → List Compare
bit_compares n at [] = []
bit_compares n at (b ∷ bs) = compare_of b.expect n at b.found ++ bit_compares n (suc at) bs

abbrev pub compares_in : Scan Counts → List Compare
compares_in x = bit_compares x.number 0 x.bits

-- What a play compares is what is expected and found at the bits of its scans, scan by scan and position by
-- position.
abbrev pub ScansCompare : Type 0
ScansCompare =
    (chip : Chip Counts) (commands : List SeenCommand) (s : State Counts) → compares_from chip 0 commands s
    ≡ flat_map compares_in (scans_of chip (pins (resting s) 0 commands) s)

-- the scan that the pins of one command make: its number and the bits that are written are those of the
-- command, and the network and the instruction are as they were when the command began
pub record IsScanOf (xs : List (Scan Counts)) (n : ℕ) (tdi : List Bool)
    (tap : TapState) (s : State Counts) : Type 0 where
  pub scan : Scan Counts
  pub one : xs ≡ scan ∷ []
  pub number : scan.number ≡ n
  pub written : map (λ b. b.tdi) scan.bits ≡ tdi
  pub tap_is : scan.state.tap ≡ tap
  pub holds : scan.state.holds ≡ s.holds
  pub instruction : scan.state.ir_hold ≡ s.ir_hold

-- A scan that begins in Run-Test/Idle goes through the path that is active when it begins.
abbrev pub ScansKeepTheirPath : Type 0
ScansKeepTheirPath =
    (chip : Chip Counts) (n : ℕ) (p : Played) (s : State Counts) → s.tap ≡ RunTestIdle → 0 < length p.tdi
    → IsScanOf (scans_of chip (sdr_pins (suc n) p) s) (suc n) p.tdi Exit1Dr s
    × IsScanOf (scans_of chip (sir_pins (suc n) p) s) (suc n) p.tdi Exit1Ir s

-- each command that scans has bits: those of its own TDI, or of the last one of its kind
abbrev pub HaveBits : LastScan → LastScan → List SeenCommand → Type 0
HaveBits ir dr [] = Unit {0}
HaveBits ir dr (SIR s ∷ cs) = (0 < length (played ir s).tdi) × HaveBits (after_scan ir s) dr cs
HaveBits ir dr (SDR s ∷ cs) = (0 < length (played dr s).tdi) × HaveBits ir (after_scan dr s) cs
HaveBits ir dr (Reset ∷ cs) = HaveBits ir dr cs
HaveBits ir dr (Idle ∷ cs) = HaveBits ir dr cs
HaveBits ir dr (Run n ∷ cs) = HaveBits ir dr cs

-- as many numbers, those after this one
abbrev pub counted : ℕ → ℕ → List ℕ
counted n zero = []
counted n (suc k) = suc n ∷ counted (suc n) k

-- A play has one scan for each command that scans, in the order of the commands: the k-th has the number k.
-- So the k-th note of a text is that of its k-th scan.
abbrev pub ScansAreNumbered : Type 0
ScansAreNumbered =
    (chip : Chip Counts) (from : Stable) (commands : List SeenCommand) (s : State Counts)
    → HaveBits no_scan no_scan commands
    → map (λ x. x.number) (scans_of chip (pins from 0 commands) s) ≡ counted 0 (scans_in commands)

-- In the commands that are read of any text each scan has bits.
abbrev pub ReadScansHaveBits : Type 0
ReadScansHaveBits = (src : List ℕ) (commands : List SeenCommand)
    → svf src ≡ Ok commands → HaveBits no_scan no_scan commands

-- So a play of any text that is read has one scan for each SIR and SDR in it, in their order: the k-th has
-- the number k.
abbrev pub ReadScansAreNumbered : Type 0
ReadScansAreNumbered =
    (chip : Chip Counts) (from : Stable) (src : List ℕ) (commands : List SeenCommand) (s : State Counts)
    → svf src ≡ Ok commands
    → map (λ x. x.number) (scans_of chip (pins from 0 commands) s) ≡ counted 0 (scans_in commands)
