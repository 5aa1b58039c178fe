-- After the `;` of each scan of a text is the note of this very scan, and a reader of notes finds there
-- the scan's number and the registers of the active path (Serial Vector Format, revision E: SIR, SDR; IEEE
-- 1687-2014: active scan path).
use Rattle.std.specs.Prelude.{◌≡◌, ◌≤◌, ◌<◌, ℕ, zero, suc, ◌+◌, ◌-◌, ◌==◌, ◌⊎◌, Bool, cond, List, [], ◌∷◌}
use Rattle.std.specs.Prelude.{◌++◌, drop, length, map, slice_get, take, Ok, Option, None, Some}
use Rattle.std.specs.List.{list_any}
use Rattle.ij_bits.specs.BitLists.{bits_eq}
use Rattle.bench_report.specs.Report.{chip}
use Rattle.instruments.specs.declared.Counts.{Counts}
use Rattle.instruments.specs.Seen.{SeenModel}
use Rattle.net_bench.specs.Bench.{State, power_up}
use Rattle.net_bench.specs.Instruction.{Network, Identity, Bypass}
use Rattle.net_bench.specs.Playing.{after_pins}
use Rattle.net_graph.specs.declared.device.Device.{Device}
use Rattle.net_graph.specs.declared.net.Net.{Net}
use Rattle.net_graph.specs.Nets.{IsNet}
use Rattle.net_graph.specs.Path.{route_of}
use Rattle.net_graph.specs.Signals.{Holds, bits_at}
use Rattle.report.specs.Paths.{register_path}
use Rattle.svf_reader.specs.Meaning.{svf}
use Rattle.svf_writer.specs.SeenCommands.{SIR, SDR, Reset, Idle, Run, SeenCommand}
use Rattle.tap_machine.specs.declared.Stable.TheVariants.{Reset as InReset}
use Rattle.tap_machine.specs.Play.{LastScan, Played, after_scan, no_scan, pins, played, scans_in}
use Rattle.svf_notes.specs.Explained.{explained_text}
use Rattle.svf_notes.specs.declared.scan.Shifted.{Shifted}
use Rattle.svf_notes.specs.declared.scan.Shown.TheVariants.{Written, Expected, Found}
use Rattle.svf_notes.specs.Notes.{Target, Instruction, Data, differs, digits, is_compared, note_of, note_text}
use Rattle.svf_notes.specs.Notes.{path_length, played_scans, range_text, target, tdi_bits}
use Rattle.svf_notes.specs.Reader.{ReadNote, ReadRow, read_note}
use Rattle.svf_notes.specs.Scans.{Scan}

-- ---- the scans of a play

-- the commands before the scan that has this many scans before it
abbrev pub before_scan : ℕ → List SeenCommand → List SeenCommand
before_scan n [] = []
before_scan n (SIR s ∷ cs) = elim n [ zero ↦ [] | suc m ↦ SIR s ∷ before_scan m cs ]
before_scan n (SDR s ∷ cs) = elim n [ zero ↦ [] | suc m ↦ SDR s ∷ before_scan m cs ]
before_scan n (Reset ∷ cs) = Reset ∷ before_scan n cs
before_scan n (Idle ∷ cs) = Idle ∷ before_scan n cs
before_scan n (Run m ∷ cs) = Run m ∷ before_scan n cs

-- the state of a play from power-up before this scan
abbrev pub state_before : Net → Device → List SeenModel → List SeenCommand → ℕ → State Counts
state_before net device models commands n =
    let c = chip net device models in
    after_pins c (pins InReset 0 (before_scan n commands)) (power_up c)

-- what is put into this scan and expected of it: its TDI, or that of the last scan of its kind, and its TDO
-- under MASK
abbrev pub played_at : LastScan → LastScan → ℕ → List SeenCommand → Played
played_at ir dr n [] = record { tdi = []; expects = [] }
played_at ir dr n (SIR s ∷ cs) = elim n [ zero ↦ played ir s | suc m ↦ played_at (after_scan ir s) dr m cs ]
played_at ir dr n (SDR s ∷ cs) = elim n [ zero ↦ played dr s | suc m ↦ played_at ir (after_scan dr s) m cs ]
played_at ir dr n (Reset ∷ cs) = played_at ir dr n cs
played_at ir dr n (Idle ∷ cs) = played_at ir dr n cs
played_at ir dr n (Run m ∷ cs) = played_at ir dr n cs

-- the scan of a number, which goes through the path, and is selected by the instruction, that hold in a state
pub record IsScanFrom (s : State Counts) (number : ℕ) (p : Played) (x : Scan Counts) : Type 0 where
  pub numbered : x.number ≡ number
  pub holds : x.state.holds ≡ s.holds
  pub instruction : x.state.ir_hold ≡ s.ir_hold
  pub written : map (λ b. b.tdi) x.bits ≡ p.tdi
  pub expected : map (λ b. b.expect) x.bits ≡ p.expects

-- In a play of any text that is read the scan with n scans before it has the number n + 1, begins in the
-- state that the commands before it leave, and has the bits of its command.
abbrev pub ScansBegin : Type 0
ScansBegin =
    (net : Net) (device : Device) (models : List SeenModel) (src : List ℕ) (commands : List SeenCommand)
    (n : ℕ) → svf src ≡ Ok commands → n < scans_in commands
    → (x : Scan Counts) × (slice_get (played_scans net device models commands) n ≡ Some x) × IsScanFrom
    (state_before net device models commands n) (suc n) (played_at no_scan no_scan n commands) x

-- ---- what a reader must find

-- digits, if there is something to show
abbrev pub some_if : Bool → List ℕ → Option (List ℕ)
some_if there digits = cond there (Some digits) None

-- a register that is at these positions: its bits of the scan are those from the lowest position on
abbrev pub register_row : Net → Holds → List Shifted → ℕ → ℕ → ReadRow
register_row net holds bits at r =
    let held = bits_at holds r in
    let w = length held in
    let part = take w (drop at bits) in
    record {
      high = at + w - 1;
      low = at;
      name = register_path net r ++ range_text net r w;
      writes = digits Written part;
      as_before = bits_eq (tdi_bits part) held;
      expects = some_if (list_any is_compared part) (digits Expected part);
      finds = some_if (list_any differs part) (digits Found part);
    }

-- the registers of a path, the one nearest scan-in first, by the position of the bit that is nearest to
-- scan-out
abbrev pub path_rows : Net → Holds → List Shifted → ℕ → List ℕ → List ReadRow
path_rows net holds bits at [] = []
path_rows net holds bits at (r ∷ rs) =
    path_rows net holds bits (at + length (bits_at holds r)) rs ++ register_row net holds bits at r ∷ []

-- of a scan of the network that is as long as its path the registers of this path, and of any other scan none
abbrev pub scan_rows : Net → Scan Counts → Target → List ReadRow
scan_rows net x Instruction = []
scan_rows net x (Data Network) =
    let holds = x.state.holds in
    cond (length x.bits == path_length net holds) (path_rows net holds x.bits 0 (route_of net holds)) []
scan_rows net x (Data Identity) = []
scan_rows net x (Data Bypass) = []

abbrev pub said_of : Net → Device → Scan Counts → ReadNote
said_of net device x = record { scan = x.number; rows = scan_rows net x (target device x.state) }

-- ---- a text that is cut after its scans

-- a part of a text, up to the `;` of a scan, and what is written after it
pub record BitPart : Type 0 where
  pub text : List ℕ
  pub note : List ℕ

-- the parts, and what comes after all of them: without their notes, and with them
abbrev pub unnoted : List BitPart → List ℕ → List ℕ
unnoted [] rest = rest
unnoted (p ∷ ps) rest = p.text ++ unnoted ps rest

abbrev pub noted : List BitPart → List ℕ → List ℕ
noted [] rest = rest
noted (p ∷ ps) rest = p.text ++ (p.note ++ noted ps rest)

-- the commands up to the k-th scan, counted from 1
abbrev pub through_scan : ℕ → List SeenCommand → List SeenCommand
through_scan zero cs = []
through_scan (suc k) [] = []
through_scan (suc k) (SIR s ∷ cs) = SIR s ∷ through_scan k cs
through_scan (suc k) (SDR s ∷ cs) = SDR s ∷ through_scan k cs
through_scan (suc k) (Reset ∷ cs) = Reset ∷ through_scan (suc k) cs
through_scan (suc k) (Idle ∷ cs) = Idle ∷ through_scan (suc k) cs
through_scan (suc k) (Run m ∷ cs) = Run m ∷ through_scan (suc k) cs

-- after each part is the note of its scan and nothing more but a line feed (10), and a reader of all that
-- follows finds it
pub record IsNoteOf (net : Net) (device : Device) (p : BitPart) (later : List ℕ)
    (x : Scan Counts) : Type 0 where
  pub feed : List ℕ
  pub at_most_one : (feed ≡ []) ⊎ (feed ≡ 10 ∷ [])
  pub note : p.note ≡ note_text (note_of net device x) ++ feed
  pub read : read_note (p.note ++ later) ≡ Some (said_of net device x)

abbrev pub AreNotesOf : Net → Device → List BitPart → List ℕ → List (Scan Counts) → Type 0
AreNotesOf net device [] rest [] = Unit {0}
AreNotesOf net device [] rest (x ∷ xs) = ⊥
AreNotesOf net device (p ∷ ps) rest [] = ⊥
AreNotesOf net device (p ∷ ps) rest (x ∷ xs) =
    IsNoteOf net device p (noted ps rest) x × AreNotesOf net device ps rest xs

-- a text, and the same text with the notes of some scans: without the notes it is the old one, byte for byte,
-- and the note of the k-th scan is where a reader of SVF has read the commands up to the k-th scan
pub record IsNoted (net : Net) (device : Device) (commands : List SeenCommand)
    (scans : List (Scan Counts)) (src new : List ℕ) : Type 0 where
  pub parts : List BitPart
  pub rest : List ℕ
  pub old : src ≡ unnoted parts rest
  pub whole : new ≡ noted parts rest
  pub cut : (k : ℕ) → k ≤ length parts → svf (unnoted (take k parts) []) ≡ Ok (through_scan k commands)
  pub notes : AreNotesOf net device parts rest scans

-- So is any text that is read and explained, with the scans of its play from power-up.
abbrev pub NotesFollowTheirScans : Type 0
NotesFollowTheirScans =
    (net : Net) (device : Device) (models : List SeenModel) (src : List ℕ) (commands : List SeenCommand)
    → IsNet net → svf src ≡ Ok commands
    → IsNoted net device commands (played_scans net device models commands) src
    (explained_text net device models commands src)
