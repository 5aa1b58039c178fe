-- One position of one scan: which register bit it is, what it captures, what is written, expected and found
-- there (Serial Vector Format, revision E; IEEE 1687-2014: active scan path, CaptureSource).
use Rattle.std.specs.Prelude.{ℕ, ◌-◌, ◌==◌, nat_lt, Bool, cond, List, [], ◌∷◌, ◌++◌, codes, decimal, length}
use Rattle.std.specs.Prelude.{slice_get, Option, Some, None}
use Rattle.net_graph.specs.declared.device.Device.{Device}
use Rattle.net_graph.specs.declared.net.BitId.{BitId}
use Rattle.net_graph.specs.declared.net.Net.{Net}
use Rattle.net_graph.specs.declared.net.Sig.{Sig}
use Rattle.net_graph.specs.declared.net.Sig.TheVariants.{Absent, Zero, One, Bit, Out}
use Rattle.net_graph.specs.Path.{route_of}
use Rattle.net_graph.specs.Signals.{Holds, bits_at, capture_signal}
use Rattle.instruments.specs.declared.Counts.{Counts}
use Rattle.instruments.specs.Seen.{SeenModel}
use Rattle.net_list.specs.Drivers.{bit_name}
use Rattle.net_list.specs.Outputs.{output_index, output_path}
use Rattle.report.specs.Registers.{digit}
use Rattle.svf_writer.specs.SeenCommands.{SeenCommand}
use Rattle.net_bench.specs.Instruction.{Network, Identity, Bypass}
use Rattle.svf_notes.specs.declared.scan.Shifted.{Shifted}
use Rattle.svf_notes.specs.declared.place.BitAnswer.{BitAnswer}
use Rattle.svf_notes.specs.declared.place.BitAnswer.TheVariants.{Same, Differs, NoScan, NoBit}
use Rattle.svf_notes.specs.Notes.{Target, Instruction, Data, differs, expected_digit, path_length}
use Rattle.svf_notes.specs.Notes.{played_scans, target}
use Rattle.svf_notes.specs.Scans.{Scan}

-- ---- names of bits

abbrev pub index_text : ℕ → List ℕ
index_text index = codes "[" ++ (decimal index ++ codes "]")

-- a bit of an output of an instrument, with its index of the ICL text
abbrev pub output_name : Net → ℕ → ℕ → ℕ → List ℕ
output_name net inst port pos = output_path net inst port ++ index_text (output_index net inst port pos)

-- ~ is the inverse
abbrev pub tilde_if : Bool → List ℕ
tilde_if inverted = cond inverted (codes "~") []

-- a captured signal: a constant, a bit, or - where there is none
abbrev pub signal_name : Net → Sig → List ℕ
signal_name net Absent = codes "-"
signal_name net Zero = codes "0"
signal_name net One = codes "1"
signal_name net (Bit b inverted) = tilde_if inverted ++ bit_name net b
signal_name net (Out inst port pos inverted) = tilde_if inverted ++ output_name net inst port pos

-- ---- the place of a bit

-- the register bit at a position of a path
abbrev pub path_bit_at : Holds → List ℕ → ℕ → Option BitId
path_bit_at holds [] at = None
path_bit_at holds (r ∷ rs) at =
    let w = length (bits_at holds r) in
    cond (nat_lt at w) (Some (record { reg = r; pos = at })) (path_bit_at holds rs (at - w))

abbrev pub register_text : Net → Option BitId → List ℕ
register_text net None = []
register_text net (Some b) = codes " register "
    ++ (bit_name net b ++ (codes " captures " ++ signal_name net (capture_signal net b)))

-- the bits of a scan that isn't as long as its path come to stand in no register of their own
abbrev pub on_path : Net → Holds → ℕ → ℕ → List ℕ
on_path net holds len at =
    cond (len == path_length net holds)
    (register_text net (path_bit_at holds (route_of net holds) at)) (codes " no register")

-- what a scan of this many bits goes through, and of the network where a bit comes to stand
abbrev pub target_place : Net → Holds → ℕ → ℕ → Target → List ℕ
target_place net holds len at Instruction = codes " instruction"
target_place net holds len at (Data Network) = on_path net holds len at
target_place net holds len at (Data Identity) = codes " identity"
target_place net holds len at (Data Bypass) = codes " bypass"

-- ---- the line

abbrev pub values_text : Shifted → List ℕ
values_text b =
    codes " writes " ++ (digit b.tdi ∷ [] ++ (codes " expects "
    ++ (expected_digit b.expect ∷ [] ++ (codes " finds " ++ digit b.found ∷ 10 ∷ []))))

abbrev pub position_text : ℕ → ℕ → List ℕ
position_text n at = codes "scan " ++ (decimal n ++ (codes " bit " ++ decimal at))

abbrev pub bit_line : Net → Device → Scan Counts → ℕ → Shifted → List ℕ
bit_line net device x at b =
    position_text x.number at
    ++ (target_place net x.state.holds (length x.bits) at (target device x.state) ++ values_text b)

-- the scan of a number
abbrev pub scan_numbered : ℕ → List (Scan Counts) → Option (Scan Counts)
scan_numbered n [] = None
scan_numbered n (x ∷ xs) = cond (x.number == n) (Some x) (scan_numbered n xs)

abbrev pub bit_answer : Option Shifted → BitAnswer
bit_answer None = NoBit
bit_answer (Some b) = cond (differs b) Differs Same

abbrev pub bit_text : Net → Device → Scan Counts → ℕ → Option Shifted → List ℕ
bit_text net device x at None = []
bit_text net device x at (Some b) = bit_line net device x at b

abbrev pub scan_answer : ℕ → Option (Scan Counts) → BitAnswer
scan_answer at None = NoScan
scan_answer at (Some x) = bit_answer (slice_get x.bits at)

abbrev pub scan_text : Net → Device → ℕ → Option (Scan Counts) → List ℕ
scan_text net device at None = []
scan_text net device at (Some x) = bit_text net device x at (slice_get x.bits at)

-- the scan of a number, in a play of commands from power-up
abbrev pub scan_in : Net → Device → List SeenModel → List SeenCommand → ℕ → Option (Scan Counts)
scan_in net device models commands n =
    scan_numbered n (played_scans net device models commands)

abbrev pub where_answer : Net → Device → List SeenModel → List SeenCommand → ℕ → ℕ → BitAnswer
where_answer net device models commands n at = scan_answer at (scan_in net device models commands n)

abbrev pub where_text : Net → Device → List SeenModel → List SeenCommand → ℕ → ℕ → List ℕ
where_text net device models commands n at = scan_text net device at (scan_in net device models commands n)
