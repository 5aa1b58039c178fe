-- The note of a scan: which register each of its bits is, what is written, what is expected and what is found
-- (Serial Vector Format, revision E: SIR, SDR, TDI, TDO, MASK; IEEE 1687-2014: active scan path).
use Rattle.std.specs.Prelude.{ℕ, zero, suc, ◌+◌, ◌-◌, ◌/◌, ◌==◌, not, Bool, true, false, cond, List, [], ◌∷◌}
use Rattle.std.specs.Prelude.{◌++◌, codes, decimal, drop, get_or, length, map, take, Option, Some, None}
use Rattle.std.specs.List.{list_any}
use Rattle.ij_bits.specs.BitLists.{bits_eq, same_bit}
use Rattle.ij_bits.specs.Hex.{hex_digit}
use Rattle.net_graph.specs.declared.device.Device.{Device}
use Rattle.net_graph.specs.declared.net.Net.{Net}
use Rattle.net_graph.specs.Chain.{chain}
use Rattle.net_graph.specs.Named.{thing_of}
use Rattle.net_graph.specs.Path.{route_of}
use Rattle.net_graph.specs.Signals.{Holds, bits_at}
use Rattle.instruments.specs.declared.Counts.{Counts}
use Rattle.instruments.specs.Seen.{SeenModel}
use Rattle.report.specs.Paths.{register_path}
use Rattle.report.specs.Registers.{digit}
use Rattle.svf_writer.specs.SeenCommands.{SeenCommand}
use Rattle.tap_machine.specs.declared.Stable.TheVariants.{Reset as InReset}
use Rattle.tap_machine.specs.declared.TapState.{TapState}
use Rattle.tap_machine.specs.declared.TapState.TheVariants.{Exit1Ir}
use Rattle.tap_machine.specs.Play.{pins}
use Rattle.net_bench.specs.Bench.{State, power_up}
use Rattle.net_bench.specs.Instruction.{Selected, Network, Identity, Bypass, selected}
use Rattle.bench_report.specs.Report.{chip}
use Rattle.svf_notes.specs.declared.scan.Shifted.{Shifted}
use Rattle.svf_notes.specs.declared.scan.Shown.{Shown}
use Rattle.svf_notes.specs.declared.scan.Shown.TheVariants.{Written, Expected, Found}
use Rattle.svf_notes.specs.Scans.{Scan, scans_of}

-- ---- digits

-- where a bit isn't compared: - (45)
abbrev pub if_compared : Option Bool → Bool → ℕ
if_compared None b = 45
if_compared (Some e) b = digit b

abbrev pub expected_digit : Option Bool → ℕ
expected_digit None = 45
expected_digit (Some e) = digit e

-- the digit of a bit at TDI, of what is expected at TDO, and of what is found there and compared
abbrev pub digit_of : Shown → Shifted → ℕ
digit_of Written b = digit b.tdi
digit_of Expected b = expected_digit b.expect
digit_of Found b = if_compared b.expect b.found

-- the digits of bits, the highest position first
abbrev pub digits : Shown → List Shifted → List ℕ
digits shown [] = []
digits shown (b ∷ bs) = digits shown bs ++ digit_of shown b ∷ []

-- ---- what a scan goes through

-- after its last bit an instruction scan is in Exit1-IR, and a data scan in Exit1-DR
abbrev pub is_instruction : TapState → Bool
is_instruction Exit1Ir = true
is_instruction _ = false

pub data Target : Type 0 where
  Instruction : Target
  Data : (register : Selected) → Target

abbrev pub target : Device → State Counts → Target
target device s = elim (is_instruction s.tap) [
  | true ↦ Instruction
  | false ↦ Data (selected device s.ir_hold)
]

-- how many bits the active path has
abbrev pub path_length : Net → Holds → ℕ
path_length net holds = length (chain (route_of net holds) holds)

abbrev pub tdi_bits : List Shifted → List Bool
tdi_bits bits = map (λ b. b.tdi) bits

-- ---- a register's row

-- [left:right], where there is more than one bit
abbrev pub range_text : Net → ℕ → ℕ → List ℕ
range_text net r width =
    let t = thing_of net r in
    cond (width == 1) [] (codes "[" ++ (decimal (get_or (map (λ thing. thing.left) net.things.items) t 0)
    ++ (codes ":" ++ (decimal (get_or (map (λ thing. thing.right) net.things.items) t 0) ++ codes "]"))))

abbrev pub is_compared : Shifted → Bool
is_compared b = elim b.expect [ Some e ↦ true | None ↦ false ]

abbrev pub differs : Shifted → Bool
differs b = elim b.expect [ Some e ↦ not (same_bit e b.found) | None ↦ false ]

-- the values of a register: what is written, and what is expected and found
abbrev pub values_text : List Bool → List Shifted → List ℕ
values_text held bits =
    codes " writes " ++ (digits Written bits
    ++ (cond (bits_eq (tdi_bits bits) held) (codes " as before") []
    ++ (cond (list_any is_compared bits) (codes " expects " ++ digits Expected bits) []
    ++ cond (list_any differs bits) (codes " finds " ++ digits Found bits) [])))

-- the positions of a register of this width, the highest first
abbrev pub positions_text : ℕ → ℕ → List ℕ
positions_text at width = codes "   "
    ++ (decimal (at + width - 1) ++ (codes ".." ++ (decimal at ++ codes " ")))

-- a register whose position 0 is this one of the scan, and what its update stage holds: its positions, the
-- highest first, and its name
abbrev pub row : Net → ℕ → ℕ → List Bool → List Shifted → List ℕ
row net r at held bits =
    positions_text at (length held)
    ++ (register_path net r ++ (range_text net r (length held) ++ values_text held bits))

-- the registers of a path, the one nearest scan-in first, by the bits from a position on
abbrev pub rows : Net → Holds → ℕ → List ℕ → List Shifted → List (List ℕ)
rows net holds at [] bits = []
rows net holds at (r ∷ rs) bits =
    let held = bits_at holds r in
    let w = length held in
    rows net holds (at + w) rs (drop w bits) ++ row net r at held (take w bits) ∷ []

-- ---- a scan's note, line by line

-- the n lowest hexadecimal digits, the highest first
abbrev pub hex_digits : List Bool → ℕ → List ℕ
hex_digits bits zero = []
hex_digits bits (suc n) = hex_digit bits n ∷ hex_digits bits n

abbrev pub selected_name : Selected → List ℕ
selected_name Network = codes " network"
selected_name Identity = codes " identity"
selected_name Bypass = codes " bypass"

-- a scan whose length isn't that of its register
abbrev pub other_length : List ℕ → ℕ → ℕ → List ℕ
other_length register bits len = codes " has "
    ++ (decimal bits ++ (codes " bits, the " ++ (register ++ decimal len)))

-- an instruction in hexadecimal digits, and what it selects
abbrev pub opcode_text : Device → List Bool → List ℕ
opcode_text device bits =
    codes " instruction " ++ (hex_digits bits ((length bits + 3) / 4) ++ selected_name (selected device bits))

abbrev pub instruction_text : Device → List Shifted → List ℕ
instruction_text device bits =
    cond (length bits == device.ir) (opcode_text device (tdi_bits bits))
    (other_length (codes "instruction register ") (length bits) device.ir)

abbrev pub path_text : ℕ → ℕ → List ℕ
path_text bits len =
    cond (bits == len) (codes " path " ++ decimal len) (other_length (codes "path ") bits len)

-- what a scan's first line says of its target
abbrev pub target_text : Net → Device → Scan Counts → Target → List ℕ
target_text net device x Instruction = instruction_text device x.bits
target_text net device x (Data Network) = path_text (length x.bits) (path_length net x.state.holds)
target_text net device x (Data Identity) = codes " identity"
target_text net device x (Data Bypass) = codes " bypass"

abbrev pub number_text : ℕ → List ℕ
number_text n = codes " scan " ++ decimal n

abbrev pub first_line : Net → Device → Scan Counts → List ℕ
first_line net device x = number_text x.number ++ target_text net device x (target device x.state)

-- rows, where a scan is as long as its path
abbrev pub rows_if : Bool → Net → Holds → List Shifted → List (List ℕ)
rows_if false net holds bits = []
rows_if true net holds bits = rows net holds 0 (route_of net holds) bits

abbrev pub target_rows : Net → Scan Counts → Target → List (List ℕ)
target_rows net x Instruction = []
target_rows net x (Data Network) =
    rows_if (length x.bits == path_length net x.state.holds) net x.state.holds x.bits
target_rows net x (Data Identity) = []
target_rows net x (Data Bypass) = []

abbrev pub note_of : Net → Device → Scan Counts → List (List ℕ)
note_of net device x = first_line net device x ∷ target_rows net x (target device x.state)

-- a note: each line a comment, after a line feed (10)
abbrev pub note_text : List (List ℕ) → List ℕ
note_text [] = []
note_text (line ∷ lines) = codes "\n!:" ++ (line ++ note_text lines)

-- ---- a play

-- the scans of a play of commands from power-up
unfoldable pub played_scans : Net → Device → List SeenModel → List SeenCommand → List (Scan Counts)
played_scans net device models commands =
    let c = chip net device models in
    scans_of c (pins InReset 0 commands) (power_up c)

-- their notes
abbrev pub notes : Net → Device → List SeenModel → List SeenCommand → List (List ℕ)
notes net device models commands =
    map (λ x. note_text (note_of net device x)) (played_scans net device models commands)
