-- What is printed of a play of SVF commands on the bench of a network with its instruments (Serial Vector
-- Format, revision E).
use Rattle.std.specs.Prelude.{ℕ, suc, Bool, List, [], ◌∷◌, ◌++◌, map, get_or, length, Option, None}
use Rattle.instruments.specs.After.{machine_of}
use Rattle.instruments.specs.Machine.{count_log}
use Rattle.instruments.specs.OnNetwork.{Running, inner_at}
use Rattle.instruments.specs.Seen.{SeenModel}
use Rattle.instruments.specs.declared.Counts.{Counts}
use Rattle.net_graph.specs.declared.device.Device.{Device}
use Rattle.net_graph.specs.declared.net.Net.{Net}
use Rattle.net_graph.specs.declared.step.ReadBit.{ReadBit}
use Rattle.svf_writer.specs.SeenCommands.{SeenCommand}
use Rattle.tap_machine.specs.declared.Pins.{Pins}
use Rattle.tap_machine.specs.declared.Stable.TheVariants.{Reset as InReset}
use Rattle.tap_machine.specs.Play.{pins, scans_in}
use Rattle.net_bench.specs.Bench.{Chip, State, fault_free, power_up}
use Rattle.net_bench.specs.Board.{SeenBench}
use Rattle.net_bench.specs.Playing.{Compare, play_from, compares_from, differing}
use Rattle.instruments.specs.Runners.{machines_of}
use Rattle.report.specs.Differs.{differ_text}
use Rattle.report.specs.Instruments.{instruments_text}
use Rattle.report.specs.Registers.{registers_text}
use Rattle.report.specs.Totalled.{play_text}

-- the device of a bench with instruments that tables describe, their events counted
abbrev pub chip_of : SeenBench → Chip Counts
chip_of b = fault_free count_log b.net b.device (machines_of b.models)

-- the iRead that a compare is, by its scan and its position there, where it is one
abbrev pub Names : Type 0
Names = ℕ → ℕ → Option ReadBit

-- SVF alone names none
abbrev pub no_names : Names
no_names scan bit = None

-- what was expected and found at a clock
abbrev pub compare_at : Pins → Bool → Bool → Compare
compare_at p expect found = record { scan = p.scan; bit = p.bit; expect = expect; found = found }

-- a line for each compare, with its iRead
abbrev pub named_lines : Names → List Compare → List ℕ
named_lines names [] = []
named_lines names (c ∷ cs) =
    differ_text (record {
      scan = c.scan;
      bit = c.bit;
      expect = c.expect;
      found = c.found;
      read = names c.scan c.bit;
    }) ++ named_lines names cs

-- what the bench holds at an end: registers, then instruments
abbrev pub state_text : Net → List SeenModel → State Counts → List ℕ
state_text net models s = registers_text net s.holds ++ instruments_text net models s.insts

-- the device with instruments that a table describes, their events counted
abbrev pub chip : Net → Device → List SeenModel → Chip Counts
chip net device models = fault_free count_log net device (map machine_of models)

-- the compares of a play from power-up that differ
abbrev pub differs_of : Net → Device → List SeenModel → List SeenCommand → List Compare
differs_of net device models commands =
    differing (compares_from (chip net device models) 0 commands (power_up (chip net device models)))

-- a line for each, then what the bench holds at the end, then the totals
abbrev pub named_report : Names → Net → Device → List SeenModel → List SeenCommand → List ℕ
named_report names net device models commands =
    let differs = differs_of net device models commands in
    named_lines names differs
    ++ (state_text net models
    (play_from (chip net device models) 0 commands (power_up (chip net device models)))
    ++ play_text (scans_in commands) (length (pins InReset 0 commands)) (length differs))

-- the same with no iReads: a play of SVF alone
abbrev pub play_report : Net → Device → List SeenModel → List SeenCommand → List ℕ
play_report net device models commands = named_report no_names net device models commands
