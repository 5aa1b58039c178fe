-- That a bench which counts the events of its instruments does as one that keeps the list of them, whatever
-- the machines.
use Rattle.std.specs.Prelude.{◌≡◌, ℕ, Bool, List, map}
use Rattle.net_graph.specs.declared.device.Device.{Device}
use Rattle.net_graph.specs.declared.net.Net.{Net}
use Rattle.instruments.specs.declared.Counts.{Counts}
use Rattle.instruments.specs.Machine.{Event, Machine, count_log, tally, whole_log}
use Rattle.instruments.specs.OnNetwork.{Running}
use Rattle.svf_writer.specs.SeenCommands.{SeenCommand}
use Rattle.net_bench.specs.Bench.{Chip, State, clock, power_up, fault_free, tdo}
use Rattle.net_bench.specs.Playing.{compares_from, play_from}

-- the device that keeps the list of an instrument's events, and the one that counts them
abbrev pub listing : Net → Device → List Machine → Chip (List Event)
listing net device machines = fault_free whole_log net device machines

abbrev pub counting : Net → Device → List Machine → Chip Counts
counting net device machines = fault_free count_log net device machines

-- an instrument, and a state, with counts in place of lists
abbrev pub tallied : Running (List Event) → Running Counts
tallied x = record { inner = x.inner; log = tally x.log }

abbrev pub with_counts : State (List Event) → State Counts
with_counts s =
    record {
      tap = s.tap;
      ir_stage = s.ir_stage;
      ir_hold = s.ir_hold;
      bypass = s.bypass;
      identity = s.identity;
      stages = s.stages;
      holds = s.holds;
      insts = map tallied s.insts;
    }

-- at power-up
abbrev pub CountsBegin : Type 0
CountsBegin =
    (net : Net) (device : Device) (machines : List Machine)
    → power_up (counting net device machines) ≡ with_counts (power_up (listing net device machines))

-- TDO
abbrev pub CountsShow : Type 0
CountsShow =
    (net : Net) (device : Device) (machines : List Machine) (s : State (List Event))
    → tdo (counting net device machines) (with_counts s) ≡ tdo (listing net device machines) s

-- one clock
abbrev pub CountsMove : Type 0
CountsMove =
    (net : Net) (device : Device) (machines : List Machine) (tms tdi : Bool) (s : State (List Event))
    → clock (counting net device machines) tms tdi (with_counts s)
    ≡ with_counts (clock (listing net device machines) tms tdi s)

-- a play of SVF commands after some scans, and what it compares
abbrev pub CountsPlay : Type 0
CountsPlay =
    (net : Net) (device : Device) (machines : List Machine) (scans : ℕ)
    (commands : List SeenCommand) (s : State (List Event))
    → play_from (counting net device machines) scans commands (with_counts s)
    ≡ with_counts (play_from (listing net device machines) scans commands s)

abbrev pub CountsCompare : Type 0
CountsCompare =
    (net : Net) (device : Device) (machines : List Machine) (scans : ℕ)
    (commands : List SeenCommand) (s : State (List Event))
    → compares_from (counting net device machines) scans commands (with_counts s)
    ≡ compares_from (listing net device machines) scans commands s
