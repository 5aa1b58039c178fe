-- What a run of a procedure on the bench and its direct meaning have in common, as both are printed.
use Rattle.std.specs.Prelude.{◌≡◌, ℕ, List, map, Ok, Contains}
use Rattle.instruments.specs.declared.Counts.{Counts}
use Rattle.instruments.specs.Machine.{Event, Machine, count_log, whole_log}
use Rattle.instruments.specs.Seen.{SeenModel}
use Rattle.instruments.specs.After.{machine_of}
use Rattle.net_graph.specs.declared.device.Device.{Device}
use Rattle.net_graph.specs.declared.net.Net.{Net}
use Rattle.net_graph.specs.SeenSteps.{SeenStep}
use Rattle.net_graph.specs.Devices.{IsDevice}
use Rattle.net_graph.specs.Resets.{start_holds}
use Rattle.net_tree.specs.Form.{Items}
use Rattle.svf_reader.specs.Meaning.{svf}
use Rattle.svf_writer.specs.SeenCommands.{SeenCommand}
use Rattle.tap_machine.specs.Play.{is_empty}
use Rattle.net_bench.specs.Counting.{tallied}
use Rattle.net_bench.specs.Bench.{fault_free}
use Rattle.net_bench.specs.Playing.{Compare}
use Rattle.pdl_meaning.specs.Direct.{Direct, direct}
use Rattle.headline.specs.Headline.{at_end, compared}
use Rattle.headline.specs.Retargeting.{IsRetargetable, DoesSteps, PlannedStep, StepsArePlanned, script_of}
use Rattle.headline.specs.Retargeting.{seen_of}
use Rattle.bench_report.specs.Report.{differs_of}
use Rattle.run_report.specs.Places.{places}
use Rattle.direct_report.specs.Report.{direct_differs}
use Rattle.ijtag_work.specs.Naming.{AreComparedAt, IsNamed}

-- a direct meaning with counts of events in place of their lists
abbrev pub with_counts : Direct (List Event) → Direct Counts
with_counts d = record { holds = d.holds; insts = map tallied d.insts; reads = d.reads }

-- the direct meaning that counts events finds and leaves the same as the one that keeps their lists
abbrev pub MeaningsAreCounted : Type 0
MeaningsAreCounted =
    (net : Net) (machines : List Machine) (steps : List SeenStep)
    → direct count_log net machines steps ≡ with_counts (direct whole_log net machines steps)

-- where bytes are the text of a procedure's bit steps, some compare of their play differs exactly where some
-- read of the procedure's direct meaning does
abbrev pub RunsDifferAlike : Type 0
RunsDifferAlike =
    (net : Net) (form : Items) (device : Device) (models : List SeenModel) (steps : List SeenStep)
    (bytes : List ℕ) (commands : List SeenCommand)
    → DoesSteps net form device steps bytes → svf bytes ≡ Ok commands
    → is_empty (differs_of net device models commands) ≡ is_empty (direct_differs net models steps)

-- What a play of planned steps from power-up compares are the reads of the steps, at their places, with the
-- values that the direct meaning finds, whatever the instruments are.
abbrev pub ReadsAreCompared : Type 0
ReadsAreCompared =
    (net : Net) (form : Items) (device : Device) (machines : List Machine) (plans : List PlannedStep)
    → IsRetargetable net form → IsDevice device → StepsArePlanned net form (start_holds net) plans
    → let chip = fault_free whole_log net device machines in
    let script = script_of net (start_holds net) plans in
    AreComparedAt (places net plans) (at_end chip script).reads (compared chip script)

-- so each compare is of one read: the one that is at its scan and position
abbrev pub ComparesAreNamed : Type 0
ComparesAreNamed =
    (net : Net) (form : Items) (device : Device) (machines : List Machine) (plans : List PlannedStep)
    → IsRetargetable net form → IsDevice device → StepsArePlanned net form (start_holds net) plans
    → let chip = fault_free whole_log net device machines in
    let script = script_of net (start_holds net) plans in
    (c : Compare) → Contains (compared chip script) c
    → IsNamed (places net plans) (at_end chip script).reads c

-- Where bytes are the text of a procedure's bit steps, each compare of their play that differs is of the read
-- that is at its place in the plans of these steps, and the value found there is the one that the
-- procedure's direct meaning finds for this read.
abbrev pub DiffersAreNamed : Type 0
DiffersAreNamed =
    (net : Net) (form : Items) (device : Device) (models : List SeenModel) (steps : List SeenStep)
    (bytes : List ℕ) (commands : List SeenCommand) (plans : List PlannedStep)
    → DoesSteps net form device steps bytes → svf bytes ≡ Ok commands
    → StepsArePlanned net form (start_holds net) plans → map seen_of plans ≡ steps
    → (c : Compare) → Contains (differs_of net device models commands) c
    → IsNamed (places net plans) (direct count_log net (map machine_of models) steps).reads c
