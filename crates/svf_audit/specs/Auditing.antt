-- How the code of an audit follows the definition, command by command.
use Rattle.std.specs.Prelude.{◌≡◌, ℕ, Bool, true, false, not, ◌&&◌, List, map, All, Option, Some, Result, Ok}
use Rattle.std.specs.Prelude.{Err}
use Rattle.net_graph.specs.declared.device.Device.{Device}
use Rattle.net_graph.specs.declared.net.Net.{Net}
use Rattle.net_graph.specs.SeenSteps.{SeenGroup, seen_step}
use Rattle.net_graph.specs.Steps.{IsStep}
use Rattle.net_graph.specs.Signals.{Holds}
use Rattle.net_graph.specs.Path.{route_of}
use Rattle.net_graph.specs.Numbered.{HaveMarks}
use Rattle.svf_writer.specs.Fits.{FitsAfter}
use Rattle.svf_writer.specs.SeenCommands.{SeenCommand, SeenScan, SIR, SDR, Reset, Idle, Run}
use Rattle.tap_machine.specs.Play.{is_empty, played}
use Rattle.svf_audit.specs.Audit.{Reading, State, Says, at_end, changed, compares, do_group as do_due}
use Rattle.svf_audit.specs.Audit.{does_reads, does_writes, need, reset as reset_by, scan as scan_of, scanned}
use Rattle.svf_audit.specs.Audit.{step as step_of, was_reset}
use Rattle.svf_audit.specs.LastParts.{AreLastParts, seen_last}
use Rattle.svf_audit.specs.Left.{IsWithin, work_left}
use Rattle.svf_audit.specs.Registers.{path_in, AreRegisters, AreStill}
use Rattle.svf_audit.specs.declared.answer.Audit.{Audit}
use Rattle.svf_audit.specs.declared.answer.Audit.TheVariants.{Yes as SaysYes, No as SaysNo}
use Rattle.svf_audit.specs.declared.answer.Cause.{Cause}
use Rattle.svf_audit.specs.declared.answer.Cause.TheVariants.{Write, Read}
use Rattle.svf_audit.specs.declared.auditor.Auditor.{Auditor}
use Rattle.svf_audit.specs.declared.auditor.Halt.{Halt}
use Rattle.svf_audit.specs.declared.auditor.Halt.TheVariants.{OutOfMemory as MemoryHalt, Cause as CauseHalt}
use Rattle.svf_audit.specs.declared.registers.Registers.{Registers}

-- between two commands
pub record IsAuditor (a : Auditor) : Type 0 where
  pub registers : AreRegisters a.registers
  pub still : AreStill a.registers
  pub ir : AreLastParts a.ir
  pub dr : AreLastParts a.dr
  pub marks : HaveMarks a.registers.net.now a.marks
  pub within : IsWithin a.left
  pub steps : All (IsStep a.registers.net.now) (map seen_step a.left.steps.now.items)

-- the state of the definition, with these groups that were done
abbrev pub state_of : Auditor → List Reading → State
state_of a readings = record {
  holds = a.registers.holds;
  linked = a.linked;
  rest = a.rest;
  ir = seen_last a.ir;
  dr = seen_last a.dr;
  scans = a.scans;
  readings = readings;
  left = work_left a.left;
}

-- the groups that were done are those of the scans that are noted
abbrev pub AreNoted : Auditor → List Reading → Type 0
AreNoted a readings = a.readings.items ≡ map (λ r. r.scan) readings

abbrev pub Step : Type 0
Step = Net → Device → State → Result State Cause

abbrev pub ok : State → Result State Cause
ok s = Ok s

-- a step of the definition leads from one to the other
pub record Follows (step : Step) (old new : Auditor) : Type 0 where
  pub sound : IsAuditor new
  pub net : new.registers.net.now ≡ old.registers.net.now
  pub device : new.device.now ≡ old.device.now
  pub goes : (readings : List Reading) → AreNoted old readings → (more : List Reading) × AreNoted new more
      × (step old.registers.net.now old.device.now (state_of old readings) ≡ ok (state_of new more))

-- or it meets a cause
abbrev pub Stops : Step → Auditor → Halt → Type 0
Stops step old MemoryHalt = Unit {0}
Stops step old (CauseHalt cause) =
    (readings : List Reading) → step old.registers.net.now old.device.now (state_of old readings) ≡ Err cause

-- what follows an answer
abbrev pub then : {A : Type 0} → Result A Cause → Result State Cause → Result State Cause
then (Ok x) next = next
then (Err cause) next = Err cause

-- whether the scan at hand does a group, by its tests in their order
abbrev pub Does : {A : Type 0} → Registers → List (Option Bool) → SeenGroup → Result A Cause → Type 0
Does r expects g result =
    (next : Result State Cause) →
    need (does_writes g (changed r.net.now (path_in r) r.holds r.after) r.after) Write
    (need (does_reads g (path_in r) r.holds expects) Read next)
    ≡ then result next

-- the scan at hand did the group that was due
abbrev pub DidGroup : Auditor → Auditor → SeenScan → Type 0
DidGroup old new x =
    (readings : List Reading) → AreNoted old readings →
    (more : List Reading) × AreNoted new more
    × (do_due old.registers.net.now old.device.now (state_of old readings) x old.registers.after
    ≡ ok (scanned old.registers.net.now old.device.now
    (state_of old readings) x old.registers.after more (work_left new.left)))

-- what a data scan of the network does where it leaves these bits
abbrev pub do_scan_work : Net → Device → State → SeenScan → Holds → Result State Cause
do_scan_work net device a x now =
    elim (is_empty (changed net (route_of net a.holds) a.holds now) && not (compares (played a.dr x))) [
      | true ↦ Ok (scanned net device a x now a.readings a.left)
      | false ↦ do_due net device a x now
    ]

abbrev pub DidAct : Auditor → Auditor → SeenScan → Type 0
DidAct old new x =
    (readings : List Reading) → AreNoted old readings →
    (more : List Reading) × AreNoted new more
    × (do_scan_work old.registers.net.now old.device.now (state_of old readings) x old.registers.after
    ≡ ok (scanned old.registers.net.now old.device.now
    (state_of old readings) x old.registers.after more (work_left new.left)))

-- a data scan of the network was done
abbrev pub DidScan : Auditor → Auditor → SeenScan → Type 0
DidScan old new x =
    (readings : List Reading) → AreNoted old readings →
    (more : List Reading) × AreNoted new more
    × (scan_of old.registers.net.now old.device.now (state_of old readings) x
    ≡ ok (scanned old.registers.net.now old.device.now
    (state_of old readings) x new.registers.holds more (work_left new.left)))

-- a data scan was done, whether it reached the network or not
abbrev pub DidReach : Auditor → Auditor → SeenScan → Type 0
DidReach old new x =
    (readings : List Reading) → AreNoted old readings →
    (more : List Reading) × AreNoted new more
    × (step_of old.registers.net.now old.device.now (state_of old readings) (SDR x)
    ≡ ok (scanned old.registers.net.now old.device.now
    (state_of old readings) x new.registers.holds more (work_left new.left)))

-- the work of a reset was done
abbrev pub DidReset : Auditor → Auditor → Type 0
DidReset old new =
    (readings : List Reading) → reset_by old.registers.net.now old.device.now old.rest (state_of old readings)
    ≡ ok (was_reset old.registers.net.now old.device.now (state_of old readings) (work_left new.left))

-- after all commands
abbrev pub Ends : Audit → Auditor → Type 0
Ends answer a =
    (readings : List Reading) → AreNoted a readings
    → Says answer (at_end a.registers.net.now a.device.now (state_of a readings))

-- the no of a cause
abbrev pub IsNo : Halt → ℕ → Audit → Type 0
IsNo MemoryHalt scan answer = ⊥
IsNo (CauseHalt cause) scan (SaysYes scans) = ⊥
IsNo (CauseHalt cause) scan (SaysNo k c) = (k ≡ scan) × (c ≡ cause)

-- ---- commands that fit, one by one

-- the lengths of the last scans of each kind, after a command
abbrev pub last_ir : Option ℕ → SeenCommand → Option ℕ
last_ir ir (SIR x) = Some x.len
last_ir ir _ = ir

abbrev pub last_dr : Option ℕ → SeenCommand → Option ℕ
last_dr dr (SDR x) = Some x.len
last_dr dr _ = dr

abbrev pub FitsNext : Option ℕ → Option ℕ → SeenCommand → Type 0
FitsNext ir dr (SIR x) = FitsAfter ir x
FitsNext ir dr (SDR x) = FitsAfter dr x
FitsNext ir dr Reset = Unit {0}
FitsNext ir dr Idle = Unit {0}
FitsNext ir dr (Run n) = Unit {0}
