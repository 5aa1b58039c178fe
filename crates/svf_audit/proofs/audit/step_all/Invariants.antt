use Rattle.std.proofs.Common.{◌≡◌, ◌+◌, ◌<◌, ◌^◌, [], drop}
use Rattle.svf_writer.specs.Fits.{AreFitAfter}
use Rattle.tap_machine.specs.Play.{scans_in}
use Rattle.svf_audit.specs.Audit.{audit_from}
use Rattle.svf_audit.specs.Auditing.{state_of, IsAuditor}
use Rattle.svf_audit.specs.LastParts.{last_length}
use Rattle.svf_audit.proofs.Looping.{Leads}
use Rattle.svf_audit.proofs.audit.step_all.Given as goal

abbrev pub invariant-loop-i : goal.invariant-loop-i
invariant-loop-i l =
    record {
      sound : IsAuditor l.auditor;
      net : l.auditor.registers.net.now ≡ l.fn.auditor.registers.net.now;
      device : l.auditor.device.now ≡ l.fn.auditor.device.now;
      fit : AreFitAfter (last_length l.auditor.ir) (last_length l.auditor.dr) (drop l.i l.commands);
      few : l.auditor.scans + scans_in (drop l.i l.commands) < 2 ^ 32;
      leads : Leads l.fn.auditor.registers.net.now l.fn.auditor.device.now l.auditor (drop l.i l.commands)
          (audit_from l.fn.auditor.registers.net.now l.fn.auditor.device.now
          (state_of l.fn.auditor []) l.commands);
    }
