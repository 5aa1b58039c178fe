use Rattle.svf_audit.specs.Audit.{Says, audit_from}
use Rattle.svf_audit.specs.Auditing.{state_of, IsNo}
use Rattle.std.proofs.Common.{[]}
use Rattle.svf_audit.proofs.Scanning.{if_ok}
use Rattle.svf_audit.proofs.audit.audited.Goals as goal

pub returns-in-Err : goal.returns-in-Err
returns-in-Err c =
    let old = c.args.auditor.now in
    let whole = audit_from old.registers.net.now old.device.now (state_of old []) c.args.commands.now in
    if_ok (IsNo c.in-Err.stop.halt c.in-Err.stop.scan)
    (λ answer. Says answer whole) c.stopped.result c.in-Err.ensures.err c.stopped.ensures
