use Rattle.std.proofs.Common.{◌≡◌, ap, sym, ◌∙◌}
use Rattle.svf_writer.specs.SeenCommands.{seen_scan}
use Rattle.svf_audit.specs.Audit.{scanned}
use Rattle.svf_audit.specs.Auditing.{ok, state_of}
use Rattle.svf_audit.specs.LastParts.{seen_last}
use Rattle.svf_audit.specs.Left.{work_left}
use Rattle.svf_audit.proofs.Going.{kept_length, kept_tdi, scan_acts, scan_length, scan_select}
use Rattle.svf_audit.proofs.Scanning.{act_as, after, after_as, chain_as, rows_as, scan_stops}
use Rattle.svf_audit.proofs.auditor.Auditor.scan.Goals as goal

pub returns-then-kept-len-clause-err : goal.returns-then-kept-len-clause-err
returns-then-kept-len-clause-err c =
    let a = c.args.self.now in
    let r = c.find.new.self in
    let x = seen_scan c.args.scan.now in
    λ rs. scan_length a.registers.net.now a.device.now (state_of a rs) x
    (λ e. c.if-kept-len.true (kept_length c.args.kept.now (seen_last a.dr) x c.requires.next ∙ e
    ∙ sym (chain_as a r x c.find.ensures.net c.find.ensures.holds) ∙ sym c.len.ensures))

pub returns-then-not-have_rows-clause-err : goal.returns-then-not-have_rows-clause-err
returns-then-not-have_rows-clause-err c =
    let a = c.args.self.now in
    let r = c.shift.new.self in
    let x = seen_scan c.args.scan.now in
    let net = c.shift.ensures.net ∙ c.find.ensures.net in
    let holds = c.shift.ensures.holds ∙ c.find.ensures.holds in
    let aft = after_as a r x net holds c.shift.ensures.shifted
    (c.shift.ensures.tdi ∙ kept_tdi c.args.kept.now (seen_last a.dr) x c.requires.next) in
    let len = sym (kept_length c.args.kept.now (seen_last a.dr) x c.requires.next) ∙ c.if-kept-len.false
    ∙ c.len.ensures ∙ chain_as a c.find.new.self x c.find.ensures.net c.find.ensures.holds in
    λ rs. scan_select a.registers.net.now a.device.now (state_of a rs) x len
    (sym (rows_as a r x net holds aft) ∙ sym c.have_rows.ensures ∙ c.if-not-have_rows.true)

pub returns-in-Err-clause-err : goal.returns-in-Err-clause-err
returns-in-Err-clause-err c =
    let a = c.args.self.now in
    let r = c.shift.new.self in
    let x = seen_scan c.args.scan.now in
    let net = c.shift.ensures.net ∙ c.find.ensures.net in
    let holds = c.shift.ensures.holds ∙ c.find.ensures.holds in
    let aft = after_as a r x net holds c.shift.ensures.shifted
    (c.shift.ensures.tdi ∙ kept_tdi c.args.kept.now (seen_last a.dr) x c.requires.next) in
    let len = sym (kept_length c.args.kept.now (seen_last a.dr) x c.requires.next) ∙ c.if-kept-len.false
    ∙ c.len.ensures ∙ chain_as a c.find.new.self x c.find.ensures.net c.find.ensures.holds in
    scan_stops a r x net holds aft len (sym (rows_as a r x net holds aft) ∙ sym c.have_rows.ensures
    ∙ c.if-not-have_rows.false) c.in-Err.halt c.in-Err.ensures.err

pub returns-clause-ok : goal.returns-clause-ok
returns-clause-ok c =
    let a = c.args.self.now in
    let r = c.shift.new.self in
    let x = seen_scan c.args.scan.now in
    let net = c.shift.ensures.net ∙ c.find.ensures.net in
    let holds = c.shift.ensures.holds ∙ c.find.ensures.holds in
    let aft = after_as a r x net holds c.shift.ensures.shifted
    (c.shift.ensures.tdi ∙ kept_tdi c.args.kept.now (seen_last a.dr) x c.requires.next) in
    let len = sym (kept_length c.args.kept.now (seen_last a.dr) x c.requires.next) ∙ c.if-kept-len.false
    ∙ c.len.ensures ∙ chain_as a c.find.new.self x c.find.ensures.net c.find.ensures.holds in
    let rows = sym (rows_as a r x net holds aft) ∙ sym c.have_rows.ensures ∙ c.if-not-have_rows.false in
    let left = work_left c.do_scan_work.new.self.left in
    let upd : c.update.new.self.holds ≡ after a r x net holds =
    c.update.ensures.holds ∙ ap (λ z. z.registers.after) c.do_scan_work.ensures.others ∙ aft in
    λ rs n.
    let d = c.in_default.ensures.ok rs n in (
      d.0,
      d.1,
      scan_acts a.registers.net.now a.device.now (state_of a rs) x len rows
          ∙ act_as a r x net holds rs d.0 left aft d.2
          ∙ ap (λ h. ok (scanned a.registers.net.now a.device.now (state_of a rs) x h d.0 left)) (sym upd),
    )
