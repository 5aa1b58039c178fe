use Rattle.std.proofs.Common.{◌≡◌, ap, ◌∙◌}
use Rattle.std.specs.Prelude.{not}
use Rattle.std.specs.List.{list_any}
use Rattle.std.specs.Option.{is_some}
use Rattle.svf_writer.specs.SeenCommands.{seen_scan}
use Rattle.tap_machine.specs.Play.{played}
use Rattle.svf_audit.specs.Audit.{compares, do_group}
use Rattle.svf_audit.specs.Auditing.{do_scan_work, state_of, DidAct, DidGroup, Stops}
use Rattle.svf_audit.specs.LastParts.{looked_for, seen_last}
use Rattle.svf_audit.proofs.Going.{kept_looks}
use Rattle.svf_audit.proofs.Scanning.{act_does, act_silent, if_err, on_ok, silent_as, stops_as}
use Rattle.svf_audit.proofs.auditor.Auditor.do_scan_work.Goals as goal

pub returns-then-not-acts_on_data-clause-ok : goal.returns-then-not-acts_on_data-clause-ok
returns-then-not-acts_on_data-clause-ok c =
    let a = c.args.self.now in
    let x = seen_scan c.args.scan.now in
    let looks : list_any is_some (looked_for c.args.kept.now x.tdo) ≡ compares (played (seen_last a.dr) x) =
    ap (list_any is_some) (kept_looks c.args.kept.now (seen_last a.dr) x c.requires.next) in
    λ rs n. (
      rs,
      n,
      act_silent a.registers.net.now a.device.now (state_of a rs) x a.registers.after (silent_as
          a.registers c.requires.shifted c.acts_on_data.result (list_any is_some (looked_for c.args.kept.now
          x.tdo))
          (compares (played (seen_last a.dr) x)) looks c.acts_on_data.ensures ∙ ap not
          c.if-not-acts_on_data.true),
    )

pub returns-clause-ok : goal.returns-clause-ok
returns-clause-ok c =
    let a = c.args.self.now in
    let x = seen_scan c.args.scan.now in
    let looks : list_any is_some (looked_for c.args.kept.now x.tdo) ≡ compares (played (seen_last a.dr) x) =
    ap (list_any is_some) (kept_looks c.args.kept.now (seen_last a.dr) x c.requires.next) in
    on_ok (DidGroup a c.do_group.new.self x) (DidAct a c.do_group.new.self x) c.do_group.result (λ did rs n.
    let d = did rs n in (
      d.0,
      d.1,
      act_does a.registers.net.now a.device.now (state_of a rs) x a.registers.after (silent_as
          a.registers c.requires.shifted c.acts_on_data.result (list_any is_some (looked_for c.args.kept.now
          x.tdo))
          (compares (played (seen_last a.dr) x)) looks c.acts_on_data.ensures ∙ ap not
          c.if-not-acts_on_data.false) ∙ d.2,
    ))
    c.do_group.ensures.ok

pub returns-clause-err : goal.returns-clause-err
returns-clause-err c =
    let a = c.args.self.now in
    let x = seen_scan c.args.scan.now in
    let looks : list_any is_some (looked_for c.args.kept.now x.tdo) ≡ compares (played (seen_last a.dr) x) =
    ap (list_any is_some) (kept_looks c.args.kept.now (seen_last a.dr) x c.requires.next) in
    if_err (Stops (λ net device s. do_group net device s x a.registers.after) a)
    (Stops (λ net device s. do_scan_work net device s x a.registers.after) a) c.do_group.result
    (stops_as (λ net device s. do_group net device s x a.registers.after) (λ net device s. do_scan_work net
    device
    s x a.registers.after) a (λ rs cause e. act_does a.registers.net.now a.device.now
    (state_of a rs) x a.registers.after (silent_as a.registers c.requires.shifted c.acts_on_data.result
    (list_any is_some (looked_for c.args.kept.now x.tdo)) (compares (played (seen_last a.dr) x)) looks
    c.acts_on_data.ensures ∙ ap not c.if-not-acts_on_data.false) ∙ e)) c.do_group.ensures.err
