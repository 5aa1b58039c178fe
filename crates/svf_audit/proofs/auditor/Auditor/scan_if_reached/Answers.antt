use Rattle.std.proofs.Common.{true, false, ap, sym, ◌∙◌}
use Rattle.std.specs.List.{list_any}
use Rattle.std.specs.Option.{is_some}
use Rattle.svf_writer.specs.SeenCommands.{seen_scan, SDR}
use Rattle.svf_audit.specs.Audit.{pass, scan, step}
use Rattle.svf_audit.specs.Auditing.{state_of, DidReach, DidScan, Stops}
use Rattle.svf_audit.specs.LastParts.{seen_last}
use Rattle.svf_audit.proofs.Going.{kept_looks, pass_compares, pass_goes}
use Rattle.svf_audit.proofs.Scanning.{if_err, on_ok, stops_as}
use Rattle.svf_audit.proofs.auditor.Auditor.scan_if_reached.Goals as goal

pub returns-then-compares_some-clause-err : goal.returns-then-compares_some-clause-err
returns-then-compares_some-clause-err c =
    let a = c.args.self.now in
    let x = seen_scan c.args.scan.now in
    λ rs.
    ap (λ t. elim t [
      | true ↦ scan a.registers.net.now a.device.now (state_of a rs) x
      | false ↦ pass a.registers.net.now a.device.now (state_of a rs) x
    ]) c.if-self.false
    ∙ pass_compares a.registers.net.now a.device.now (state_of a rs) x
    (sym (ap (list_any is_some) (kept_looks c.args.kept.now (seen_last a.dr) x c.requires.next))
    ∙ sym c.compares_some.ensures ∙ c.if-compares_some.true)

pub returns-clause-ok : goal.returns-clause-ok
returns-clause-ok c =
    let a = c.args.self.now in
    let x = seen_scan c.args.scan.now in
    λ rs n. (
      rs,
      n,
      ap (λ t. elim t [
        | true ↦ scan a.registers.net.now a.device.now (state_of a rs) x
        | false ↦ pass a.registers.net.now a.device.now (state_of a rs) x
      ]) c.if-self.false
          ∙ pass_goes a.registers.net.now a.device.now (state_of a rs) x
          (sym (ap (list_any is_some) (kept_looks c.args.kept.now (seen_last a.dr) x c.requires.next))
          ∙ sym c.compares_some.ensures ∙ c.if-compares_some.false),
    )

pub returns-then-self-clause-err : goal.returns-then-self-clause-err
returns-then-self-clause-err c =
    let a = c.args.self.now in
    let x = seen_scan c.args.scan.now in
    if_err (Stops (λ net device s. scan net device s x) a)
    (Stops (λ net device s. step net device s (SDR x)) a) c.scan.result
    (stops_as (λ net device s. scan net device s x) (λ net device s. step net device s (SDR x)) a
    (λ rs cause e. ap (λ t. elim t [
      | true ↦ scan a.registers.net.now a.device.now (state_of a rs) x
      | false ↦ pass a.registers.net.now a.device.now (state_of a rs) x
    ]) c.if-self.true ∙ e))
    c.scan.ensures.err

pub returns-then-self-clause-ok : goal.returns-then-self-clause-ok
returns-then-self-clause-ok c =
    let a = c.args.self.now in
    let x = seen_scan c.args.scan.now in
    on_ok (DidScan a c.scan.new.self x) (DidReach a c.scan.new.self x) c.scan.result (λ did rs n.
    let d = did rs n in (
      d.0,
      d.1,
      ap (λ t. elim t [
        | true ↦ scan a.registers.net.now a.device.now (state_of a rs) x
        | false ↦
            pass a.registers.net.now a.device.now (state_of a rs) x
      ]) c.if-self.true ∙ d.2,
    )) c.scan.ensures.ok
