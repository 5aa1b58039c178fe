use Rattle.std.proofs.Common.{◌≡◌, ◌+◌, ◌∷◌, ap, sym, ◌∙◌, subst, arith, refl, [], drop}
use Rattle.svf_writer.specs.Fits.{AreFitAfter}
use Rattle.svf_writer.specs.SeenCommands.{seen_command}
use Rattle.tap_machine.specs.Play.{scans_in}
use Rattle.tap_machine.proofs.ScanCounts.{scans_first}
use Rattle.svf_audit.specs.Audit.{audit_from}
use Rattle.svf_audit.specs.Auditing.{last_ir, state_of}
use Rattle.svf_audit.specs.LastParts.{last_length}
use Rattle.svf_audit.proofs.Looping.{command_here, fits_next, leads_on, leads_to_no, Leads}
use Rattle.svf_audit.proofs.audit.step_all.Goals as goal

pub loop-i-init : goal.loop-i-init
loop-i-init c = record {
  sound = c.requires.sound;
  net = refl;
  device = refl;
  fit = c.requires.fit;
  few = c.requires.few;
  leads = ([], c.requires.noted, refl);
}

pub step-requires-clause-fits : goal.step-requires-clause-fits
step-requires-clause-fits c =
    let a = c.loop-i.auditor in
    let cs = c.args.commands.now in
    let i = c.loop-i.i in
    let s = seen_command c.get-command.result.now in
    let here : drop i cs ≡ s ∷ drop (i + 1) cs =
    command_here cs i s (omega (arith, c.len-i-end.ensures.count)) c.get-command.ensures in
    (fits_next s (last_length a.ir) (last_length a.dr) (drop (i + 1) cs)
    (subst (AreFitAfter (last_length a.ir) (last_length a.dr)) here c.loop-i.invariant.fit)).0

pub step-requires-clause-few : goal.step-requires-clause-few
step-requires-clause-few c =
    let cs = c.args.commands.now in
    let i = c.loop-i.i in
    let s = seen_command c.get-command.result.now in
    let here : drop i cs ≡ s ∷ drop (i + 1) cs =
    command_here cs i s (omega (arith, c.len-i-end.ensures.count)) c.get-command.ensures in
    omega (arith, c.loop-i.invariant.few, ap scans_in here, scans_first s (drop (i + 1) cs))

pub returns-in-Err-clause-err : goal.returns-in-Err-clause-err
returns-in-Err-clause-err c =
    let v = c.loop-i.invariant in
    let a = c.loop-i.auditor in
    let old = c.args.auditor.now in
    let net = old.registers.net.now in
    let device = old.device.now in
    let cs = c.args.commands.now in
    let i = c.loop-i.i in
    let s = seen_command c.get-command.result.now in
    let whole = audit_from net device (state_of old []) cs in
    let here : drop i cs ≡ s ∷ drop (i + 1) cs =
    command_here cs i s (omega (arith, c.len-i-end.ensures.count)) c.get-command.ensures in
    let n = c.step.new.self.scans + c.scans_of.result in
    let count = ap (λ k. k + c.scans_of.result) c.in-Err.ensures.scans
    ∙ ap (λ k. a.scans + k) c.scans_of.ensures in
    λ answer is. leads_to_no net device a v.net v.device s (drop (i + 1) cs) whole c.in-Err.halt n answer
    c.in-Err.ensures.err count (subst (λ ys. Leads net device a ys whole) here v.leads) is

pub loop-i-preserved : goal.loop-i-preserved
loop-i-preserved c =
    let v = c.loop-i.invariant in
    let a = c.loop-i.auditor in
    let b = c.step.new.self in
    let old = c.args.auditor.now in
    let net = old.registers.net.now in
    let device = old.device.now in
    let cs = c.args.commands.now in
    let i = c.loop-i.i in
    let s = seen_command c.get-command.result.now in
    let rest = drop (i + 1) cs in
    let whole = audit_from net device (state_of old []) cs in
    let here : drop i cs ≡ s ∷ rest =
    command_here cs i s (omega (arith, c.len-i-end.ensures.count)) c.get-command.ensures in
    let d = c.in_default.ensures in
    let fit = (fits_next s (last_length a.ir) (last_length a.dr) rest
    (subst (AreFitAfter (last_length a.ir) (last_length a.dr)) here v.fit)).1 in
    record {
      sound = d.ok.sound;
      net = d.ok.net ∙ v.net;
      device = d.ok.device ∙ v.device;
      fit = subst (λ n. AreFitAfter n (last_length b.dr) rest) (sym d.ir)
          (subst (λ n. AreFitAfter (last_ir (last_length a.ir) s) n rest) (sym d.dr) fit);
      few = omega (arith, v.few, ap scans_in here, scans_first s rest, d.more);
      leads = leads_on net device a v.net v.device b s rest whole d.ok
          (subst (λ ys. Leads net device a ys whole) here v.leads);
    }
