use Rattle.std.proofs.Common.{ap, sym, ◌∙◌, subst}
use Rattle.std.specs.Prelude.{All, map}
use Rattle.net_graph.specs.Numbered.{HaveMarks}
use Rattle.net_graph.specs.SeenSteps.{seen_step}
use Rattle.net_graph.specs.Steps.{IsStep}
use Rattle.svf_writer.specs.Fits.{HasLength}
use Rattle.svf_writer.specs.SeenCommands.{seen_scan}
use Rattle.svf_audit.specs.LastParts.{seen_last, AreLastParts}
use Rattle.svf_audit.proofs.Going.{kept_length}
use Rattle.svf_audit.proofs.Scanning.{data_goes}
use Rattle.svf_audit.proofs.auditor.Auditor.data_scan.Goals as goal

pub scan_if_reached-requires-clause-tdo : goal.scan_if_reached-requires-clause-tdo
scan_if_reached-requires-clause-tdo c =
    let a = c.args.self.now in
    subst (λ n. HasLength n c.args.scan.now.tdo) (sym (kept_length c.parts_after-kept.result (seen_last a.dr)
    (seen_scan c.args.scan.now) c.parts_after-kept.ensures.kept)) c.requires.fits.tdo

pub returns-clause-ok : goal.returns-clause-ok
returns-clause-ok c =
    let a = c.args.self.now in
    let z = c.scan_if_reached.new.self in
    let o = c.scan_if_reached.ensures.others in
    let d = c.in_default.ensures in
    record {
      sound = record {
        registers = d.sound;
        still = d.still;
        ir = subst (λ y. AreLastParts y.ir) (sym o) c.requires.sound.ir;
        dr = c.parts_after-kept.ensures.sound;
        marks = subst (λ n. HaveMarks n z.marks) (sym d.net) d.marks;
        within = d.within;
        steps = subst (λ n. All (IsStep n) (map seen_step z.left.steps.now.items)) (sym d.net)
            (subst (λ s. All (IsStep a.registers.net.now) (map seen_step s.now.items))
            (sym d.steps) c.requires.sound.steps);
      };
      net = d.net;
      device = ap (λ y. y.device.now) o;
      goes = λ rs n.
          let e = d.ok rs n in (
            e.0,
            e.1,
            e.2 ∙ data_goes a.registers.net.now a z c.parts_after-kept.result
                (seen_scan c.args.scan.now) rs e.0 (ap (λ y. y.linked) o) (ap (λ y. y.ir) o)
                (ap (λ y. y.scans) o) c.parts_after-kept.ensures.kept,
          );
    }
