use Rattle.std.proofs.Common.{◌+◌, refl, ap, sym, ◌∙◌, subst, add-one}
use Rattle.std.specs.List.{list_any}
use Rattle.std.specs.Option.{is_some}
use Rattle.ij_bits.specs.BitLists.{bits_eq, bits_of}
use Rattle.svf_writer.specs.Fits.{HasLength}
use Rattle.svf_writer.specs.SeenCommands.{seen_scan}
use Rattle.svf_audit.specs.Auditing.{state_of}
use Rattle.svf_audit.specs.LastParts.{seen_last}
use Rattle.svf_audit.proofs.Going.{kept_length, kept_looks, kept_tdi, load_compares, load_goes, load_length}
use Rattle.svf_audit.proofs.auditor.Auditor.load_instruction.Goals as goal

pub compares_some-requires-clause-tdo : goal.compares_some-requires-clause-tdo
compares_some-requires-clause-tdo c =
    let a = c.args.self.now in
    subst (λ n. HasLength n c.args.scan.now.tdo) (sym (kept_length c.parts_after-kept.result (seen_last a.ir)
    (seen_scan c.args.scan.now) c.parts_after-kept.ensures.kept)) c.requires.fits.tdo

pub returns-then-scan-self-clause-err : goal.returns-then-scan-self-clause-err
returns-then-scan-self-clause-err c =
    let a = c.args.self.now in
    λ rs. load_length a.registers.net.now a.device.now (state_of a rs)
    (seen_scan c.args.scan.now) c.if-scan-self.true

pub returns-then-compares_some-clause-err : goal.returns-then-compares_some-clause-err
returns-then-compares_some-clause-err c =
    let a = c.args.self.now in
    let x = seen_scan c.args.scan.now in
    λ rs. load_compares a.registers.net.now a.device.now (state_of a rs) x c.if-scan-self.false
    (sym (ap (list_any is_some) (kept_looks c.parts_after-kept.result (seen_last a.ir) x
    c.parts_after-kept.ensures.kept)) ∙ sym c.compares_some.ensures ∙ c.if-compares_some.true)

pub returns-clause-ok : goal.returns-clause-ok
returns-clause-ok c =
    let a = c.args.self.now in
    let k = c.parts_after-kept.result in
    let x = seen_scan c.args.scan.now in
    let e = c.parts_after-kept.ensures.kept in
    let len = kept_length k (seen_last a.ir) x e ∙ c.if-scan-self.false in
    let linked = c.is_number-self.ensures
    ∙ ap (λ n. bits_eq (seen_last k).tdi (bits_of n a.device.now.opcode)) len ∙ ap (λ bits. bits_eq bits
    (bits_of a.device.now.ir a.device.now.opcode)) (kept_tdi k (seen_last a.ir) x e) in
    record {
      sound = record {
        registers = c.requires.sound.registers;
        still = c.requires.sound.still;
        ir = c.parts_after-kept.ensures.sound;
        dr = c.requires.sound.dr;
        marks = c.requires.sound.marks;
        within = c.requires.sound.within;
        steps = c.requires.sound.steps;
      };
      net = refl;
      device = refl;
      goes = λ rs n. (
        rs,
        n,
        load_goes a.registers.net.now a.device.now (state_of a rs) x c.is_number-self.result (seen_last k)
            (a.scans + 1) c.if-scan-self.false
            (sym (ap (list_any is_some) (kept_looks k (seen_last a.ir) x e))
            ∙ sym c.compares_some.ensures ∙ c.if-compares_some.false) linked e (add-one a.scans),
      );
    }
