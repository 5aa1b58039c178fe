use Rattle.std.proofs.Common.{◌≡◌, ap, sym, ◌∙◌, arith, suc, ◌+◌, drop}
use Rattle.tap_machine.proofs.Shifts.{last_shift, other_shift}
use Rattle.tap_machine.specs.Remaining.{pins_from, scan_under_way}
use Rattle.tap_machine.proofs.progress.Progress.shift_after.Goals as goal

pub returns-then-k-last-clause-pins : goal.returns-then-k-last-clause-pins
returns-then-k-last-clause-pins c =
    let all = c.requires.sound.scan.tdi in
    sym (ap (drop 1) (last_shift c.args.self.now.scans (scan_under_way c.args.self.now) c.args.k
    (omega (arith, all)) (omega (arith, all))))

pub returns-else-k-last-clause-pins : goal.returns-else-k-last-clause-pins
returns-else-k-last-clause-pins c =
    let all = c.requires.sound.scan.tdi in
    let next : c.args.k + 1 ≡ suc c.args.k = omega arith in
    ap (λ n. pins_from c.args.self.now.scans (scan_under_way c.args.self.now) n) next
    ∙ sym (ap (drop 1) (other_shift c.args.self.now.scans (scan_under_way c.args.self.now) c.args.k
    (omega (arith, all)) (omega (arith, all))))
