use Rattle.svf_audit.proofs.Pieces.{left_held}
use Rattle.svf_audit.proofs.auditor.Auditor.do_reset.Goals as goal

pub do_reset-requires-clause-held : goal.do_reset-requires-clause-held
do_reset-requires-clause-held c =
    let a = c.args.self.now in
    left_held a.registers.net.now a.registers.holds a.left
    c.requires.sound.registers.holds c.requires.sound.steps
