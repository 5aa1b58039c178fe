use Rattle.svf_audit.proofs.Pieces.{left_held}
use Rattle.svf_audit.proofs.auditor.Auditor.is_done.Goals as goal

pub is_done-requires-clause-held : goal.is_done-requires-clause-held
is_done-requires-clause-held c =
    let a = c.args.self.now in
    left_held a.registers.net.now a.registers.holds a.left
    c.requires.sound.registers.holds c.requires.sound.steps
