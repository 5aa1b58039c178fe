use Rattle.net_wave.proofs.Changing.{stays_text}
use Rattle.net_wave.proofs.moments.add_var.Goals as goal

pub returns-then-not-changes-clause-text : goal.returns-then-not-changes-clause-text
returns-then-not-changes-clause-text c =
    stays_text c.args.first c.args.number c.args.piece.now c.args.told.now.items _ c.if-not-first.true
    (c.requires.stays c.if-not-first.true c.if-not-changes.true)
