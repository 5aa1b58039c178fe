use Rattle.ijtag_stages.proofs.svf.read_svf.Goals as goal

pub returns-in-Ok-clause-clocks : goal.returns-in-Ok-clause-clocks
returns-in-Ok-clause-clocks c =
    (c.read_commands_are_playable.ensures c.args.text.now c.in-Ok.commands c.in-Ok.ensures.ok).0

pub returns-in-Ok-clause-scans : goal.returns-in-Ok-clause-scans
returns-in-Ok-clause-scans c =
    (c.read_commands_are_playable.ensures c.args.text.now c.in-Ok.commands c.in-Ok.ensures.ok).1
