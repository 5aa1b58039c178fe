use Rattle.ijtag_work.proofs.Audits.{plays_as_meant}
use Rattle.ijtag_core.proofs.audit.a_yes_does_as_meant.Goals as goal

pub returns : goal.returns
returns c =
    λ agrees. plays_as_meant c.audits_law.ensures.plays c.bit_steps_are_of_the_network.ensures.steps
    c.args.it.now c.requires.usable c.requires.procedure
    c.args.commands.now c.len-count.ensures.fits agrees
