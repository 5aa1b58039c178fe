use Rattle.ijtag_stages.specs.SvfText.{svf_text}
use Rattle.ijtag_work.specs.Order.{commands_of}
use Rattle.ijtag_core.proofs.svf.read_commands.Goals as goal

pub returns-in-Ok-clause-given : goal.returns-in-Ok-clause-given
unfolding svf_text commands_of
returns-in-Ok-clause-given c = c.in-Ok.ensures.follows
