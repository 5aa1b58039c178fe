use Rattle.ijtag_stages.proofs.Totals.{stages_total}
use Rattle.ijtag_stages.proofs.laws.stages_are_total.Goals as goal

pub returns : goal.returns
returns c = stages_total
