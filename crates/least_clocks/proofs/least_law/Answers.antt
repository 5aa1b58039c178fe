use Rattle.least_clocks.proofs.Bounded.{none_takes_fewer}
use Rattle.least_clocks.proofs.least_law.Goals as goal

pub returns : goal.returns
returns c = none_takes_fewer
