use Rattle.icl_signals.proofs.NetsWellFormed.{nets_are_well_formed}
use Rattle.icl_signals.proofs.laws.nets_are_well_formed.Goals as goal

pub returns : goal.returns
returns c = nets_are_well_formed
