use Rattle.icl_signals.proofs.NetsWellFormed.{well_formed_if}
use Rattle.icl_signals.proofs.connecting.connect.Goals as goal

pub returns-clause-well_formed : goal.returns-clause-well_formed
returns-clause-well_formed c = well_formed_if c.network_of.result _ _ _ c.network_of.ensures
