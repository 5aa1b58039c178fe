use Rattle.icl_elab.proofs.NamedCells.{hierarchies_are_well_formed}
use Rattle.icl_elab.proofs.laws.hierarchies_are_well_formed.Goals as goal

pub returns : goal.returns
returns c = hierarchies_are_well_formed
