use Rattle.icl_elab.proofs.NamedCells.{hierarchies_are_few, hierarchies_are_in_tree}
use Rattle.icl_elab.proofs.laws.hierarchies_are_within_limits.Goals as goal

pub returns-clause-tree : goal.returns-clause-tree
returns-clause-tree c = hierarchies_are_in_tree

pub returns-clause-few : goal.returns-clause-few
returns-clause-few c = hierarchies_are_few
