use Rattle.icl_elab.proofs.Placement.{wired_if, numbered_if, instances_if, well_formed_if}
use Rattle.icl_elab.proofs.hierarchy.elaborate.Goals as goal

pub returns-clause-wired : goal.returns-clause-wired
returns-clause-wired c = wired_if c.hierarchy_of.result _ _ c.hierarchy_of.ensures

pub returns-clause-numbered : goal.returns-clause-numbered
returns-clause-numbered c = numbered_if c.hierarchy_of.result _ _ c.hierarchy_of.ensures

pub returns-clause-instances : goal.returns-clause-instances
returns-clause-instances c = instances_if c.hierarchy_of.result _ _ c.hierarchy_of.ensures

pub returns-clause-well_formed : goal.returns-clause-well_formed
returns-clause-well_formed c = well_formed_if c.hierarchy_of.result _ _ c.hierarchy_of.ensures
