use Rattle.pdl_targets.proofs.Procedures.{applies_have_paths, steps_are_of_the_network}
use Rattle.pdl_targets.proofs.laws.steps_are_of_the_network.Goals as goal

pub returns-clause-paths : goal.returns-clause-paths
returns-clause-paths c = applies_have_paths

pub returns-clause-steps : goal.returns-clause-steps
returns-clause-steps c = steps_are_of_the_network
