use Rattle.merge_order.proofs.OfNetwork.{merged_steps_are_of_the_network}
use Rattle.merge_order.proofs.OnePath.{merged_steps_have_paths}
use Rattle.merge_order.proofs.laws.merges_are_of_the_network.Goals as goal

pub returns-clause-steps : goal.returns-clause-steps
returns-clause-steps c = merged_steps_are_of_the_network

pub returns-clause-paths : goal.returns-clause-paths
returns-clause-paths c = merged_steps_have_paths
