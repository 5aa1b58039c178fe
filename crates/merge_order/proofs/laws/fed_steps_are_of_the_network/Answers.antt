use Rattle.merge_order.proofs.FedKept.{fed_steps_are_of_the_network, fed_steps_have_paths}
use Rattle.merge_order.proofs.laws.fed_steps_are_of_the_network.Goals as goal

pub returns-clause-steps : goal.returns-clause-steps
returns-clause-steps c = fed_steps_are_of_the_network

pub returns-clause-paths : goal.returns-clause-paths
returns-clause-paths c = fed_steps_have_paths
