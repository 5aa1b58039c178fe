use Rattle.merge_order.proofs.StepWhole.{bits_are_of_the_network, bits_have_paths}
use Rattle.merge_order.proofs.step_laws.bit_steps_are_of_the_network.Goals as goal

pub returns-clause-steps : goal.returns-clause-steps
returns-clause-steps c = bits_are_of_the_network

pub returns-clause-paths : goal.returns-clause-paths
returns-clause-paths c = bits_have_paths
