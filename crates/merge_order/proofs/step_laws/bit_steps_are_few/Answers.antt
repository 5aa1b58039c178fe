use Rattle.merge_order.proofs.StepWhole.{bits_are_few, bit_rounds_are_few, bit_cycles_are_few}
use Rattle.merge_order.proofs.StepWhole.{bit_runs_are_short}
use Rattle.merge_order.proofs.step_laws.bit_steps_are_few.Goals as goal

pub returns-clause-steps : goal.returns-clause-steps
returns-clause-steps c = bits_are_few

pub returns-clause-rounds : goal.returns-clause-rounds
returns-clause-rounds c = bit_rounds_are_few

pub returns-clause-cycles : goal.returns-clause-cycles
returns-clause-cycles c = bit_cycles_are_few

pub returns-clause-runs : goal.returns-clause-runs
returns-clause-runs c = bit_runs_are_short
