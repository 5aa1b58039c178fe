use Rattle.merge_order.proofs.FedFewer.{fed_steps_are_few, fed_rounds_are_few, fed_cycles_are_few}
use Rattle.merge_order.proofs.FedKept.{fed_runs_are_short}
use Rattle.merge_order.proofs.laws.fed_steps_are_few.Goals as goal

pub returns-clause-steps : goal.returns-clause-steps
returns-clause-steps c = fed_steps_are_few

pub returns-clause-rounds : goal.returns-clause-rounds
returns-clause-rounds c = fed_rounds_are_few

pub returns-clause-cycles : goal.returns-clause-cycles
returns-clause-cycles c = fed_cycles_are_few

pub returns-clause-runs : goal.returns-clause-runs
returns-clause-runs c = fed_runs_are_short
