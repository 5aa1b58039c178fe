use Rattle.merge_order.proofs.Fewer.{merged_steps_are_few, merged_rounds_are_few, merged_cycles_are_few}
use Rattle.merge_order.proofs.Fewer.{merged_runs_are_short}
use Rattle.merge_order.proofs.laws.merges_add_no_work.Goals as goal

pub returns-clause-steps : goal.returns-clause-steps
returns-clause-steps c = merged_steps_are_few

pub returns-clause-rounds : goal.returns-clause-rounds
returns-clause-rounds c = merged_rounds_are_few

pub returns-clause-cycles : goal.returns-clause-cycles
returns-clause-cycles c = merged_cycles_are_few

pub returns-clause-runs : goal.returns-clause-runs
returns-clause-runs c = merged_runs_are_short
