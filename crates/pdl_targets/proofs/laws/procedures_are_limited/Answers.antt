use Rattle.pdl_targets.proofs.Limited.{rounds_are_few, cycles_are_few, runs_are_short}
use Rattle.pdl_targets.proofs.laws.procedures_are_limited.Goals as goal

pub returns-clause-rounds : goal.returns-clause-rounds
returns-clause-rounds c = rounds_are_few

pub returns-clause-cycles : goal.returns-clause-cycles
returns-clause-cycles c = cycles_are_few

pub returns-clause-run : goal.returns-clause-run
returns-clause-run c = runs_are_short
