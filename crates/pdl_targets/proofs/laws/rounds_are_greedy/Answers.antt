use Rattle.pdl_targets.proofs.Greedy.{first_is_greedy, rounds_go_on, keep_the_order}
use Rattle.pdl_targets.proofs.laws.rounds_are_greedy.Goals as goal

pub returns-clause-first : goal.returns-clause-first
returns-clause-first c = first_is_greedy

pub returns-clause-others : goal.returns-clause-others
returns-clause-others c = rounds_go_on

pub returns-clause-order : goal.returns-clause-order
returns-clause-order c = keep_the_order
