use Rattle.merge_order.proofs.StepWhole.{steps_are_bound, steps_are_fed}
use Rattle.merge_order.proofs.step_laws.bit_steps_are_bound.Goals as goal

pub returns-clause-fed : goal.returns-clause-fed
returns-clause-fed c = steps_are_fed

pub returns-clause-alone : goal.returns-clause-alone
returns-clause-alone c = steps_are_bound
