use Rattle.pdl_targets.proofs.Procedures.{queue_begins, queue_goes_on}
use Rattle.pdl_targets.proofs.laws.queues_have_their_registers.Goals as goal

pub returns-clause-begin : goal.returns-clause-begin
returns-clause-begin c = queue_begins

pub returns-clause-step : goal.returns-clause-step
returns-clause-step c = queue_goes_on
