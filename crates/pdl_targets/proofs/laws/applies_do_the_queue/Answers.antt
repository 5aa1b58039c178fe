use Rattle.pdl_targets.proofs.Procedures.{applies_do_the_queue}
use Rattle.pdl_targets.proofs.laws.applies_do_the_queue.Goals as goal

pub returns : goal.returns
returns c = record { all = applies_do_the_queue }
