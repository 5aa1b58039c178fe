use Rattle.pdl_expand.proofs.Few.{steps_are_few}
use Rattle.pdl_expand.proofs.laws.steps_are_few.Goals as goal

pub returns : goal.returns
returns c = steps_are_few
