use Rattle.pdl_targets.proofs.SetBits.{either_bit}
use Rattle.pdl_targets.proofs.words.bits_of_either.Goals as goal

pub returns : goal.returns
returns c j = either_bit c.args.word c.args.other j
