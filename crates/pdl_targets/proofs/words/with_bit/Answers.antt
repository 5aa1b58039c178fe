use Rattle.pdl_targets.proofs.SetBits.{bit_more}
use Rattle.pdl_targets.proofs.words.with_bit.Goals as goal

pub returns : goal.returns
returns c j = bit_more c.args.word c.args.bit j c.requires
