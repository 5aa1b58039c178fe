use Rattle.pdl_targets.proofs.SetBits.{without_bit}
use Rattle.pdl_targets.proofs.words.without.Goals as goal

pub returns : goal.returns
returns c j low = without_bit c.args.word c.args.other j c.ranges.other.fits low
