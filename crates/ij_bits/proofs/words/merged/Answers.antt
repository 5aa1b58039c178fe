use Rattle.ij_bits.proofs.Marking.{merged_bit}
use Rattle.ij_bits.proofs.words.merged.Goals as goal

pub returns : goal.returns
returns c k low = merged_bit c.args.word c.args.other c.args.mask k c.ranges.mask.fits low
