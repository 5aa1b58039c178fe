use Rattle.std.proofs.Common.{◌-◌, ◌∙◌, arith}
use Rattle.ij_bits.proofs.Joining.{up_high}
use Rattle.ij_bits.proofs.words.covered.Goals as goal

pub returns-clause-low : goal.returns-clause-low
returns-clause-low c j low = c.joined.ensures.low j (omega arith)
    ∙ up_high c.args.word (64 - c.args.r) j (omega arith)
