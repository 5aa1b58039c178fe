use Rattle.pdl_targets.proofs.SetBits.{all_ones, lowest_zero}
use Rattle.pdl_targets.proofs.words.first_open.Goals as goal

pub returns-then-word-eq18446744073709551615-clause-none :
    goal.returns-then-word-eq18446744073709551615-clause-none
returns-then-word-eq18446744073709551615-clause-none c j low =
    all_ones c.args.word j c.if-word-eq18446744073709551615.true low

pub returns-else-word-eq18446744073709551615-clause-some :
    goal.returns-else-word-eq18446744073709551615-clause-some
returns-else-word-eq18446744073709551615-clause-some c = lowest_zero c.args.word _ c.ranges.word.fits
    c.if-word-eq18446744073709551615.false c.trailing_ones.ensures
