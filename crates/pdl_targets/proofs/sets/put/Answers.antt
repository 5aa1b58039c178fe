use Rattle.pdl_targets.proofs.SetBits.{round_put}
use Rattle.pdl_targets.proofs.sets.put.Goals as goal

pub returns : goal.returns
returns c k = round_put _ c.args.round _ k c.requires c.with_bit.ensures
