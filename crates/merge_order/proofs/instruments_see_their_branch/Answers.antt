use Rattle.merge_order.proofs.Seeing.{instruments_see_their_branch}
use Rattle.merge_order.proofs.instruments_see_their_branch.Goals as goal

pub returns : goal.returns
returns c = instruments_see_their_branch
