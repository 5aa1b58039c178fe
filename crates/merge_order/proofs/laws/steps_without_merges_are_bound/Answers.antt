use Rattle.merge_order.proofs.Unmerged.{others_are_bound}
use Rattle.merge_order.proofs.laws.steps_without_merges_are_bound.Goals as goal

pub returns : goal.returns
returns c = others_are_bound
