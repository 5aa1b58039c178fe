use Rattle.pdl_targets.proofs.Valued.{value_read}
use Rattle.pdl_targets.proofs.values.value_at.Goals as goal

pub returns : goal.returns
returns c =
    value_read c.args.values.now c.args.i c.get.result c.requires c.get.ensures.counts c.get.ensures.free
