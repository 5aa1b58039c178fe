use Rattle.net_bench.proofs.PublicLaws.{pins_split}
use Rattle.net_bench.proofs.laws.pins_split.Goals as goal

pub returns : goal.returns
returns c = pins_split
