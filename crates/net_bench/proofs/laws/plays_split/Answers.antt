use Rattle.net_bench.proofs.PublicLaws.{plays_split}
use Rattle.net_bench.proofs.laws.plays_split.Goals as goal

pub returns : goal.returns
returns c = plays_split
