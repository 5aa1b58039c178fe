use Rattle.net_bench.proofs.PublicLaws.{plays_rest}
use Rattle.net_bench.proofs.laws.plays_rest.Goals as goal

pub returns : goal.returns
returns c = plays_rest
