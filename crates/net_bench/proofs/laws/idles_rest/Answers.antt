use Rattle.net_bench.proofs.PublicLaws.{idles_rest}
use Rattle.net_bench.proofs.laws.idles_rest.Goals as goal

pub returns : goal.returns
returns c = idles_rest
