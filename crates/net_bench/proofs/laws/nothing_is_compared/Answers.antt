use Rattle.net_bench.proofs.PublicLaws.{nothing_is_compared}
use Rattle.net_bench.proofs.laws.nothing_is_compared.Goals as goal

pub returns : goal.returns
returns c = nothing_is_compared
