use Rattle.net_bench.proofs.PublicLaws.{instructions_load}
use Rattle.net_bench.proofs.laws.instructions_load.Goals as goal

pub returns : goal.returns
returns c = instructions_load
