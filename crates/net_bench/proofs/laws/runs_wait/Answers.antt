use Rattle.net_bench.proofs.PublicLaws.{runs_wait}
use Rattle.net_bench.proofs.laws.runs_wait.Goals as goal

pub returns : goal.returns
returns c = runs_wait
