use Rattle.net_bench.proofs.PublicLaws.{resets_reset}
use Rattle.net_bench.proofs.laws.resets_reset.Goals as goal

pub returns : goal.returns
returns c = resets_reset
