use Rattle.net_bench.proofs.PublicLaws.{prefaces_link}
use Rattle.net_bench.proofs.laws.prefaces_link.Goals as goal

pub returns : goal.returns
returns c = prefaces_link
