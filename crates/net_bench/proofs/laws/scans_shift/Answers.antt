use Rattle.net_bench.proofs.PublicLaws.{scans_shift}
use Rattle.net_bench.proofs.laws.scans_shift.Goals as goal

pub returns : goal.returns
returns c = scans_shift
