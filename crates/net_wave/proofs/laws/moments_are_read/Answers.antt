use Rattle.net_wave.proofs.Read.{moments_found}
use Rattle.net_wave.proofs.laws.moments_are_read.Goals as goal

pub returns : goal.returns
returns c = moments_found
