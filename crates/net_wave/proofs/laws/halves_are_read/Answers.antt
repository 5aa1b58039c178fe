use Rattle.net_wave.proofs.Read.{halves_found}
use Rattle.net_wave.proofs.laws.halves_are_read.Goals as goal

pub returns : goal.returns
returns c = halves_found
