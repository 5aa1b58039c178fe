use Rattle.net_wave.proofs.Read.{tck_found}
use Rattle.net_wave.proofs.laws.tck_is_read.Goals as goal

pub returns : goal.returns
returns c = tck_found
