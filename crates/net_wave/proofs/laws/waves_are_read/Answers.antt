use Rattle.net_wave.proofs.Filed.{waves_found}
use Rattle.net_wave.proofs.laws.waves_are_read.Goals as goal

pub returns : goal.returns
returns c = waves_found
