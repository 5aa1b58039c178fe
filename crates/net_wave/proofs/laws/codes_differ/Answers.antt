use Rattle.net_wave.proofs.Apart.{codes_differ}
use Rattle.net_wave.proofs.laws.codes_differ.Goals as goal

pub returns : goal.returns
returns c = codes_differ
