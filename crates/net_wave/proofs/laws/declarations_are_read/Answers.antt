use Rattle.net_wave.proofs.DeclaredRead.{declarations_found}
use Rattle.net_wave.proofs.laws.declarations_are_read.Goals as goal

pub returns : goal.returns
returns c = declarations_found
