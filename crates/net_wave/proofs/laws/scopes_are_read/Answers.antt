use Rattle.net_wave.proofs.ScopesRead.{scopes_found}
use Rattle.net_wave.proofs.laws.scopes_are_read.Goals as goal

pub returns : goal.returns
returns c = scopes_found
