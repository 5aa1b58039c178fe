use Rattle.net_wave.proofs.Scoped.{scopes_are_paths}
use Rattle.net_wave.proofs.laws.scopes_are_paths.Goals as goal

pub returns : goal.returns
returns c = scopes_are_paths
