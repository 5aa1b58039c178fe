use Rattle.pdl_expand.proofs.Paths.{paths_differ}
use Rattle.pdl_expand.proofs.laws.paths_differ.Goals as goal

pub returns : goal.returns
returns c = paths_differ
