use Rattle.pdl_targets.proofs.Walks.{front_of_path}
use Rattle.pdl_targets.proofs.things.names_before.Goals as goal

pub returns-in-len1-up : goal.returns-in-len1-up
returns-in-len1-up c = front_of_path c.args.path.now
