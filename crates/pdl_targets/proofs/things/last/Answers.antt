use Rattle.std.proofs.Common.{◌∙◌}
use Rattle.pdl_targets.proofs.Walks.{last_of_path}
use Rattle.pdl_targets.proofs.things.last.Goals as goal

pub returns-in-len1-up : goal.returns-in-len1-up
returns-in-len1-up c = c.as_slice.ensures
    ∙ last_of_path c.args.path.now c.name-item.result c.in-len1-up.len_at_least c.name-item.is
