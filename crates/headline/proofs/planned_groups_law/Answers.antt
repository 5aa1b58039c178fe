use Rattle.headline.proofs.Scanned.{plans_do_groups}
use Rattle.headline.proofs.planned_groups_law.Goals as goal

pub returns : goal.returns
returns c = record { does = plans_do_groups }
