use Rattle.pdl_targets.proofs.Together.{are_together, need_one_row, none_is_empty}
use Rattle.pdl_targets.proofs.laws.groups_are_together.Goals as goal

pub returns-clause-apart : goal.returns-clause-apart
returns-clause-apart c = are_together

pub returns-clause-rows : goal.returns-clause-rows
returns-clause-rows c = need_one_row

pub returns-clause-some : goal.returns-clause-some
returns-clause-some c = none_is_empty
