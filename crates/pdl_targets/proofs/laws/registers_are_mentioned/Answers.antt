use Rattle.pdl_targets.proofs.Mentioned.{mentions_are_once, each_is_mentioned}
use Rattle.pdl_targets.proofs.laws.registers_are_mentioned.Goals as goal

pub returns-clause-once : goal.returns-clause-once
returns-clause-once c = mentions_are_once

pub returns-clause-each : goal.returns-clause-each
returns-clause-each c = each_is_mentioned
