use Rattle.pdl_parser.proofs.Sound.{names_differ, each_sound}
use Rattle.pdl_parser.proofs.laws.names_differ.Goals as goal

pub returns-clause-procedures : goal.returns-clause-procedures
returns-clause-procedures c = names_differ

pub returns-clause-arguments : goal.returns-clause-arguments
returns-clause-arguments c = each_sound
