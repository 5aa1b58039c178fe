use Rattle.table_file.proofs.FormedLines.{tables_formed}
use Rattle.table_file.proofs.laws.tables_are_models.Goals as goal

pub returns : goal.returns
returns c = tables_formed
