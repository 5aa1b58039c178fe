use Rattle.table_file.proofs.FormedLines.{tables_formed, models_formed}
use Rattle.table_file.proofs.read.read_tables.Goals as goal

pub returns-clause-models : goal.returns-clause-models
returns-clause-models c = models_formed c.read.result _ c.read.ensures (tables_formed c.args.src.now)
