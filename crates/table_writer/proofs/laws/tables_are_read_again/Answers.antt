use Rattle.table_writer.proofs.Blocks.{file_read}
use Rattle.table_writer.proofs.FromText.{written_back}
use Rattle.table_writer.proofs.laws.tables_are_read_again.Goals as goal

pub returns-clause-again : goal.returns-clause-again
returns-clause-again c = file_read

pub returns-clause-back : goal.returns-clause-back
returns-clause-back c = written_back
