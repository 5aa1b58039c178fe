-- The stage of the tables' text: what the instruments do, in this compiler's own format.
use Rattle.std.specs.Prelude.{ℕ, List, Option, Some, None, codes}
use Rattle.table_file.specs.Tables.{SeenTable, tables}
use Rattle.table_file.specs.declared.fault.TableFault.{TableFault}
use Rattle.table_file.specs.declared.fault.TableFault.TheVariants.{TableSyntax, TableName, TableWidth}
use Rattle.table_file.specs.declared.fault.TableFault.TheVariants.{TableLimit, TableTwice, OutOfMemory}
use Rattle.ijtag_stages.specs.Refusals.{Part, Refusal, refused_at}
use Rattle.ijtag_stages.specs.Work.{reported}
use Rattle.ijtag_stages.specs.declared.refusal.Stage.TheVariants.{Tables}

-- how a fault is reported; want of memory is no refusal
abbrev pub tables_fault : TableFault → Option Refusal
tables_fault (TableSyntax at) = Some (refused_at Tables (codes "TableSyntax") at)
tables_fault (TableName at) = Some (refused_at Tables (codes "TableName") at)
tables_fault (TableWidth at) = Some (refused_at Tables (codes "TableWidth") at)
tables_fault (TableLimit at) = Some (refused_at Tables (codes "TableLimit") at)
tables_fault (TableTwice at) = Some (refused_at Tables (codes "TableTwice") at)
tables_fault OutOfMemory = None

unfoldable pub tables_text : List ℕ → Part (List SeenTable)
tables_text text = reported (tables text) tables_fault
