-- What a call answers, against what is to be read.
use Rattle.std.specs.Prelude.{◌≡◌, ℕ, Result, Ok, Err, List, [], ◌∷◌, ◌++◌, map, Option, Some, None, IfSome}
use Rattle.ij_bits.specs.Room.{Listed}
use Rattle.ij_text.specs.declared.Place.{Place}
use Rattle.table_lines.specs.Said.{instrument}
use Rattle.std.specs.Option.{option_map}
use Rattle.ij_text.specs.Parts.{split}
use Rattle.instruments.specs.Seen.{seen_model}
use Rattle.table_file.specs.declared.fault.TableFault.{TableFault}
use Rattle.table_file.specs.declared.fault.TableFault.TheVariants.{TableSyntax, TableName, TableWidth}
use Rattle.table_file.specs.declared.fault.TableFault.TheVariants.{TableLimit, TableTwice, OutOfMemory}
use Rattle.table_file.specs.declared.blocks.Block.{Block as RustBlock}
use Rattle.table_file.specs.declared.blocks.ReadBlocks.{ReadBlocks}
use Rattle.table_file.specs.declared.table.Table.{Table}
use Rattle.table_file.specs.Small.{IsSmall}
use Rattle.table_file.specs.Tables.{Block, Tables, SeenTable, seen_table, new_block}

-- the fault, unless memory ran out
abbrev pub TableFails : {A : Type 0} → TableFault → Result A TableFault → Type 0
TableFails OutOfMemory said = Unit {0}
TableFails (TableSyntax at) said = said ≡ Err (TableSyntax at)
TableFails (TableName at) said = said ≡ Err (TableName at)
TableFails (TableWidth at) said = said ≡ Err (TableWidth at)
TableFails (TableLimit at) said = said ≡ Err (TableLimit at)
TableFails (TableTwice at) said = said ≡ Err (TableTwice at)

-- a call answers what is said, unless memory runs out
abbrev pub GivesTable : {A B : Type 0} → (A → B) → Result A TableFault → Result B TableFault → Type 0
GivesTable view (Ok a) said = said ≡ Ok (view a)
GivesTable view (Err fault) said = TableFails fault said

abbrev pub seen_block : RustBlock → Block
seen_block b = record {
  path = map (λ name. name.items) b.path.items;
  at = b.at;
  rank = b.rank;
  model = seen_model b.model;
}

abbrev pub seen_so_far : ReadBlocks → Tables
seen_so_far s = record { tables = map seen_table s.tables.items; block = option_map seen_block s.block }

abbrev pub seen_tables : Listed Table → List SeenTable
seen_tables ts = map seen_table ts.items

-- the path of a block that isn't ended
abbrev pub open_path : Option RustBlock → List (List (List ℕ))
open_path None = []
open_path (Some b) = (seen_block b).path ∷ []

-- the paths of all blocks, and few lines in the block that isn't ended
pub record IsSoFar (s : ReadBlocks) : Type 0 where
  pub listed : map (split 46) s.paths ≡ map (λ t. t.path) (map seen_table s.tables.items) ++ open_path s.block
  pub small : IfSome s.block (λ b. IsSmall (seen_model b.model))

-- a block begins after tables with these paths, the texts of which are known
abbrev pub GivesBlock : List (List ℕ) → Place → List (List ℕ) → Result RustBlock TableFault → Type 0
GivesBlock paths at words result =
    (ts : List SeenTable) → map (λ t. t.path) ts ≡ map (split 46) paths
    → GivesTable seen_block result (new_block at ts (instrument words))
