-- The tables of a file: a first line `tables 1` or `tables 2`, and then blocks, each of which says what one
-- instrument does. A file has tables, or a first line at fault.
use Rattle.std.specs.Prelude.{ℕ, ◌+◌, ◌-◌, ◌^◌, ◌==◌, nat_le, nat_lt, Bool, true, false, not, ◌&&◌, ◌||◌}
use Rattle.std.specs.Prelude.{cond, List, [], ◌∷◌, ◌++◌, length, map, Option, Some, None, unwrap_or, Result}
use Rattle.std.specs.Prelude.{Ok, Err}
use Rattle.std.specs.Option.{is_some, option_map}
use Rattle.std.specs.List.{list_any}
use Rattle.std.specs.Str.{bytes_eq}
use Rattle.ij_text.specs.declared.Place.{Place}
use Rattle.instruments.specs.declared.model.Operand.{Operand}
use Rattle.instruments.specs.declared.model.Operand.TheVariants.{Word as AWord, Input as AnInput, Old}
use Rattle.instruments.specs.declared.model.Cond.{Cond}
use Rattle.instruments.specs.declared.model.Slot.{Slot}
use Rattle.instruments.specs.declared.model.Slot.TheVariants.{Word as TheWord, Entry as TheEntry}
use Rattle.instruments.specs.declared.model.Amount.{Amount}
use Rattle.instruments.specs.declared.model.Amount.TheVariants.{Number as ANumber, Copy as ACopy}
use Rattle.instruments.specs.declared.model.Amount.TheVariants.{Plus as APlus, Minus as AMinus}
use Rattle.instruments.specs.declared.model.Amount.TheVariants.{Entry as AnEntry}
use Rattle.instruments.specs.declared.model.Set.{Set}
use Rattle.instruments.specs.Seen.{SeenOut, SeenRow, SeenModel, seen_model}
use Rattle.instruments.specs.After.{memory_width}
use Rattle.instruments.specs.Models.{word_width, operand_width, memory_names, names}
use Rattle.table_file.specs.declared.fault.TableFault.{TableFault}
use Rattle.table_file.specs.declared.fault.TableFault.TheVariants.{TableSyntax, TableName, TableWidth}
use Rattle.table_file.specs.declared.fault.TableFault.TheVariants.{TableLimit, TableTwice}
use Rattle.table_file.specs.declared.table.Table.{Table}
use Rattle.table_lines.specs.Lines.{Line, lines_of, end_of}
use Rattle.table_lines.specs.Words.{is_wide, value_in, care_in}
use Rattle.table_lines.specs.Said.{SaidCond, SaidEntry, SaidSlot, ToWord, ToEntry, SaidAmount, Number, Copy}
use Rattle.table_lines.specs.Said.{Plus, Minus, FromEntry, SaidSet, SaidRow, Starts, SaidLine, Input, Word}
use Rattle.table_lines.specs.Said.{Memory, Output, Change, Run, End, line, instrument, version}

-- a table with plain names and lists
pub record SeenTable : Type 0 where
  pub path : List (List ℕ)
  pub at : Place
  pub model : SeenModel

abbrev pub seen_table : Table → SeenTable
seen_table t = record { path = map (λ name. name.items) t.path.items; at = t.at; model = seen_model t.model }

-- ---- names

-- the number of the first one of a name, counted from k
abbrev pub named_from : ℕ → List ℕ → List (List ℕ) → Option ℕ
named_from k name [] = None
named_from k name (x ∷ xs) = cond (bytes_eq name x) (Some k) (named_from (k + 1) name xs)

abbrev pub named : List ℕ → List (List ℕ) → Option ℕ
named name list = named_from 0 name list

abbrev pub stands_in : List ℕ → List (List ℕ) → Bool
stands_in name list = list_any (bytes_eq name) list

-- whether two are equal
abbrev pub has_twice : List (List ℕ) → Bool
has_twice [] = false
has_twice (x ∷ xs) = stands_in x xs || has_twice xs

abbrev pub word_named : SeenModel → List ℕ → Option ℕ
word_named m name = named name (map (λ d. d.name) m.words)

abbrev pub input_named : SeenModel → List ℕ → Option ℕ
input_named m name = named name (map (λ d. d.name) m.ins)

abbrev pub is_memory : SeenModel → List ℕ → Bool
is_memory m name = stands_in name (memory_names m.memory)

abbrev pub word_or_input : Option ℕ → Option ℕ → Option Operand
word_or_input (Some k) input = Some (AWord k)
word_or_input None (Some k) = Some (AnInput k)
word_or_input None None = None

-- the word or input of a name
abbrev pub operand_named : SeenModel → List ℕ → Option Operand
operand_named m name = word_or_input (word_named m name) (input_named m name)

abbrev pub cond_operand : SeenModel → SaidCond → Option Operand
cond_operand m c = cond c.old (option_map Old (input_named m c.name)) (operand_named m c.name)

-- ---- what a line says, its names being known

-- an operand that isn't there comes only in a line whose names are at fault
abbrev pub known : Option Operand → Operand
known o = unwrap_or o (AWord 0)

abbrev pub operand_of : SeenModel → List ℕ → Operand
operand_of m name = known (operand_named m name)

abbrev pub name_width : SeenModel → List ℕ → ℕ
name_width m name = operand_width m (operand_of m name)

abbrev pub cond_width : SeenModel → SaidCond → ℕ
cond_width m c = operand_width m (known (cond_operand m c))

abbrev pub cond_said : SeenModel → SaidCond → Cond
cond_said m c =
    record {
      of = known (cond_operand m c);
      value = value_in (cond_width m c) c.number;
      care = care_in (cond_width m c) c.number;
    }

abbrev pub slot_said : SeenModel → SaidSlot → Slot
slot_said m (ToWord name) = TheWord (unwrap_or (word_named m name) 0)
slot_said m (ToEntry e) = TheEntry (operand_of m e.index)

abbrev pub amount_said : SeenModel → SaidAmount → Amount
amount_said m (Number n) = ANumber n
amount_said m (Copy name) = ACopy (operand_of m name)
amount_said m (Plus name n) = APlus (operand_of m name) n
amount_said m (Minus name n) = AMinus (operand_of m name) n
amount_said m (FromEntry e) = AnEntry (operand_of m e.index)

abbrev pub set_said : SeenModel → SaidSet → Set
set_said m x = record { slot = slot_said m x.slot; amount = amount_said m x.amount }

abbrev pub row_said : SeenModel → SaidRow → SeenRow
row_said m row = record { conds = map (cond_said m) row.conds; sets = map (set_said m) row.sets }

-- ---- names at fault

abbrev pub no_operand : SeenModel → List ℕ → Bool
no_operand m name = not (is_some (operand_named m name))

abbrev pub no_entry : SeenModel → SaidEntry → Bool
no_entry m e = not (is_memory m e.memory) || no_operand m e.index

abbrev pub no_slot : SeenModel → SaidSlot → Bool
no_slot m (ToWord name) = not (is_some (word_named m name))
no_slot m (ToEntry e) = no_entry m e

abbrev pub no_amount : SeenModel → SaidAmount → Bool
no_amount m (Number n) = false
no_amount m (Copy name) = no_operand m name
no_amount m (Plus name n) = no_operand m name
no_amount m (Minus name n) = no_operand m name
no_amount m (FromEntry e) = no_entry m e

-- the name of what is set
abbrev pub target : SaidSlot → List ℕ
target (ToWord name) = name
target (ToEntry e) = e.memory

abbrev pub row_name_fault : SeenModel → SaidRow → Bool
row_name_fault m row =
    list_any (λ c. not (is_some (cond_operand m c))) row.conds || (list_any (λ x. no_slot m x.slot ||
    no_amount m x.amount) row.sets || has_twice (map (λ x. target x.slot) row.sets))

-- inputs, words and the memory have names of their own, and so have outputs
abbrev pub name_fault : SeenModel → SaidLine → Bool
name_fault m (Input name width) = stands_in name (names m)
name_fault m (Word name width s) = stands_in name (names m)
name_fault m (Memory name depth width s) = stands_in name (names m)
name_fault m (Output name s) =
    stands_in name (map (λ out. out.name) m.outs) || not (is_some (word_named m s.word))
name_fault m (Change row) = row_name_fault m row
name_fault m (Run row) = row_name_fault m row
name_fault m End = false

-- ---- widths at fault

abbrev pub is_above : ℕ → ℕ → Bool
is_above width n = nat_le (2 ^ width) n

abbrev pub reset_above : ℕ → Option ℕ → Bool
reset_above width None = false
reset_above width (Some n) = is_above width n

abbrev pub starts_above : ℕ → Starts → Bool
starts_above width s = is_above width s.init || reset_above width s.reset

abbrev pub bounds_outside : ℕ → Option (ℕ × ℕ) → Bool
bounds_outside width None = false
bounds_outside width (Some b) = nat_le width b.0 || nat_lt b.0 b.1

abbrev pub slot_width : SeenModel → SaidSlot → ℕ
slot_width m (ToWord name) = word_width m (unwrap_or (word_named m name) 0)
slot_width m (ToEntry e) = memory_width m.memory

abbrev pub amount_wide : SeenModel → ℕ → SaidAmount → Bool
amount_wide m width (Number n) = is_above width n
amount_wide m width (Copy name) = not (name_width m name == width)
amount_wide m width (Plus name n) = not (name_width m name == width) || is_above width n
amount_wide m width (Minus name n) = not (name_width m name == width) || is_above width n
amount_wide m width (FromEntry e) = not (memory_width m.memory == width)

abbrev pub row_width_fault : SeenModel → SaidRow → Bool
row_width_fault m row =
    list_any (λ c. is_wide (cond_width m c) c.number) row.conds || list_any
    (λ x. amount_wide m (slot_width m x.slot) x.amount) row.sets

abbrev pub width_fault : SeenModel → SaidLine → Bool
width_fault m (Input name width) = false
width_fault m (Word name width s) = starts_above width s
width_fault m (Memory name depth width s) = starts_above width s
width_fault m (Output name s) = bounds_outside (word_width m (unwrap_or (word_named m s.word) 0)) s.bounds
width_fault m (Change row) = row_width_fault m row
width_fault m (Run row) = row_width_fault m row
width_fault m End = false

-- ---- limits

abbrev pub no_width : ℕ → Bool
no_width width = width == 0 || nat_lt 64 width

-- 8 words, one memory of 1 to 256 entries, 16 inputs, 16 outputs, 64 rows of both kinds together, and widths
-- of 1 to 64
abbrev pub limit_fault : SeenModel → SaidLine → Bool
limit_fault m (Input name width) = no_width width || nat_le 16 (length m.ins)
limit_fault m (Word name width s) = no_width width || nat_le 8 (length m.words)
limit_fault m (Memory name depth width s) =
    no_width width || (depth == 0 || (nat_lt 256 depth || is_some m.memory))
limit_fault m (Output name s) = nat_le 16 (length m.outs)
limit_fault m (Change row) = nat_le 64 (length m.change + length m.run)
limit_fault m (Run row) = nat_le 64 (length m.change + length m.run)
limit_fault m End = false

-- ---- blocks

-- a whole word without bounds
abbrev pub out_said : SeenModel → List ℕ → List ℕ → Option (ℕ × ℕ) → SeenOut
out_said m name word None =
    record {
      name = name;
      word = unwrap_or (word_named m word) 0;
      left = word_width m (unwrap_or (word_named m word) 0) - 1;
      right = 0;
    }
out_said m name word (Some b) =
    record { name = name; word = unwrap_or (word_named m word) 0; left = b.0; right = b.1 }

-- the model with one more line
abbrev pub with_line : SeenModel → SaidLine → SeenModel
with_line m (Input name width) = record m { ins = m.ins ++ record { name = name; width = width } ∷ [] }
with_line m (Word name width s) =
    record m { words = m.words ++ record { name = name; width = width; init = s.init; reset = s.reset } ∷ [] }
with_line m (Memory name depth width s) =
    record m {
      memory =
          Some (record { name = name; depth = depth; width = width; init = s.init; reset = s.reset });
    }
with_line m (Output name s) = record m { outs = m.outs ++ out_said m name s.word s.bounds ∷ [] }
with_line m (Change row) = record m { change = m.change ++ row_said m row ∷ [] }
with_line m (Run row) = record m { run = m.run ++ row_said m row ∷ [] }
with_line m End = m

-- kinds of lines, in the order in which they are in a block
abbrev pub rank : SaidLine → ℕ
rank (Input name width) = 0
rank (Word name width s) = 1
rank (Memory name depth width s) = 2
rank (Output name s) = 3
rank (Change row) = 4
rank (Run row) = 5
rank End = 6

-- a block so far: its path and place, the kind of its last line, and what its lines said
pub record Block : Type 0 where
  pub path : List (List ℕ)
  pub at : Place
  pub rank : ℕ
  pub model : SeenModel

abbrev pub empty : SeenModel
empty = record { words = []; memory = None; ins = []; outs = []; change = []; run = [] }

-- the faults of one line in their order
abbrev pub after_line : Place → Block → SaidLine → Result Block TableFault
after_line at b l =
    cond (nat_lt (rank l) b.rank) (Err (TableSyntax at))
    (cond (name_fault b.model l) (Err (TableName at))
    (cond (width_fault b.model l) (Err (TableWidth at))
    (cond (limit_fault b.model l) (Err (TableLimit at))
    (Ok (record b { rank = rank l; model = with_line b.model l })))))

abbrev pub line_said : Place → Block → Option SaidLine → Result Block TableFault
line_said at b None = Err (TableSyntax at)
line_said at b (Some l) = after_line at b l

abbrev pub block_line : Bool → Block → Line → Result Block TableFault
block_line second b l = line_said l.at b (line second l.words)

-- ---- files

abbrev pub table_of : Block → SeenTable
table_of b = record { path = b.path; at = b.at; model = b.model }

-- whether two paths have the same names
abbrev pub same_path : List (List ℕ) → List (List ℕ) → Bool
same_path [] [] = true
same_path [] (y ∷ ys) = false
same_path (x ∷ xs) [] = false
same_path (x ∷ xs) (y ∷ ys) = bytes_eq x y && same_path xs ys

abbrev pub has_table : List (List ℕ) → List SeenTable → Bool
has_table path tables = list_any (λ t. same_path path t.path) tables

abbrev pub new_block : Place → List SeenTable → Option (List (List ℕ)) → Result Block TableFault
new_block at tables None = Err (TableSyntax at)
new_block at tables (Some path) =
    cond (has_table path tables) (Err (TableTwice at))
    (Ok (record { path = path; at = at; rank = 0; model = empty }))

-- what comes after some lines: whole tables, and a block that isn't ended
pub record Tables : Type 0 where
  pub tables : List SeenTable
  pub block : Option Block

abbrev pub no_tables : Tables
no_tables = record { tables = []; block = None }

-- the line `end` ends a block
abbrev pub is_end : ℕ → Bool
is_end rank = rank == 6

abbrev pub put_block : List SeenTable → Result Block TableFault → Result Tables TableFault
put_block tables (Err fault) = Err fault
put_block tables (Ok b) =
    cond (is_end b.rank) (Ok (record { tables = tables ++ table_of b ∷ []; block = None }))
    (Ok (record { tables = tables; block = Some b }))

-- one more line
abbrev pub next_line : Bool → List SeenTable → Option Block → Line → Result Tables TableFault
next_line second tables None l = put_block tables (new_block l.at tables (instrument l.words))
next_line second tables (Some b) l = put_block tables (block_line second b l)

-- after the last line no block may be open
abbrev pub at_end : Place → List SeenTable → Option Block → Result (List SeenTable) TableFault
at_end end tables None = Ok tables
at_end end tables (Some b) = Err (TableSyntax end)

abbrev pub and_then : {A B : Type 0} → Result A TableFault → (A → Result B TableFault) → Result B TableFault
and_then (Ok a) next = next a
and_then (Err fault) next = Err fault

-- the rest of a file after some lines
abbrev pub read_lines : Bool → Place → Tables → List Line → Result (List SeenTable) TableFault
read_lines second end t [] = at_end end t.tables t.block
read_lines second end t (l ∷ ls) =
    and_then (next_line second t.tables t.block l) (λ u. read_lines second end u ls)

abbrev pub after_head : Place → Place → Option Bool → List Line → Result (List SeenTable) TableFault
after_head end at None ls = Err (TableSyntax at)
after_head end at (Some second) ls = read_lines second end no_tables ls

abbrev pub from_head : Place → List Line → Result (List SeenTable) TableFault
from_head end [] = Err (TableSyntax end)
from_head end (l ∷ ls) = after_head end l.at (version l.words) ls

-- the tables of a text, or the fault of its first line at fault
unfoldable pub tables : List ℕ → Result (List SeenTable) TableFault
tables src = from_head (end_of src) (lines_of src)
