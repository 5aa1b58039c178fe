-- What the reader keeps of a line, as plain values.
use Rattle.std.specs.Prelude.{ℕ, map, List}
use Rattle.std.specs.Option.{option_map}
use Rattle.ij_text.specs.Numbers.{seen}
use Rattle.table_lines.specs.declared.said.SaidCond.{SaidCond as RustCond}
use Rattle.table_lines.specs.declared.said.InBrackets.{InBrackets}
use Rattle.table_lines.specs.declared.said.SaidEntry.{SaidEntry as RustEntry}
use Rattle.table_lines.specs.declared.said.SaidSlot.{SaidSlot as RustSlot}
use Rattle.table_lines.specs.declared.said.SaidSlot.TheVariants.{Word as SlotWord, Entry as SlotEntry}
use Rattle.table_lines.specs.declared.said.SaidAmount.{SaidAmount as RustAmount}
use Rattle.table_lines.specs.declared.said.SaidAmount.TheVariants.{Number as AmountNumber, Copy as AmountCopy}
use Rattle.table_lines.specs.declared.said.SaidAmount.TheVariants.{Plus as AmountPlus, Minus as AmountMinus}
use Rattle.table_lines.specs.declared.said.SaidAmount.TheVariants.{Entry as AmountEntry}
use Rattle.table_lines.specs.declared.said.SaidSet.{SaidSet as RustSet}
use Rattle.table_lines.specs.declared.said.SaidRow.{SaidRow as RustRow}
use Rattle.table_lines.specs.declared.said.StartNumbers.{StartNumbers as RustStarts}
use Rattle.table_lines.specs.declared.said.Slice.{Slice as RustSlice}
use Rattle.table_lines.specs.declared.said.SaidLine.{SaidLine as RustLine}
use Rattle.table_lines.specs.declared.said.SaidLine.TheVariants.{Input as LineInput, Word as LineWord}
use Rattle.table_lines.specs.declared.said.SaidLine.TheVariants.{Memory as LineMemory, Output as LineOutput}
use Rattle.table_lines.specs.declared.said.SaidLine.TheVariants.{Change as LineChange, Run as LineRun}
use Rattle.table_lines.specs.declared.said.SaidLine.TheVariants.{End as LineEnd}
use Rattle.table_lines.specs.declared.said.FrontCond.{FrontCond}
use Rattle.table_lines.specs.Reading.{texts, plain_value}
use Rattle.table_lines.specs.Words.{Slice}
use Rattle.table_lines.specs.Said.{SaidCond, SaidEntry, SaidSlot, ToWord, ToEntry, SaidAmount, Number, Copy}
use Rattle.table_lines.specs.Said.{Plus, Minus, FromEntry, SaidSet, SaidRow, Starts, SaidLine, Input, Word}
use Rattle.table_lines.specs.Said.{Memory, Output, Change, Run, End}

abbrev pub seen_bracketed : InBrackets → List ℕ × List ℕ
seen_bracketed b = (b.name.now, b.inside.now)

abbrev pub seen_entry : RustEntry → SaidEntry
seen_entry e = record { memory = e.memory.now; index = e.index.now }

abbrev pub seen_slot : RustSlot → SaidSlot
seen_slot (SlotWord name) = ToWord name.now
seen_slot (SlotEntry e) = ToEntry (seen_entry e)

abbrev pub seen_amount : RustAmount → SaidAmount
seen_amount (AmountNumber n) = Number (plain_value n)
seen_amount (AmountCopy name) = Copy name.now
seen_amount (AmountPlus name n) = Plus name.now n
seen_amount (AmountMinus name n) = Minus name.now n
seen_amount (AmountEntry e) = FromEntry (seen_entry e)

abbrev pub seen_cond : RustCond → SaidCond
seen_cond c = record { old = c.old; name = c.name.now; number = seen c.number }

abbrev pub seen_front : FrontCond → SaidCond × List (List ℕ)
seen_front c = (seen_cond c.cond, texts c.rest.now)

abbrev pub seen_set : RustSet → SaidSet
seen_set x = record { slot = seen_slot x.slot; amount = seen_amount x.amount }

abbrev pub seen_row : RustRow → SaidRow
seen_row row = record { conds = map seen_cond row.conds.items; sets = map seen_set row.sets.items }

abbrev pub seen_starts : RustStarts → Starts
seen_starts s = record { init = plain_value s.init; reset = option_map plain_value s.reset }

abbrev pub seen_slice : RustSlice → Slice
seen_slice s = record { word = s.word.now; bounds = s.bounds }

abbrev pub seen_said : RustLine → SaidLine
seen_said (LineInput name width) = Input name.now width
seen_said (LineWord name width s) = Word name.now width (seen_starts s)
seen_said (LineMemory name depth width s) = Memory name.now depth width (seen_starts s)
seen_said (LineOutput name s) = Output name.now (seen_slice s)
seen_said (LineChange row) = Change (seen_row row)
seen_said (LineRun row) = Run (seen_row row)
seen_said LineEnd = End
