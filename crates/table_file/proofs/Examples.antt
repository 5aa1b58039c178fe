-- Worked examples at the edges of table files, computed.
use Rattle.std.specs.Prelude.{◌≡◌, ℕ, List, [], ◌∷◌, ◌++◌, Option, Some, None, Result, Ok, Err, codes, refl}
use Rattle.std.specs.Prelude.{map}
use Rattle.ij_text.specs.declared.Place.{Place}
use Rattle.instruments.specs.declared.model.Operand.TheVariants.{Word, Input, Old}
use Rattle.instruments.specs.declared.model.Slot.TheVariants.{Word as ToWord}
use Rattle.instruments.specs.declared.model.Amount.TheVariants.{Copy, Plus, Minus}
use Rattle.instruments.specs.Seen.{SeenModel}
use Rattle.table_file.specs.declared.fault.TableFault.{TableFault}
use Rattle.table_file.specs.declared.fault.TableFault.TheVariants.{TableSyntax, TableName, TableWidth}
use Rattle.table_file.specs.declared.fault.TableFault.TheVariants.{TableLimit, TableTwice}
use Rattle.table_lines.specs.Lines.{lines_of, end_of}
use Rattle.table_lines.specs.Words.{path, number, decimal, plain, is_wide, value_in, care_in, entry, slice}
use Rattle.table_lines.specs.Said.{line, instrument, version}
use Rattle.table_file.specs.Tables.{SeenTable, tables}

abbrev line_at : ℕ → Place
line_at n = record { line = n; col = 1 }

-- what is refused, and nothing where a text has tables
abbrev fault : Result (List SeenTable) TableFault → Option TableFault
fault (Ok ts) = None
fault (Err f) = Some f

-- the models of a text
abbrev models : Result (List SeenTable) TableFault → List SeenModel
models (Ok ts) = map (λ t. t.model) ts
models (Err f) = []

-- a block of version 2, its first line being the third of the file
abbrev block : List ℕ → Result (List SeenTable) TableFault
block text = tables (codes "tables 2\ninstrument a\n" ++ text)

-- ---- what is refused

-- another version, a block that isn't ended, a second block of a path, a memory in version 1, an empty file
files : map (λ text. fault (tables text)) (codes "tables 3" ∷ codes "tables 01"
    ∷ codes "tables 1\ninstrument a\n" ∷ codes "tables 1\ninstrument a\nend\ninstrument a\nend"
    ∷ codes "tables 1\ninstrument a\nmem m 1 1\nend" ∷ codes "tables 1\ninstrument a\ninstrument b\nend"
    ∷ codes "" ∷ codes "tables 1" ∷ codes "tables 2\nend" ∷ [])
    ≡ Some (TableSyntax (line_at 1)) ∷ Some (TableSyntax (line_at 1)) ∷ Some (TableSyntax (line_at 3))
    ∷ Some (TableTwice (line_at 4)) ∷ Some (TableSyntax (line_at 3)) ∷ Some (TableSyntax (line_at 3))
    ∷ Some (TableSyntax (line_at 1)) ∷ None ∷ Some (TableSyntax (line_at 2)) ∷ []
unfolding tables lines_of end_of version instrument path line number decimal
    plain is_wide value_in care_in entry slice
files = refl

-- widths of 0 and 65, the order of the causes in one line, depths, a second memory
limits : map (λ text. fault (block text))
    (codes "word a 0 init 1" ∷ codes "word a 0" ∷ codes "word a 65 init 1" ∷ codes
    "word a 64 init 0xFFFFFFFFFFFFFFFF reset 0b000000000000000000000000000000000000000000000000000000000000000000001\nend"
    ∷ codes "in a 64\nin b 65" ∷ codes "mem m 0 1" ∷ codes "mem m 257 1" ∷ codes "mem m 256 64\nend"
    ∷ codes "mem m 1 0 init 1" ∷ codes "mem m 1 1\nmem n 1 1" ∷ codes "mem m 1 1\nmem m 1 1"
    ∷ codes "mem m 1 1\nmem n 1 1 init 2" ∷ codes "word a 1 reset 2" ∷ codes "word a 1 init 0bx"
    ∷ codes "word a 340282366920938463463374607431768211456" ∷ []) ≡ Some (TableWidth (line_at 3))
    ∷ Some (TableLimit (line_at 3)) ∷ Some (TableLimit (line_at 3)) ∷ None ∷ Some (TableLimit (line_at 4))
    ∷ Some (TableLimit (line_at 3)) ∷ Some (TableLimit (line_at 3)) ∷ None ∷ Some (TableWidth (line_at 3))
    ∷ Some (TableLimit (line_at 4)) ∷ Some (TableName (line_at 4)) ∷ Some (TableWidth (line_at 4))
    ∷ Some (TableWidth (line_at 3)) ∷ Some (TableSyntax (line_at 3)) ∷ Some (TableSyntax (line_at 3)) ∷ []
unfolding tables lines_of end_of version instrument path line number decimal
    plain is_wide value_in care_in entry slice
limits = refl

-- the ninth word, the 17th input and the 17th output
counts : map (λ text. fault (block text)) (codes
    "word w0 1\nword w1 1\nword w2 1\nword w3 1\nword w4 1\nword w5 1\nword w6 1\nword w7 1\nend" ∷ codes
    "word w0 1\nword w1 1\nword w2 1\nword w3 1\nword w4 1\nword w5 1\nword w6 1\nword w7 1\nword w8 1" ∷
    codes "word w0 1\nword w1 1\nword w2 1\nword w3 1\nword w4 1\nword w5 1\nword w6 1\nword w7 1\nword w7 1"
    ∷ codes
    "in i0 1\nin i1 1\nin i2 1\nin i3 1\nin i4 1\nin i5 1\nin i6 1\nin i7 1\nin i8 1\nin i9 1\nin i10 1\nin i11 1\nin i12 1\nin i13 1\nin i14 1\nin i15 1\nend"
    ∷ codes
    "in i0 1\nin i1 1\nin i2 1\nin i3 1\nin i4 1\nin i5 1\nin i6 1\nin i7 1\nin i8 1\nin i9 1\nin i10 1\nin i11 1\nin i12 1\nin i13 1\nin i14 1\nin i15 1\nin i16 1"
    ∷ codes
    "word w 1\nout o0 = w\nout o1 = w\nout o2 = w\nout o3 = w\nout o4 = w\nout o5 = w\nout o6 = w\nout o7 = w\nout o8 = w\nout o9 = w\nout o10 = w\nout o11 = w\nout o12 = w\nout o13 = w\nout o14 = w\nout o15 = w\nend"
    ∷ codes
    "word w 1\nout o0 = w\nout o1 = w\nout o2 = w\nout o3 = w\nout o4 = w\nout o5 = w\nout o6 = w\nout o7 = w\nout o8 = w\nout o9 = w\nout o10 = w\nout o11 = w\nout o12 = w\nout o13 = w\nout o14 = w\nout o15 = w\nout o16 = w"
    ∷ []) ≡ None ∷ Some (TableLimit (line_at 11)) ∷ Some (TableName (line_at 11)) ∷ None
    ∷ Some (TableLimit (line_at 19)) ∷ None ∷ Some (TableLimit (line_at 20)) ∷ []
unfolding tables lines_of end_of version instrument path line number decimal
    plain is_wide value_in care_in entry slice
counts = refl

-- kinds of names, names that stand twice, and what is set twice
names : map (λ text. fault (block text)) (codes "in a 1\nword a 1" ∷ codes "word a 1\nmem a 1 1"
    ∷ codes "word a 1\nout a = a\nend" ∷ codes "word a 1\nout o = a\nout o = a" ∷ codes "in a 1\nout o = a"
    ∷ codes "mem m 1 1\nout o = m" ∷ codes "in i 1\nrun do i = 0" ∷ codes "mem m 1 1\nrun do m = 0"
    ∷ codes "word a 1\nrun do a = 0, a = 1" ∷ codes "in i 1\nmem m 1 1\nrun do m[i] = 0, m[i] = 1"
    ∷ codes "mem m 1 1\nrun when m = 0 do m[m] = 0" ∷ codes "word a 1\nrun do a[a] = 0"
    ∷ codes "word a 1\nchange when old a = 1 do a = 0" ∷ codes "word a 1\nrun do a = b"
    ∷ codes "word a 1\nword b 2\nrun do a = b, c = 0" ∷ codes "word a 1\nmem m 1 1\nrun do a = m" ∷ [])
    ≡ Some (TableName (line_at 4)) ∷ Some (TableName (line_at 4)) ∷ None ∷ Some (TableName (line_at 5))
    ∷ Some (TableName (line_at 4)) ∷ Some (TableName (line_at 4)) ∷ Some (TableName (line_at 4))
    ∷ Some (TableName (line_at 4)) ∷ Some (TableName (line_at 4)) ∷ Some (TableName (line_at 5))
    ∷ Some (TableName (line_at 4)) ∷ Some (TableName (line_at 4)) ∷ Some (TableName (line_at 4))
    ∷ Some (TableName (line_at 4)) ∷ Some (TableName (line_at 5)) ∷ Some (TableName (line_at 5)) ∷ []
unfolding tables lines_of end_of version instrument path line number decimal
    plain is_wide value_in care_in entry slice
names = refl

-- numbers, slices and names that don't fit
widths : map (λ text. fault (block text)) (codes "word a 4\nout o = a[1:2]" ∷ codes "word a 4\nout o = a[4:0]"
    ∷ codes "word a 4\nout o = a[3:0]\nend" ∷ codes "word a 1\nword b 2\nrun do a = b"
    ∷ codes "word a 1\nword b 2\nrun do a = b + 1" ∷ codes "word a 1\nrun do a = a - 2"
    ∷ codes "word a 1\nrun do a = 2" ∷ codes "word a 1\nrun do a = 0b01\nend"
    ∷ codes "word a 1\nrun when a = 0bx1 do a = 0" ∷ codes "in i 9\nword a 2\nmem m 1 1\nrun do a = m[i]"
    ∷ codes "in i 9\nmem m 1 1\nrun do m[i] = i" ∷ codes "in i 9\nmem m 1 1\nrun do m[i] = 2"
    ∷ codes "in i 9\nword a 1\nmem m 1 1\nrun do m[i] = a + 1, a = m[i]\nend" ∷ [])
    ≡ Some (TableWidth (line_at 4)) ∷ Some (TableWidth (line_at 4)) ∷ None ∷ Some (TableWidth (line_at 5))
    ∷ Some (TableWidth (line_at 5)) ∷ Some (TableWidth (line_at 4)) ∷ Some (TableWidth (line_at 4)) ∷ None
    ∷ Some (TableWidth (line_at 4)) ∷ Some (TableWidth (line_at 6)) ∷ Some (TableWidth (line_at 5))
    ∷ Some (TableWidth (line_at 5)) ∷ None ∷ []
unfolding tables lines_of end_of version instrument path line number decimal
    plain is_wide value_in care_in entry slice
widths = refl

-- forms of rows, and the order of lines
syntax : map (λ text. fault (block text)) (codes "in i 1\nmem m 1 1\nrun do m[i] = m[i]"
    ∷ codes "word a 1\nin i 1" ∷ codes "word a 1\nrun do a = 0\nchange do a = 0"
    ∷ codes "in i 1\nword a 1\nrun when old i = 1 do a = 0" ∷ codes "word a 1\nrun do"
    ∷ codes "word a 1\nrun do a = 0," ∷ codes "word a 1\nrun when do a = 0" ∷ codes "word a 1\nrun when a = 0"
    ∷ codes "word a 1\nrun do a = 1 + a" ∷ codes "word a 1\nrun do a = b, = 0"
    ∷ codes "word a 4\nout o = a[2]" ∷ codes "word a 4\nout o = a [2:1]" ∷ codes "word a 1 reset 1 init 0"
    ∷ codes "word a 1\nrun do a=a+1,\nend" ∷ codes "word a 1\nrun when a=0,a=1 do a=a+1\nend" ∷ [])
    ≡ Some (TableSyntax (line_at 5)) ∷ Some (TableSyntax (line_at 4)) ∷ Some (TableSyntax (line_at 5))
    ∷ Some (TableSyntax (line_at 5)) ∷ Some (TableSyntax (line_at 4)) ∷ Some (TableSyntax (line_at 4))
    ∷ Some (TableSyntax (line_at 4)) ∷ Some (TableSyntax (line_at 4)) ∷ Some (TableSyntax (line_at 4))
    ∷ Some (TableSyntax (line_at 4)) ∷ Some (TableSyntax (line_at 4)) ∷ Some (TableSyntax (line_at 4))
    ∷ Some (TableSyntax (line_at 3)) ∷ Some (TableSyntax (line_at 4)) ∷ None ∷ []
unfolding tables lines_of end_of version instrument path line number decimal
    plain is_wide value_in care_in entry slice
syntax = refl

-- ---- what is read

-- an input whose name is `old`, and what it was before the change
old_inputs : models (block (codes "in old 1\nword a 1\nchange when old = 1, old old = 0 do a = old\nend"))
    ≡ record {
      words = record { name = codes "a"; width = 1; init = 0; reset = None } ∷ [];
      memory = None;
      ins = record { name = codes "old"; width = 1 } ∷ [];
      outs = [];
      change =
          record {
            conds = record { of = Input 0; value = 1; care = 1 } ∷ record { of = Old 0; value = 0; care = 1 }
                ∷ [];
            sets = record { slot = ToWord 0; amount = Copy (Input 0) } ∷ [];
          } ∷ [];
      run = [];
    } ∷ []
unfolding tables lines_of end_of version instrument path line number decimal
    plain is_wide value_in care_in entry slice
old_inputs = refl

-- x in a condition, a whole word and a slice of one
abbrev sliced : SeenModel
sliced =
    record {
      words = record { name = codes "a"; width = 4; init = 0; reset = Some 3 } ∷ [];
      memory = None;
      ins = record { name = codes "i"; width = 4 } ∷ [];
      outs = record {
        name = codes "o";
        word = 0;
        left = 2;
        right = 1;
      } ∷ record { name = codes "p"; word = 0; left = 3; right = 0 } ∷ [];
      change =
          [];
      run = record {
        conds = record { of = Input 0; value = 2; care = 14 } ∷ [];
        sets = record { slot = ToWord 0; amount = Minus (Word 0) 1 } ∷ [];
      } ∷ [];
    }

sliced_read : models
    (block (codes "in i 4\nword a 4 reset 3\nout o = a[2:1]\nout p = a\nrun when i = 0b1x do a=a-1\nend"))
    ≡ sliced ∷ []
unfolding tables lines_of end_of version instrument path line number decimal
    plain is_wide value_in care_in entry slice
sliced_read = refl
