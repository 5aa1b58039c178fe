-- Worked examples: the text that is written of what a text says, computed.
use Rattle.std.specs.Prelude.{◌≡◌, ℕ, List, [], Result, Ok, Err, codes, refl}
use Rattle.std.specs.Fmt.{digits}
use Rattle.table_lines.specs.Lines.{lines_of, end_of}
use Rattle.table_lines.specs.Words.{path, number, decimal, plain, is_wide, value_in, care_in, entry, slice}
use Rattle.table_lines.specs.Said.{line, instrument, version}
use Rattle.table_file.specs.declared.fault.TableFault.{TableFault}
use Rattle.table_file.specs.Tables.{SeenTable, tables}
use Rattle.bench_file.specs.Written.{model_text, table_text, tables_text}

abbrev written : Result (List SeenTable) TableFault → List ℕ
written (Ok ts) = tables_text ts
written (Err f) = []

-- a counter keeps its lines
counter : written (tables (codes
    "tables 1\ninstrument cnt\nin start 1\nword n 8 init 0 reset 0\nword go 1 init 0 reset 0\nword fin 1 init 0 reset 0\nout done = fin\nchange when old start = 0, start = 1 do go = 1, n = 0, fin = 0\nrun when go = 1, n = 99 do go = 0, fin = 1, n = 100\nrun when go = 1 do n = n + 1\nend\n"))
    ≡ codes
    "tables 2\ninstrument cnt\nin start 1\nword n 8 init 0 reset 0\nword go 1 init 0 reset 0\nword fin 1 init 0 reset 0\nout done = fin\nchange when old start = 0, start = 1 do go = 1, n = 0, fin = 0\nrun when go = 1, n = 99 do go = 0, fin = 1, n = 100\nrun when go = 1 do n = n + 1\nend\n"
unfolding tables lines_of end_of version instrument path line number decimal plain is_wide value_in care_in
    entry slice tables_text table_text model_text digits
counter = refl

-- `init` is written, spaces are one, x is in digits, and a slice in brackets
spelled : written (tables (codes
    "tables 2\ninstrument a.b\nin i 4\nword v 4 reset 0xA\nmem m 12 4\nout o=v[2:1]\nout p = v[3:0]\nchange when i=0b1x,v=3 do m[i]=v , v=m[v]\nrun do v=v-1\nend"))
    ≡ codes
    "tables 2\ninstrument a.b\nin i 4\nword v 4 init 0 reset 10\nmem m 12 4 init 0\nout o = v[2:1]\nout p = v\nchange when i = 0b001x, v = 3 do m[i] = v, v = m[v]\nrun do v = v - 1\nend\n"
unfolding tables lines_of end_of version instrument path line number decimal plain is_wide value_in care_in
    entry slice tables_text table_text model_text digits
spelled = refl
