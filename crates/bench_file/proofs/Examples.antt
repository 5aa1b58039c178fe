-- Worked examples of tables as they are written and of what fits a network, computed.
use Rattle.std.specs.Prelude.{◌≡◌, ℕ, List, [], ◌∷◌, ◌++◌, Option, Some, None, Result, Ok, Err, codes, refl}
use Rattle.std.specs.Prelude.{map}
use Rattle.std.specs.Fmt.{digits}
use Rattle.ij_bits.specs.Room.{full}
use Rattle.ij_text.specs.declared.Place.{Place}
use Rattle.net_graph.specs.declared.net.Net.{Net}
use Rattle.net_graph.specs.declared.net.Point.TheVariants.{Entry as ScanIn}
use Rattle.net_graph.specs.declared.net.Sig.TheVariants.{Zero}
use Rattle.instruments.specs.declared.model.Operand.TheVariants.{Word, Input, Old}
use Rattle.instruments.specs.declared.model.Slot.TheVariants.{Word as ToWord, Entry as ToEntry}
use Rattle.instruments.specs.declared.model.Amount.TheVariants.{Copy, Plus, Minus, Entry}
use Rattle.instruments.specs.Seen.{SeenPort, SeenRow, SeenModel}
use Rattle.bench_file.specs.declared.fault.FitsFault.TheVariants.{NoTable, ExtraTable, PortWidth}
use Rattle.table_lines.specs.Lines.{lines_of, end_of}
use Rattle.table_lines.specs.Words.{path, number, decimal, plain, is_wide, value_in, care_in, entry, slice}
use Rattle.table_lines.specs.Said.{line, instrument, version}
use Rattle.table_file.specs.Tables.{SeenTable, tables}
use Rattle.bench_file.specs.Written.{tables_text, table_text, model_text}
use Rattle.bench_file.specs.Fits.{fitted, with_ports_in_order}

abbrev line_at : ℕ → Place
line_at n = record { line = n; col = 1 }

-- x in a condition, a whole word and a slice of one
abbrev sliced : SeenModel
sliced =
    record {
      words = record { name = codes "a"; width = 4; init = 0; reset = Some 3 } ∷ [];
      memory = None;
      ins = record { name = codes "i"; width = 4 } ∷ [];
      outs = record {
        name = codes "o";
        word = 0;
        left = 2;
        right = 1;
      } ∷ record { name = codes "p"; word = 0; left = 3; right = 0 } ∷ [];
      change =
          [];
      run = record {
        conds = record { of = Input 0; value = 2; care = 14 } ∷ [];
        sets = record { slot = ToWord 0; amount = Minus (Word 0) 1 } ∷ [];
      } ∷ [];
    }

-- ---- what is written, and read again

abbrev sliced_text : List ℕ
sliced_text =
    codes "tables 2\ninstrument a\nin i 4\nword a 4 init 0 reset 3\nout o = a[2:1]\nout p = a\nrun when i = 0b001x do a = a - 1\nend\n"

sliced_written : tables_text (record { path = codes "a" ∷ []; at = line_at 2; model = sliced } ∷ [])
    ≡ sliced_text
unfolding tables_text table_text model_text digits
sliced_written = refl

sliced_again : tables sliced_text ≡ Ok (record { path = codes "a" ∷ []; at = line_at 2; model = sliced } ∷ [])
unfolding tables lines_of end_of version instrument path line number decimal
    plain is_wide value_in care_in entry slice
sliced_again = refl

-- ---- what fits

-- an instrument a.b with inputs x and y and outputs p and q
abbrev net : Net
net =
    record {
      regs = full [];
      muxes = full [];
      insts = full
          (record {
            node = 2;
            ins = full (record { name = full (codes "x"); bits = full (Zero ∷ Zero ∷ []) }
                ∷ record { name = full (codes "y"); bits = full (Zero ∷ []) } ∷ []);
            outs = full (record
                { name = full (codes "p"); width = 1 } ∷ record { name = full (codes "q"); width = 2 } ∷ []);
          } ∷ []);
      out = ScanIn;
      nodes = full (record { path = full []; «module» = full [] }
          ∷ record { path = full (full (codes "a") ∷ []); «module» = full [] } ∷ record {
            path =
                full (full (codes "a") ∷ full (codes "b") ∷ []);
            «module» = full [];
          } ∷ []);
      things = full [];
    }

-- its table names the ports in another order
abbrev other_order : ℕ → SeenModel
other_order width =
    record {
      words = record { name = codes "w"; width = 2; init = 0; reset = None } ∷ [];
      memory = None;
      ins = record { name = codes "y"; width = 1 } ∷ record { name = codes "x"; width = width } ∷ [];
      outs =
          record { name = codes "q"; word = 0; left = 1; right = 0 } ∷ record {
            name = codes "p";
            word = 0;
            left = 1;
            right = 1;
          } ∷ [];
      change = record {
        conds = record { of = Input 0; value = 1; care = 1 }
            ∷ record { of = Old 1; value = 2; care = 3 } ∷ record { of = Word 0; value = 0; care = 0 } ∷ [];
        sets = record { slot = ToWord 0; amount = Copy (Input 1) } ∷ [];
      } ∷ [];
      run = record { conds = []; sets = record { slot = ToWord 0; amount = Plus (Input 1) 3 } ∷ [] } ∷ [];
    }

abbrev net_order : SeenModel
net_order =
    record {
      words = record { name = codes "w"; width = 2; init = 0; reset = None } ∷ [];
      memory = None;
      ins = record { name = codes "x"; width = 2 } ∷ record { name = codes "y"; width = 1 } ∷ [];
      outs =
          record { name = codes "p"; word = 0; left = 1; right = 1 } ∷ record {
            name = codes "q";
            word = 0;
            left = 1;
            right = 0;
          } ∷ [];
      change = record {
        conds = record { of = Input 1; value = 1; care = 1 }
            ∷ record { of = Old 0; value = 2; care = 3 } ∷ record { of = Word 0; value = 0; care = 0 } ∷ [];
        sets = record { slot = ToWord 0; amount = Copy (Input 0) } ∷ [];
      } ∷ [];
      run = record { conds = []; sets = record { slot = ToWord 0; amount = Plus (Input 0) 3 } ∷ [] } ∷ [];
    }

abbrev of_b : ℕ → SeenTable
of_b width = record { path = codes "a" ∷ codes "b" ∷ []; at = line_at 2; model = other_order width }

abbrev of_c : SeenTable
of_c = record { path = codes "c" ∷ []; at = line_at 9; model = other_order 2 }

fits_in_order : fitted net (of_b 2 ∷ []) ≡ Ok (net_order ∷ [])
unfolding fitted with_ports_in_order
fits_in_order = refl

no_table : fitted net (of_c ∷ []) ≡ Err (NoTable 0)
unfolding fitted
no_table = refl

extra_table : fitted net (of_b 3 ∷ of_c ∷ []) ≡ Err (ExtraTable (line_at 9))
unfolding fitted
extra_table = refl

other_width : fitted net (of_b 3 ∷ []) ≡ Err (PortWidth 0)
unfolding fitted
other_width = refl

-- ---- inputs of one width in another order: a row still names them by their names

-- an instrument u with inputs a, b and c of two bits
abbrev alike : Net
alike =
    record {
      regs = full [];
      muxes = full [];
      insts = full (record {
        node = 1;
        ins = full (record { name = full (codes "a"); bits = full (Zero ∷ Zero ∷ []) }
            ∷ record { name = full (codes "b"); bits = full (Zero ∷ Zero ∷ []) }
            ∷ record { name = full (codes "c"); bits = full (Zero ∷ Zero ∷ []) } ∷ []);
        outs = full [];
      } ∷ []);
      out = ScanIn;
      nodes = full (record { path = full []; «module» = full [] }
          ∷ record { path = full (full (codes "u") ∷ []); «module» = full [] } ∷ []);
      things = full [];
    }

-- its table has them in the order b, c, a
abbrev turned_text : List ℕ
turned_text =
    codes "tables 2\ninstrument u\nin b 2\nin c 2\nin a 2\nword va 2 init 0\nword vb 4 init 5\nword vc 2 init 0\nmem m 4 2 init 0\nchange when old c = 0, b = 0bx1 do va = a, vb = vb + 3, vc = c, m[b] = a\nchange when a = 2 do va = b, vc = m[c]\nrun when c = 3 do va = b - 1\nend\n"

-- the model as the instrument has it: 0 is a, 1 is b, 2 is c
abbrev straight_text : List ℕ
straight_text =
    codes "tables 2\ninstrument u\nin a 2\nin b 2\nin c 2\nword va 2 init 0\nword vb 4 init 5\nword vc 2 init 0\nmem m 4 2 init 0\nchange when old c = 0, b = 0bx1 do va = a, vb = vb + 3, vc = c, m[b] = a\nchange when a = 2 do va = b, vc = m[c]\nrun when c = 3 do va = b - 1\nend\n"

abbrev with_inputs : List SeenPort → List SeenRow → List SeenRow → SeenModel
with_inputs ins change run =
    record {
      words = record { name = codes "va"; width = 2; init = 0; reset = None }
          ∷ record { name = codes "vb"; width = 4; init = 5; reset = None }
          ∷ record { name = codes "vc"; width = 2; init = 0; reset = None } ∷ [];
      memory = Some (record { name = codes "m"; depth = 4; width = 2; init = 0; reset = None });
      ins = ins;
      outs = [];
      change = change;
      run = run;
    }

abbrev two_bits : List ℕ → SeenPort
two_bits name = record { name = name; width = 2 }

abbrev turned : SeenModel
turned =
    with_inputs (two_bits (codes "b") ∷ two_bits (codes "c") ∷ two_bits (codes "a") ∷ [])
    (record {
      conds = record { of = Old 1; value = 0; care = 3 } ∷ record { of = Input 0; value = 1; care = 1 } ∷ [];
      sets = record { slot = ToWord 0; amount = Copy (Input 2) } ∷ record {
        slot = ToWord 1;
        amount = Plus (Word 1) 3;
      } ∷ record { slot = ToWord 2; amount = Copy (Input 1) }
          ∷ record { slot = ToEntry (Input 0); amount = Copy (Input 2) } ∷ [];
    } ∷ record {
      conds = record { of = Input 2; value = 2; care = 3 } ∷ [];
      sets = record { slot = ToWord 0; amount = Copy (Input 0) }
          ∷ record { slot = ToWord 2; amount = Entry (Input 1) } ∷ [];
    } ∷ [])
    (record {
      conds = record { of = Input 1; value = 3; care = 3 } ∷ [];
      sets = record { slot = ToWord 0; amount = Minus (Input 0) 1 } ∷ [];
    } ∷ [])

abbrev straight : SeenModel
straight =
    with_inputs (two_bits (codes "a") ∷ two_bits (codes "b") ∷ two_bits (codes "c") ∷ [])
    (record {
      conds = record { of = Old 2; value = 0; care = 3 } ∷ record { of = Input 1; value = 1; care = 1 } ∷ [];
      sets = record { slot = ToWord 0; amount = Copy (Input 0) } ∷ record {
        slot = ToWord 1;
        amount = Plus (Word 1) 3;
      } ∷ record { slot = ToWord 2; amount = Copy (Input 2) }
          ∷ record { slot = ToEntry (Input 1); amount = Copy (Input 0) } ∷ [];
    } ∷ record {
      conds = record { of = Input 0; value = 2; care = 3 } ∷ [];
      sets = record { slot = ToWord 0; amount = Copy (Input 1) }
          ∷ record { slot = ToWord 2; amount = Entry (Input 2) } ∷ [];
    } ∷ [])
    (record {
      conds = record { of = Input 2; value = 3; care = 3 } ∷ [];
      sets = record { slot = ToWord 0; amount = Minus (Input 1) 1 } ∷ [];
    } ∷ [])

abbrev of_u : SeenModel → SeenTable
of_u m = record { path = codes "u" ∷ []; at = line_at 2; model = m }

turned_read : tables turned_text ≡ Ok (of_u turned ∷ [])
unfolding tables lines_of end_of version instrument path line number decimal
    plain is_wide value_in care_in entry slice
turned_read = refl

straight_read : tables straight_text ≡ Ok (of_u straight ∷ [])
unfolding tables lines_of end_of version instrument path line number decimal
    plain is_wide value_in care_in entry slice
straight_read = refl

turned_fits : fitted alike (of_u turned ∷ []) ≡ Ok (straight ∷ [])
unfolding fitted with_ports_in_order
turned_fits = refl
