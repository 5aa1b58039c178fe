-- Procedures on small networks, and their bit steps.
use Rattle.std.specs.Prelude.{◌≡◌, ℕ, suc, zero, ◌-◌, ◌++◌, true, false, List, [], ◌∷◌, map, replicate, Some}
use Rattle.std.specs.Prelude.{None, Result, Ok, Err, codes, refl}
use Rattle.ij_text.specs.Reading.{Stop as LeftAt}
use Rattle.ij_bits.specs.Room.{full}
use Rattle.ij_bits.specs.Terns.{exact}
use Rattle.ij_text.specs.declared.Which.TheVariants.{RunLoop, RunCycles}
use Rattle.net_graph.specs.declared.net.Net.{Net}
use Rattle.net_graph.specs.declared.net.Node.{Node}
use Rattle.net_graph.specs.declared.net.Reg.{Reg}
use Rattle.net_graph.specs.declared.net.Mux.{Mux}
use Rattle.net_graph.specs.declared.net.Sig.{Sig}
use Rattle.net_graph.specs.declared.net.Sig.TheVariants.{Bit, Out}
use Rattle.net_graph.specs.declared.net.Spot.{Spot}
use Rattle.net_graph.specs.declared.net.Spot.TheVariants.{Held, Inward, Outward}
use Rattle.net_graph.specs.declared.net.Thing.{Thing}
use Rattle.net_graph.specs.declared.net.Point.TheVariants.{Entry}
use Rattle.net_graph.specs.Named.{bits_from}
use Rattle.net_graph.specs.OneRegister.{plain_register}
use Rattle.pdl_parser.specs.declared.words.Rule.{Rule}
use Rattle.pdl_parser.specs.Cutting.{words_of}
use Rattle.pdl_parser.specs.Values.{AProc}
use Rattle.pdl_parser.specs.Texts.{command_named, file_named, is_left_out, rule_against}
use Rattle.pdl_parser.specs.Reading.{whole_text, read_file, read_part, read_part_after, read_level}
use Rattle.pdl_parser.specs.Reading.{read_module, read_proc, read_proc_name, read_arguments, read_body}
use Rattle.pdl_parser.specs.Reading.{read_body_end, read_lines, read_line, read_line_after, read_command}
use Rattle.pdl_parser.specs.Reading.{read_prefix, read_call, read_write, read_read, read_run_loop, read_note}
use Rattle.pdl_parser.specs.Reading.{read_merge, read_end, read_value, read_values}
use Rattle.pdl_expand.specs.Values.{cells_of}
use Rattle.pdl_expand.specs.Expansion.{expansion}
use Rattle.pdl_targets.specs.Targets.{IsNoTarget, IsNoValue, IsValueWide, IsNotWritable, IsSelectTarget}
use Rattle.pdl_targets.specs.Targets.{IsBadCount, IsLimit, IsUnapplied}
use Rattle.pdl_targets.specs.Rounds.{Places}
use Rattle.net_graph.specs.SeenSteps.{Apply, Run, Reset}
use Rattle.pdl_targets.specs.Binding.{Bound, bound}

-- a network, and where its registers stand
pub record Placed : Type 0 where
  pub net : Net
  pub places : Places

abbrev procs_in : Result (List AProc) (LeftAt Rule) → List AProc
procs_in (Ok procs) = procs
procs_in (Err stop) = []

procs_of : List ℕ → List AProc
procs_of text = procs_in (whole_text (words_of text))

-- the bit steps of the procedure `p` of a text
result : Placed → List ℕ → Bound
result placed text = bound placed.net placed.places
    (expansion (procs_of text) (cells_of placed.net) (codes "p")).steps

abbrev top : Node
top = record { path = full []; «module» = full (codes "chip") }

abbrev cell : List ℕ → Node
cell name = record { path = full (full name ∷ []); «module» = full (codes "Net") }

-- a thing of the cell `net`
abbrev thing : List ℕ → ℕ → List Spot → Thing
thing name width spots =
    record {
      node = 1;
      name = full name;
      left = width - 1;
      right = 0;
      bits = record { items = spots };
      words = full [];
    }

abbrev net_of : List Reg → List Mux → List Thing → Net
net_of regs muxes things = record {
  regs = full regs;
  muxes = full muxes;
  insts = full [];
  out = Entry;
  nodes = full (top ∷ cell (codes "net") ∷ []);
  things = full things;
}

abbrev held : ℕ → ℕ → List Spot
held r width = map (λ b. Held b) (bits_from r 0 width)

-- `R[4]`
abbrev one_register : Placed
one_register = record {
  net =
      net_of (plain_register 0 4 Entry ∷ []) [] (thing (codes "R") 4 (held 0 4) ∷ []);
  places = λ r. [];
}

-- `S m/S(A[2]|B[2])`
abbrev mux_places : Places
mux_places zero = []
mux_places (suc r) = record { mux = 0; row = r } ∷ []

abbrev two_rows : Placed
two_rows = record {
  net = net_of (plain_register 0 1 Entry ∷ plain_register 1 2 Entry ∷ plain_register 2 2 Entry ∷ [])
      (record {
        select = full (record { reg = 0; pos = 0 } ∷ []);
        rows = full [];
        node = 1;
        name = full (codes "m");
      } ∷ [])
      (thing (codes "S") 1 (held 0 1) ∷ thing (codes "A") 2 (held 1 2) ∷ thing (codes "B") 2 (held 2 2) ∷ []);
  places = mux_places;
}

-- registers R and Q of two bits; an alias of both with an enumeration; and an instrument whose input is the
-- inverse of R's bit 0, and whose output is captured by both bits of Q
abbrev alias : Thing
alias = record {
  node = 1;
  name = full (codes "a");
  left = 3;
  right = 0;
  bits = record { items = held 1 2 ++ held 0 2 };
  words = full ((full (codes "on"), exact (true ∷ false ∷ false ∷ true ∷ []))
      ∷ (full (codes "off"), exact (false ∷ false ∷ false ∷ false ∷ [])) ∷ []);
}

abbrev output : Sig
output = Out 0 0 0 false

abbrev mixed : Placed
mixed = record {
  net = record {
    regs = full (plain_register 0 2 Entry ∷ record {
      width = 2;
      from = Entry;
      capture = full (output ∷ output ∷ []);
      reset = exact (replicate 2 false);
      thing = 1;
    } ∷ []);
    muxes = full [];
    insts = full [];
    out = Entry;
    nodes = full (top ∷ cell (codes "net") ∷ record {
      path =
          full (full (codes "net") ∷ full (codes "ins") ∷ []);
      «module» = full (codes "Bit");
    } ∷ []);
    things = full (thing (codes "R") 2 (held 0 2) ∷ thing (codes "Q") 2 (held 1 2) ∷ alias
        ∷ record {
          node = 2;
          name = full (codes "d");
          left = 0;
          right = 0;
          bits = record { items = Inward (Bit (record { reg = 0; pos = 0 }) true) ∷ [] };
          words = full [];
        }
        ∷ record {
          node = 2;
          name = full (codes "q");
          left = 0;
          right = 0;
          bits = record { items = Outward output ∷ [] };
          words = full [];
        } ∷ []);
  };
  places = λ r. [];
}

one_write : result one_register ((codes "iProcsForModule chip") ++ (10 ∷ []) ++ (codes "iProc p {} {") ++ (10
    ∷ []) ++ (codes "  iWrite net.R 0b0101") ++ (10 ∷ []) ++ (codes "  iApply") ++ (10 ∷ []) ++ (codes "}"))
    ≡ record {
      steps = Apply (record {
        writes = record { bit = record { reg = 0; pos = 0 }; value = true }
            ∷ record { bit = record { reg = 0; pos = 1 }; value = false } ∷ record {
              bit = record {
                reg = 0;
                pos =
                    2;
              };
              value = true;
            } ∷ record { bit = record { reg = 0; pos = 3 }; value = false } ∷ [];
        reads = [];
      } ∷ [])
          ∷ [];
      fault = None;
    }
unfolding result bound expansion procs_of whole_text words_of read_file read_part read_part_after read_level
    read_module read_proc read_proc_name read_arguments read_body read_body_end read_lines read_line
    read_line_after read_command read_prefix read_call read_write read_read read_run_loop read_note read_merge
    read_end read_value read_values command_named file_named is_left_out rule_against
one_write = refl

only_what_counts : result one_register
    ((codes "iProcsForModule chip") ++ (10 ∷ []) ++ (codes "iProc p {} {") ++ (10 ∷ [])
    ++ (codes "  iWrite net.R 0b1xx0") ++ (10 ∷ []) ++ (codes "  iApply") ++ (10 ∷ []) ++ (codes "}"))
    ≡ record {
      steps = Apply (record {
        writes = record { bit = record { reg = 0; pos = 0 }; value = false }
            ∷ record { bit = record { reg = 0; pos = 3 }; value = true } ∷ [];
        reads = [];
      } ∷ []) ∷ [];
      fault = None;
    }
unfolding result bound expansion procs_of whole_text words_of read_file read_part read_part_after read_level
    read_module read_proc read_proc_name read_arguments read_body read_body_end read_lines read_line
    read_line_after read_command read_prefix read_call read_write read_read read_run_loop read_note read_merge
    read_end read_value read_values command_named file_named is_left_out rule_against
only_what_counts = refl

last_write_wins : result one_register ((codes "iProcsForModule chip") ++ (10 ∷ []) ++ (codes "iProc p {} {")
    ++ (10 ∷ []) ++ (codes "  iWrite net.R[1:0] 3") ++ (10 ∷ []) ++ (codes "  iWrite net.R[0] 0") ++ (10 ∷ [])
    ++ (codes "  iApply") ++ (10 ∷ []) ++ (codes "}"))
    ≡ record {
      steps = Apply (record {
        writes = record { bit = record { reg = 0; pos = 0 }; value = false }
            ∷ record { bit = record { reg = 0; pos = 1 }; value = true } ∷ [];
        reads = [];
      } ∷ []) ∷ [];
      fault = None;
    }
unfolding result bound expansion procs_of whole_text words_of read_file read_part read_part_after read_level
    read_module read_proc read_proc_name read_arguments read_body read_body_end read_lines read_line
    read_line_after read_command read_prefix read_call read_write read_read read_run_loop read_note read_merge
    read_end read_value read_values command_named file_named is_left_out rule_against
last_write_wins = refl

last_read_counts : result one_register ((codes "iProcsForModule chip") ++ (10 ∷ []) ++ (codes "iProc p {} {")
    ++ (10 ∷ []) ++ (codes "  iRead net.R[1] 1") ++ (10 ∷ []) ++ (codes "  iWrite net.R[1] 1") ++ (10 ∷ [])
    ++ (codes "  iRead net.R[1:0] 0") ++ (10 ∷ []) ++ (codes "  iRead net.R") ++ (10 ∷ [])
    ++ (codes "  iApply") ++ (10 ∷ []) ++ (codes "}"))
    ≡ record {
      steps = Apply (record {
        writes = record { bit = record { reg = 0; pos = 1 }; value = true }
            ∷ [];
        reads = record { bit = record { reg = 0; pos = 1 }; expect = false; read = 2; line = 5; index = 1 }
            ∷ record {
              bit = record { reg = 0; pos = 0 };
              expect = false;
              read = 2;
              line = 5;
              index = 0;
            } ∷ [];
      } ∷ [])
          ∷ [];
      fault = None;
    }
unfolding result bound expansion procs_of whole_text words_of read_file read_part read_part_after read_level
    read_module read_proc read_proc_name read_arguments read_body read_body_end read_lines read_line
    read_line_after read_command read_prefix read_call read_write read_read read_run_loop read_note read_merge
    read_end read_value read_values command_named file_named is_left_out rule_against
last_read_counts = refl

nothing_to_apply : result one_register ((codes "iProcsForModule chip") ++ (10 ∷ []) ++ (codes "iProc p {} {")
    ++ (10 ∷ []) ++ (codes "  iApply") ++ (10 ∷ []) ++ (codes "  iWrite net.R 0bxxxx") ++ (10 ∷ [])
    ++ (codes "  iApply") ++ (10 ∷ []) ++ (codes "  iRead net.R") ++ (10 ∷ []) ++ (codes "  iApply")
    ++ (10 ∷ []) ++ (codes "}")) ≡ record { steps = []; fault = None }
unfolding result bound expansion procs_of whole_text words_of read_file read_part read_part_after read_level
    read_module read_proc read_proc_name read_arguments read_body read_body_end read_lines read_line
    read_line_after read_command read_prefix read_call read_write read_read read_run_loop read_note read_merge
    read_end read_value read_values command_named file_named is_left_out rule_against
nothing_to_apply = refl

unapplied : result one_register ((codes "iProcsForModule chip") ++ (10 ∷ []) ++ (codes "iProc p {} {")
    ++ (10 ∷ []) ++ (codes "  iWrite net.R 1") ++ (10 ∷ []) ++ (codes "}"))
    ≡ record { steps = []; fault = Some (IsUnapplied (record { line = 3; col = 3 })) }
unfolding result bound expansion procs_of whole_text words_of read_file read_part read_part_after read_level
    read_module read_proc read_proc_name read_arguments read_body read_body_end read_lines read_line
    read_line_after read_command read_prefix read_call read_write read_read read_run_loop read_note read_merge
    read_end read_value read_values command_named file_named is_left_out rule_against
unapplied = refl

unapplied_though_open : result one_register
    ((codes "iProcsForModule chip") ++ (10 ∷ []) ++ (codes "iProc p {} {") ++ (10 ∷ []) ++ (codes "  iApply")
    ++ (10 ∷ []) ++ (codes "  iRead net.R") ++ (10 ∷ []) ++ (codes "  iReset") ++ (10 ∷ []) ++ (codes "}"))
    ≡ record { steps = Reset ∷ []; fault = Some (IsUnapplied (record { line = 4; col = 3 })) }
unfolding result bound expansion procs_of whole_text words_of read_file read_part read_part_after read_level
    read_module read_proc read_proc_name read_arguments read_body read_body_end read_lines read_line
    read_line_after read_command read_prefix read_call read_write read_read read_run_loop read_note read_merge
    read_end read_value read_values command_named file_named is_left_out rule_against
unapplied_though_open = refl

too_wide_a_value : result one_register ((codes "iProcsForModule chip") ++ (10 ∷ []) ++ (codes "iProc p {} {")
    ++ (10 ∷ []) ++ (codes "  iWrite net.R 16") ++ (10 ∷ []) ++ (codes "  iApply") ++ (10 ∷ [])
    ++ (codes "}")) ≡ record { steps = []; fault = Some (IsValueWide (record { line = 3; col = 3 })) }
unfolding result bound expansion procs_of whole_text words_of read_file read_part read_part_after read_level
    read_module read_proc read_proc_name read_arguments read_body read_body_end read_lines read_line
    read_line_after read_command read_prefix read_call read_write read_read read_run_loop read_note read_merge
    read_end read_value read_values command_named file_named is_left_out rule_against
too_wide_a_value = refl

zeros_above : result one_register ((codes "iProcsForModule chip") ++ (10 ∷ []) ++ (codes "iProc p {} {")
    ++ (10 ∷ []) ++ (codes "  iWrite net.R[2:2] 0b001") ++ (10 ∷ []) ++ (codes "  iApply") ++ (10 ∷ [])
    ++ (codes "}")) ≡ record {
      steps = Apply (record {
        writes =
            record { bit = record { reg = 0; pos = 2 }; value = true } ∷ [];
        reads = [];
      } ∷ []) ∷ [];
      fault = None;
    }
unfolding result bound expansion procs_of whole_text words_of read_file read_part read_part_after read_level
    read_module read_proc read_proc_name read_arguments read_body read_body_end read_lines read_line
    read_line_after read_command read_prefix read_call read_write read_read read_run_loop read_note read_merge
    read_end read_value read_values command_named file_named is_left_out rule_against
zeros_above = refl

no_such_thing : result one_register ((codes "iProcsForModule chip") ++ (10 ∷ []) ++ (codes "iProc p {} {")
    ++ (10 ∷ []) ++ (codes "  iApply") ++ (10 ∷ []) ++ (codes "  iWrite net.Q 1") ++ (10 ∷ []) ++ (codes "}"))
    ≡ record { steps = []; fault = Some (IsNoTarget (record { line = 4; col = 3 })) }
unfolding result bound expansion procs_of whole_text words_of read_file read_part read_part_after read_level
    read_module read_proc read_proc_name read_arguments read_body read_body_end read_lines read_line
    read_line_after read_command read_prefix read_call read_write read_read read_run_loop read_note read_merge
    read_end read_value read_values command_named file_named is_left_out rule_against
no_such_thing = refl

index_outside : result one_register ((codes "iProcsForModule chip") ++ (10 ∷ []) ++ (codes "iProc p {} {")
    ++ (10 ∷ []) ++ (codes "  iWrite net.R[4] 1") ++ (10 ∷ []) ++ (codes "}"))
    ≡ record { steps = []; fault = Some (IsNoTarget (record { line = 3; col = 3 })) }
unfolding result bound expansion procs_of whole_text words_of read_file read_part read_part_after read_level
    read_module read_proc read_proc_name read_arguments read_body read_body_end read_lines read_line
    read_line_after read_command read_prefix read_call read_write read_read read_run_loop read_note read_merge
    read_end read_value read_values command_named file_named is_left_out rule_against
index_outside = refl

the_other_way : result one_register ((codes "iProcsForModule chip") ++ (10 ∷ []) ++ (codes "iProc p {} {")
    ++ (10 ∷ []) ++ (codes "  iWrite net.R[0:1] 1") ++ (10 ∷ []) ++ (codes "}"))
    ≡ record { steps = []; fault = Some (IsNoTarget (record { line = 3; col = 3 })) }
unfolding result bound expansion procs_of whole_text words_of read_file read_part read_part_after read_level
    read_module read_proc read_proc_name read_arguments read_body read_body_end read_lines read_line
    read_line_after read_command read_prefix read_call read_write read_read read_run_loop read_note read_merge
    read_end read_value read_values command_named file_named is_left_out rule_against
the_other_way = refl

no_such_word : result one_register ((codes "iProcsForModule chip") ++ (10 ∷ []) ++ (codes "iProc p {} {")
    ++ (10 ∷ []) ++ (codes "  iWrite net.R on") ++ (10 ∷ []) ++ (codes "}"))
    ≡ record { steps = []; fault = Some (IsNoValue (record { line = 3; col = 3 })) }
unfolding result bound expansion procs_of whole_text words_of read_file read_part read_part_after read_level
    read_module read_proc read_proc_name read_arguments read_body read_body_end read_lines read_line
    read_line_after read_command read_prefix read_call read_write read_read read_run_loop read_note read_merge
    read_end read_value read_values command_named file_named is_left_out rule_against
no_such_word = refl

runs : result one_register ((codes "iProcsForModule chip") ++ (10 ∷ []) ++ (codes "iProc p {} {") ++ (10 ∷ [])
    ++ (codes "  iRunLoop 0") ++ (10 ∷ []) ++ (codes "  iRunLoop 1000000") ++ (10 ∷ []) ++ (codes "}"))
    ≡ record { steps = Run 1000000 ∷ []; fault = None }
unfolding result bound expansion procs_of whole_text words_of read_file read_part read_part_after read_level
    read_module read_proc read_proc_name read_arguments read_body read_body_end read_lines read_line
    read_line_after read_command read_prefix read_call read_write read_read read_run_loop read_note read_merge
    read_end read_value read_values command_named file_named is_left_out rule_against
runs = refl

too_long_a_run : result one_register ((codes "iProcsForModule chip") ++ (10 ∷ []) ++ (codes "iProc p {} {")
    ++ (10 ∷ []) ++ (codes "  iRunLoop 1000001") ++ (10 ∷ []) ++ (codes "}"))
    ≡ record { steps = []; fault = Some (IsLimit (record { line = 3; col = 3 }) RunLoop 1000000) }
unfolding result bound expansion procs_of whole_text words_of read_file read_part read_part_after read_level
    read_module read_proc read_proc_name read_arguments read_body read_body_end read_lines read_line
    read_line_after read_command read_prefix read_call read_write read_read read_run_loop read_note read_merge
    read_end read_value read_values command_named file_named is_left_out rule_against
too_long_a_run = refl

too_many_cycles : result one_register ((codes "iProcsForModule chip") ++ (10 ∷ []) ++ (codes "iProc p {} {")
    ++ (10 ∷ []) ++ (codes "  iRunLoop 1000000") ++ (10 ∷ []) ++ (codes "  iRunLoop 1000000") ++ (10 ∷ [])
    ++ (codes "  iRunLoop 1000000") ++ (10 ∷ []) ++ (codes "  iRunLoop 1000000") ++ (10 ∷ [])
    ++ (codes "  iRunLoop 1") ++ (10 ∷ []) ++ (codes "}"))
    ≡ record {
      steps = Run 1000000 ∷ Run 1000000 ∷ Run 1000000 ∷ Run 1000000 ∷ [];
      fault = Some (IsLimit (record { line = 7; col = 3 }) RunCycles 4000000);
    }
unfolding result bound expansion procs_of whole_text words_of read_file read_part read_part_after read_level
    read_module read_proc read_proc_name read_arguments read_body read_body_end read_lines read_line
    read_line_after read_command read_prefix read_call read_write read_read read_run_loop read_note read_merge
    read_end read_value read_values command_named file_named is_left_out rule_against
too_many_cycles = refl

no_count : result one_register ((codes "iProcsForModule chip") ++ (10 ∷ []) ++ (codes "iProc p {} {")
    ++ (10 ∷ []) ++ (codes "  iRunLoop 0b1") ++ (10 ∷ []) ++ (codes "}"))
    ≡ record { steps = []; fault = Some (IsBadCount (record { line = 3; col = 3 })) }
unfolding result bound expansion procs_of whole_text words_of read_file read_part read_part_after read_level
    read_module read_proc read_proc_name read_arguments read_body read_body_end read_lines read_line
    read_line_after read_command read_prefix read_call read_write read_read read_run_loop read_note read_merge
    read_end read_value read_values command_named file_named is_left_out rule_against
no_count = refl

select_bit : result two_rows ((codes "iProcsForModule chip") ++ (10 ∷ []) ++ (codes "iProc p {} {")
    ++ (10 ∷ []) ++ (codes "  iWrite net.S 1") ++ (10 ∷ []) ++ (codes "  iApply") ++ (10 ∷ []) ++ (codes "}"))
    ≡ record {
      steps =
          [];
      fault = Some (IsSelectTarget (record { line = 3; col = 3 }) (record { reg = 0; pos = 0 }));
    }
unfolding result bound expansion procs_of whole_text words_of read_file read_part read_part_after read_level
    read_module read_proc read_proc_name read_arguments read_body read_body_end read_lines read_line
    read_line_after read_command read_prefix read_call read_write read_read read_run_loop read_note read_merge
    read_end read_value read_values command_named file_named is_left_out rule_against
select_bit = refl

two_rounds : result two_rows ((codes "iProcsForModule chip") ++ (10 ∷ []) ++ (codes "iProc p {} {")
    ++ (10 ∷ []) ++ (codes "  iWrite net.A 1") ++ (10 ∷ []) ++ (codes "  iWrite net.B 2") ++ (10 ∷ [])
    ++ (codes "  iApply") ++ (10 ∷ []) ++ (codes "}"))
    ≡ record {
      steps = Apply (record {
        writes = record { bit = record { reg = 1; pos = 0 }; value = true }
            ∷ record { bit = record { reg = 1; pos = 1 }; value = false } ∷ [];
        reads = [];
      }
          ∷ record {
            writes = record { bit = record { reg = 2; pos = 0 }; value = false }
                ∷ record { bit = record { reg = 2; pos = 1 }; value = true } ∷ [];
            reads = [];
          } ∷ []) ∷ [];
      fault = None;
    }
unfolding result bound expansion procs_of whole_text words_of read_file read_part read_part_after read_level
    read_module read_proc read_proc_name read_arguments read_body read_body_end read_lines read_line
    read_line_after read_command read_prefix read_call read_write read_read read_run_loop read_note read_merge
    read_end read_value read_values command_named file_named is_left_out rule_against
two_rounds = refl

first_mention_first : result two_rows ((codes "iProcsForModule chip") ++ (10 ∷ []) ++ (codes "iProc p {} {")
    ++ (10 ∷ []) ++ (codes "  iWrite net.B 2") ++ (10 ∷ []) ++ (codes "  iRead net.A 1") ++ (10 ∷ [])
    ++ (codes "  iWrite net.B[0] 1") ++ (10 ∷ []) ++ (codes "  iApply") ++ (10 ∷ []) ++ (codes "}"))
    ≡ record {
      steps = Apply (record {
        writes = record { bit = record { reg = 2; pos = 0 }; value = true }
            ∷ record { bit = record { reg = 2; pos = 1 }; value = true } ∷ [];
        reads = [];
      } ∷ record {
        writes =
            [];
        reads = record { bit = record { reg = 1; pos = 0 }; expect = true; read = 1; line = 4; index = 0 }
            ∷ record {
              bit = record { reg = 1; pos = 1 };
              expect = false;
              read = 1;
              line = 4;
              index = 1;
            } ∷ [];
      } ∷ [])
          ∷ [];
      fault = None;
    }
unfolding result bound expansion procs_of whole_text words_of read_file read_part read_part_after read_level
    read_module read_proc read_proc_name read_arguments read_body read_body_end read_lines read_line
    read_line_after read_command read_prefix read_call read_write read_read read_run_loop read_note read_merge
    read_end read_value read_values command_named file_named is_left_out rule_against
first_mention_first = refl

an_alias : result mixed ((codes "iProcsForModule chip") ++ (10 ∷ []) ++ (codes "iProc p {} {") ++ (10 ∷ [])
    ++ (codes "  iWrite net.a on") ++ (10 ∷ []) ++ (codes "  iApply") ++ (10 ∷ [])
    ++ (codes "  iWrite net.ins.d 0") ++ (10 ∷ []) ++ (codes "  iApply") ++ (10 ∷ [])
    ++ (codes "  iRead net.ins.q 1") ++ (10 ∷ []) ++ (codes "  iApply") ++ (10 ∷ []) ++ (codes "}"))
    ≡ record {
      steps = Apply (record {
        writes = record { bit = record { reg = 1; pos = 0 }; value = true }
            ∷ record { bit = record { reg = 1; pos = 1 }; value = false } ∷ record {
              bit = record {
                reg = 0;
                pos =
                    0;
              };
              value = false;
            } ∷ record { bit = record { reg = 0; pos = 1 }; value = true } ∷ [];
        reads = [];
      } ∷ [])
          ∷ Apply (record
          { writes = record { bit = record { reg = 0; pos = 0 }; value = true } ∷ []; reads = [] }
          ∷ []) ∷ Apply (record {
            writes = [];
            reads = record {
              bit = record { reg = 1; pos = 0 };
              expect = true;
              read = 1;
              line = 7;
              index = 0;
            } ∷ [];
          } ∷ []) ∷ [];
      fault = None;
    }
unfolding result bound expansion procs_of whole_text words_of read_file read_part read_part_after read_level
    read_module read_proc read_proc_name read_arguments read_body read_body_end read_lines read_line
    read_line_after read_command read_prefix read_call read_write read_read read_run_loop read_note read_merge
    read_end read_value read_values command_named file_named is_left_out rule_against
an_alias = refl

an_output : result mixed ((codes "iProcsForModule chip") ++ (10 ∷ []) ++ (codes "iProc p {} {") ++ (10 ∷ [])
    ++ (codes "  iWrite net.ins.q 1") ++ (10 ∷ []) ++ (codes "}"))
    ≡ record { steps = []; fault = Some (IsNotWritable (record { line = 3; col = 3 })) }
unfolding result bound expansion procs_of whole_text words_of read_file read_part read_part_after read_level
    read_module read_proc read_proc_name read_arguments read_body read_body_end read_lines read_line
    read_line_after read_command read_prefix read_call read_write read_read read_run_loop read_note read_merge
    read_end read_value read_values command_named file_named is_left_out rule_against
an_output = refl

read_back_of_an_input : result mixed ((codes "iProcsForModule chip") ++ (10 ∷ []) ++ (codes "iProc p {} {") ++
    (10 ∷ []) ++ (codes "  iRead net.ins.d 1") ++ (10 ∷ []) ++ (codes "  iApply") ++ (10 ∷ []) ++ (codes "}"))
    ≡ record {
      steps = Apply (record {
        writes = [];
        reads = record {
          bit = record { reg = 0; pos = 0 };
          expect = false;
          read = 1;
          line = 3;
          index = 0;
        } ∷ [];
      } ∷ []) ∷ [];
      fault = None;
    }
unfolding result bound expansion procs_of whole_text words_of read_file read_part read_part_after read_level
    read_module read_proc read_proc_name read_arguments read_body read_body_end read_lines read_line
    read_line_after read_command read_prefix read_call read_write read_read read_run_loop read_note read_merge
    read_end read_value read_values command_named file_named is_left_out rule_against
read_back_of_an_input = refl
