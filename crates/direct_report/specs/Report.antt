-- What is printed of the direct meaning of a procedure's bit steps (IEEE 1687-2014, PDL level 0: iRead).
use Rattle.std.specs.Prelude.{ℕ, zero, suc, Bool, not, cond, List, [], ◌∷◌, ◌++◌, map, filter, flat_map}
use Rattle.std.specs.Prelude.{length, Some}
use Rattle.ij_bits.specs.BitLists.{same_bit}
use Rattle.instruments.specs.After.{machine_of}
use Rattle.instruments.specs.Machine.{Machine, count_log}
use Rattle.instruments.specs.Seen.{SeenModel}
use Rattle.instruments.specs.declared.Counts.{Counts}
use Rattle.net_graph.specs.Named.{bits_from, width_of}
use Rattle.net_graph.specs.Path.{same_place}
use Rattle.net_graph.specs.SeenSteps.{SeenGroup, SeenStep, Apply, Run, Reset}
use Rattle.net_graph.specs.declared.net.BitId.{BitId}
use Rattle.net_graph.specs.declared.net.Net.{Net}
use Rattle.net_graph.specs.declared.step.ReadBit.{ReadBit}
use Rattle.pdl_meaning.specs.Direct.{Direct, direct, do_all, do_group, do_step, found, power_up}
use Rattle.report.specs.Differs.{differ_text}
use Rattle.report.specs.Registers.{registers_text}
use Rattle.report.specs.Totalled.{direct_text}
use Rattle.report.specs.Instruments.{instruments_text}

-- ---- the lines of reads

-- whether a read bit was found other than expected
abbrev pub differs : ReadBit × Bool → Bool
differs x = not (same_bit x.0.expect x.1)

-- its line, which names no scan; none where it is as expected
abbrev pub read_line : ReadBit × Bool → List ℕ
read_line x = differ_text (record { scan = 0; bit = 0; expect = x.0.expect; found = x.1; read = Some x.0 })

abbrev pub line_if : ReadBit × Bool → List ℕ
line_if x = cond (differs x) (read_line x) []

abbrev pub lines : List (ReadBit × Bool) → List ℕ
lines reads = flat_map line_if reads

-- the bits of n registers, the first of which is r, by register and position
abbrev pub bits_of_registers : Net → ℕ → ℕ → List BitId
bits_of_registers net r zero = []
bits_of_registers net r (suc n) = bits_from r 0 (width_of net r) ++ bits_of_registers net (suc r) n

abbrev pub all_bits : Net → List BitId
all_bits net = bits_of_registers net 0 (length net.regs.items)

-- the reads of a bit
abbrev pub reads_at : List (ReadBit × Bool) → BitId → List (ReadBit × Bool)
reads_at reads b = filter (λ x. same_place b x.0.bit) reads

-- the reads of some bits, in the order of these
abbrev pub reads_on : List (ReadBit × Bool) → List BitId → List (ReadBit × Bool)
reads_on reads bits = flat_map (reads_at reads) bits

-- by register and position
abbrev pub in_order : Net → List (ReadBit × Bool) → List (ReadBit × Bool)
in_order net reads = reads_on reads (all_bits net)

-- ---- the lines of steps

module _ (net : Net) (machines : List Machine) where
  -- what a round reads, before it writes
  abbrev pub round_lines : Direct Counts → SeenGroup → List ℕ
  round_lines d g = lines (in_order net (map (found count_log net machines d) g.reads))

  abbrev pub rounds_lines : Direct Counts → List SeenGroup → List ℕ
  rounds_lines d [] = []
  rounds_lines d (g ∷ gs) = round_lines d g ++ rounds_lines (do_group count_log net machines d g) gs

  -- only an iApply reads
  abbrev pub step_lines : Direct Counts → SeenStep → List ℕ
  step_lines d (Apply rounds) = rounds_lines d rounds
  step_lines d (Run n) = []
  step_lines d Reset = []

  abbrev pub steps_lines : Direct Counts → List SeenStep → List ℕ
  steps_lines d [] = []
  steps_lines d (s ∷ ss) = step_lines d s ++ steps_lines (do_step count_log net machines d s) ss

-- ---- the whole report

-- the reads that differ
abbrev pub differing : Direct Counts → List (ReadBit × Bool)
differing d = filter differs d.reads

-- after the last step: what the registers and the instruments hold, and the totals
abbrev pub end_text : Net → List SeenModel → Direct Counts → List ℕ
end_text net models d =
    registers_text net d.holds
    ++ (instruments_text net models d.insts ++ direct_text (length d.reads) (length (differing d)))

-- the report of what is done from a state on
abbrev pub report_from : Net → List SeenModel → Direct Counts → List SeenStep → List ℕ
report_from net models d steps =
    steps_lines net (map machine_of models) d steps
    ++ end_text net models (do_all count_log net (map machine_of models) d steps)

-- and from power-up
abbrev pub direct_report : Net → List SeenModel → List SeenStep → List ℕ
direct_report net models steps = report_from net models (power_up count_log net (map machine_of models)) steps

-- the reads of a whole procedure that differ
abbrev pub direct_differs : Net → List SeenModel → List SeenStep → List (ReadBit × Bool)
direct_differs net models steps = differing (direct count_log net (map machine_of models) steps)
