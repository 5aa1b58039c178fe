-- Worked examples, computed: the values are by hand.
use Rattle.std.specs.Prelude.{◌≡◌, ℕ, zero, suc, ◌+◌, ◌*◌, Bool, true, false, List, [], ◌∷◌, ◌++◌, None}
use Rattle.std.specs.Prelude.{codes, refl}
use Rattle.ij_bits.specs.BitLists.{bits_of}
use Rattle.ij_bits.specs.Room.{full}
use Rattle.ij_bits.specs.Terns.{exact}
use Rattle.net_graph.specs.declared.device.Device.{Device}
use Rattle.net_graph.specs.declared.net.Mux.{Mux}
use Rattle.net_graph.specs.declared.net.Net.{Net}
use Rattle.net_graph.specs.declared.net.Point.{Point}
use Rattle.net_graph.specs.declared.net.Point.TheVariants.{Entry, Reg as FromReg, Mux as FromMux}
use Rattle.net_graph.specs.declared.net.Reg.{Reg}
use Rattle.net_graph.specs.declared.net.Row.{Row}
use Rattle.net_graph.specs.declared.step.WriteBit.{WriteBit}
use Rattle.net_graph.specs.OneRegister.{plain_register}
use Rattle.net_graph.specs.SeenSteps.{SeenStep, Apply, Run, Reset}
use Rattle.net_tree.specs.Form.{Items, Nothing, RegThen, MuxThen, NoRow, RowThen}
use Rattle.least_clocks.specs.Least.{least_clocks}

-- an instruction register of eight bits
abbrev dev : Device
dev = record { ir = 8; idcode = None; link = full []; instr = full []; opcode = 0xA0 }

abbrev network : List Reg → List Mux → Point → Net
network regs muxes out =
    record {
      regs = full regs;
      muxes = full muxes;
      insts = full [];
      out = out;
      nodes = full [];
      things = full [];
    }

-- a register gets these bits, position 0 first
abbrev writes : ℕ → ℕ → List Bool → List WriteBit
writes r k [] = []
writes r k (b ∷ bs) = record { bit = record { reg = r; pos = k }; value = b } ∷ writes r (suc k) bs

abbrev write : ℕ → ℕ → ℕ → SeenStep
write r n value = Apply (record { writes = writes r 0 (bits_of n value); reads = [] } ∷ [])

abbrev read_first : ℕ → SeenStep
read_first r = Apply (record {
  writes = [];
  reads =
      record { bit = record { reg = r; pos = 0 }; expect = true; read = 1; line = 1; index = 0 } ∷ [];
} ∷ [])

-- ---- one register of four bits

abbrev flat : List SeenStep → ℕ
flat steps =
    least_clocks (network (plain_register 0 4 Entry ∷ []) [] (FromReg 0)) (RegThen 0 Nothing) dev steps

-- nothing to do
no_clock : flat [] ≡ 0
no_clock = refl

-- 1 out of Test-Logic-Reset, 8 + 6 for the link's instruction, 4 + 5 for the scan
one_write : flat (write 0 4 5 ∷ []) ≡ 24
one_write = refl

-- what is there already isn't written
written_again : flat (write 0 4 5 ∷ write 0 4 5 ∷ []) ≡ 24
written_again = refl

-- but a read takes a scan
read_back : flat (write 0 4 5 ∷ read_first 0 ∷ []) ≡ 33
read_back = refl

-- nor is 0, to which the register resets
zeros : flat (write 0 4 0 ∷ []) ≡ 0
zeros = refl

-- a run of ten clocks; and a reset, after which the instruction is loaded anew
run_and_reset : flat (write 0 4 5 ∷ Run 10 ∷ Reset ∷ write 0 4 5 ∷ []) ≡ 24 + 10 + 5 + 24
run_and_reset = refl

-- a reset at power-up goes out from Run-Test/Idle, too
first_reset : flat (Reset ∷ []) ≡ 6
first_reset = refl

-- ---- SIBs of eight bits, one after the other

abbrev before : ℕ → Point
before zero = Entry
before (suc k) = FromReg (2 * k + 1)

abbrev row : Bool → Point → Row
row value from = record { values = full (exact (value ∷ []) ∷ []); from = from }

-- n of them, from number k on: the register of the segment, and the one whose bit selects
abbrev sib_regs : ℕ → ℕ → List Reg
sib_regs k zero = []
sib_regs k (suc n) = plain_register (2 * k) 8 (before k)
    ∷ plain_register (2 * k + 1) 1 (FromMux k) ∷ sib_regs (suc k) n

abbrev sib_muxes : ℕ → ℕ → List Mux
sib_muxes k zero = []
sib_muxes k (suc n) = record {
  select = full (record { reg = 2 * k + 1; pos = 0 } ∷ []);
  rows = full (row false (before k) ∷ row true (FromReg (2 * k)) ∷ []);
  node = 0;
  name = full (codes "m");
} ∷ sib_muxes (suc k) n

abbrev sib_form : ℕ → ℕ → Items
sib_form k zero = Nothing
sib_form k (suc n) = MuxThen k (RowThen Nothing (RowThen (RegThen (2 * k) Nothing) NoRow))
    (RegThen (2 * k + 1) (sib_form (suc k) n))

abbrev write_each : ℕ → ℕ → List SeenStep
write_each k zero = []
write_each k (suc n) = write (2 * k) 8 (0xA1 + k) ∷ write_each (suc k) n

abbrev sibs : ℕ → List SeenStep → ℕ
sibs n steps = least_clocks (network (sib_regs 0 n) (sib_muxes 0 n) (before n)) (sib_form 0 n) dev steps

-- two SIBs, one segment: 2 + 5 clocks for the first scan, 2 + 8 + 5 for the round's
one_segment : sibs 2 (write 0 8 0xA1 ∷ []) ≡ 1 + 14 + 7 + 15
one_segment = refl

-- both segments in one round
both_segments : sibs 2 (Apply (record {
  writes = writes 0 0 (bits_of 8 0xA1) ++ writes 2 0 (bits_of 8 0xA2);
  reads = [];
} ∷ []) ∷ []) ≡ 1 + 14 + 7 + 23
both_segments = refl

-- one after the other, read back
each_read : sibs 2 (write 0 8 0xA1 ∷ write 2 8 0xA2 ∷ read_first 0 ∷ []) ≡ 1 + 14 + 7 + 15 + 15 + 15
each_read = refl

-- a reset before the first scan changes nothing but its own clocks
reset_before : sibs 2 (Reset ∷ write 0 8 0xA1 ∷ []) ≡ 1 + 5 + (1 + 14 + 7 + 15)
reset_before = refl

-- twelve of them, one write each: 1 + 14, 12 + 5 for the first scan, and twelve scans of 12 + 8 bits
twelve : sibs 12 (write_each 0 12) ≡ 1 + 14 + 17 + 12 * 25
twelve = refl

in_all : sibs 12 (write_each 0 12) ≡ 332
in_all = refl
