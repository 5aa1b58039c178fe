-- Worked examples: a counter that is done after 100 run cycles and then read, and reads that are put in
-- order.
use Rattle.std.specs.Prelude.{◌≡◌, ℕ, Bool, true, false, List, [], ◌∷◌, ◌++◌, codes, refl}
use Rattle.std.specs.Fmt.{digits}
use Rattle.ij_bits.specs.Room.{full}
use Rattle.ij_bits.specs.Terns.{exact}
use Rattle.instruments.specs.Examples.{counter}
use Rattle.net_graph.specs.OneRegister.{plain_register}
use Rattle.net_graph.specs.SeenSteps.{SeenStep, Apply, Run}
use Rattle.net_graph.specs.declared.net.Net.{Net}
use Rattle.net_graph.specs.declared.net.Point.TheVariants.{Entry, Reg as FromReg}
use Rattle.net_graph.specs.declared.net.Sig.TheVariants.{Bit, Out}
use Rattle.net_graph.specs.declared.step.ReadBit.{ReadBit}
use Rattle.direct_report.specs.Report.{direct_report, in_order}

-- ---- a counter

-- net.R[1:0] captures done of cnt at position 1 and itself at position 0, which drives start of cnt
abbrev counter_net : Net
counter_net =
    record {
      regs = full (record {
        width = 2;
        from = Entry;
        capture = full (Bit (record { reg = 0; pos = 0 }) false
            ∷ Out 0 0 0 false ∷ []);
        reset = exact (false ∷ false ∷ []);
        thing = 0;
      } ∷ []);
      muxes = full [];
      insts = full (record {
        node = 2;
        ins = full (record
            { name = full (codes "start"); bits = full (Bit (record { reg = 0; pos = 0 }) false ∷ []) } ∷ []);
        outs = full (record { name = full (codes "done"); width = 1 } ∷ []);
      } ∷ []);
      out = FromReg 0;
      nodes = full (record { path = full []; «module» = full (codes "chip") }
          ∷ record { path = full (full (codes "net") ∷ []); «module» = full (codes "Net") }
          ∷ record { path = full (full (codes "cnt") ∷ []); «module» = full (codes "Cnt") } ∷ []);
      things = full (record {
        node = 1;
        name = full (codes "R");
        left = 1;
        right = 0;
        bits = record { items = [] };
        words = full [];
      } ∷ []);
    }

-- start is set, the counter runs, and done is read
abbrev counting : ℕ → List SeenStep
counting n =
    Apply (record { writes = record { bit = record { reg = 0; pos = 0 }; value = true } ∷ []; reads = [] }
    ∷ [])
    ∷ Run n
    ∷ Apply (record {
      writes = [];
      reads = record {
        bit = record { reg = 0; pos = 1 };
        expect = true;
        read = 1;
        line = 6;
        index = 0;
      } ∷ [];
    } ∷ [])
    ∷ []

counting_report : direct_report counter_net (counter ∷ []) (counting 100) ≡
    codes "register net.R 01\n" ++ codes "instrument cnt n=64 go=0 fin=1 changes 1 runs 100 resets 0\n"
    ++ codes "reads 1 differs 0\n"
unfolding digits
counting_report = refl

counting_99_report : direct_report counter_net (counter ∷ []) (counting 99) ≡
    codes "differs iread 1 line 6 index 0 expected 1 read 0\n" ++ codes "register net.R 01\n"
    ++ codes "instrument cnt n=63 go=1 fin=0 changes 1 runs 99 resets 0\n" ++ codes "reads 1 differs 1\n"
unfolding digits
counting_99_report = refl

-- ---- order

abbrev two_net : Net
two_net = record {
  regs = full (plain_register 0 4 Entry ∷ plain_register 1 1 (FromReg 0) ∷ []);
  muxes = full [];
  insts = full [];
  out = FromReg 1;
  nodes = full [];
  things = full [];
}

abbrev read_at : ℕ → ℕ → ReadBit × Bool
read_at r k =
    (record { bit = record { reg = r; pos = k }; expect = true; read = 1; line = 5; index = 0 }, false)

-- by register, and in a register by position
ordered : in_order two_net (read_at 1 0 ∷ read_at 0 3 ∷ read_at 0 1 ∷ [])
    ≡ read_at 0 1 ∷ read_at 0 3 ∷ read_at 1 0 ∷ []
ordered = refl
