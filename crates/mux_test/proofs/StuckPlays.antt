-- Worked examples: whole tests played clock by clock with each mux stuck in each row, computed. Which
-- compares differ is what an independent reading of IEEE 1687-2014 and of the SVF text finds: the number of
-- the scan, and the position in it.
use Rattle.std.specs.Prelude.{◌≡◌, ℕ, Bool, true, false, List, [], ◌∷◌, None, codes, map, refl}
use Rattle.ij_bits.specs.Room.{full}
use Rattle.ij_bits.specs.Terns.{exact}
use Rattle.instruments.specs.Machine.{whole_log}
use Rattle.net_bench.specs.Bench.{clock, fault_free}
use Rattle.net_bench.specs.Playing.{Compare, differing}
use Rattle.net_graph.specs.declared.branch.Branch.{Branch}
use Rattle.net_graph.specs.declared.device.Device.{Device}
use Rattle.net_graph.specs.declared.net.Mux.{Mux}
use Rattle.net_graph.specs.declared.net.Net.{Net}
use Rattle.net_graph.specs.declared.net.Point.{Point}
use Rattle.net_graph.specs.declared.net.Point.TheVariants.{Entry, Reg as FromReg, Mux as FromMux}
use Rattle.net_graph.specs.declared.net.Row.{Row}
use Rattle.net_graph.specs.OneRegister.{plain_register, plain_top, plain_instance}
use Rattle.net_tree.specs.Form.{Items, Nothing, RegThen, MuxThen, NoRow, RowThen}
use Rattle.mux_test.specs.Laws.{compared, stuck}
use Rattle.mux_test.specs.Seen.{unseen}

abbrev dev : Device
dev = record { ir = 2; idcode = None; link = full []; instr = full []; opcode = 2 }

abbrev row : Bool → Point → Row
row value from = record { values = full (exact (value ∷ []) ∷ []); from = from }

-- a mux that the one bit of a register selects
abbrev mux_by : ℕ → Point → Point → Mux
mux_by reg zero_from one_from =
    record {
      select = full (record { reg = reg; pos = 0 } ∷ []);
      rows = full (row false zero_from ∷ row true one_from ∷ []);
      node = 1;
      name = full (codes "m");
    }

abbrev branch : ℕ → ℕ → Branch
branch m q = record { mux = m; row = q }

-- where a compare differs: in which scan, and at which position
abbrev places : List Compare → List (List ℕ)
places cs = map (λ c. c.scan ∷ c.bit ∷ []) cs

abbrev stuck_at : Net → Items → ℕ → ℕ → List (List ℕ)
stuck_at net form m q = places (differing (compared (stuck whole_log net dev [] (branch m q)) form))

abbrev whole : Net → Items → List (List ℕ)
whole net form = places (differing (compared (fault_free whole_log net dev []) form))

-- two segment insertion bits, one inside the other
abbrev nested : Net
nested =
    record {
      regs = full
          (plain_register 0 1 Entry ∷ plain_register 1 1 (FromReg 0) ∷ plain_register 2 1 (FromReg 1) ∷ []);
      muxes = full (mux_by 0 (FromReg 0) (FromMux 1) ∷ mux_by 1 (FromReg 1) (FromReg 2) ∷ []);
      insts = full [];
      out = FromMux 0;
      nodes = full (plain_top ∷ plain_instance ∷ []);
      things = full [];
    }

abbrev nested_form : Items
nested_form =
    RegThen 0 (MuxThen 0 (RowThen Nothing (RowThen
    (RegThen 1 (MuxThen 1 (RowThen Nothing (RowThen (RegThen 2 Nothing) NoRow)) Nothing)) NoRow)) Nothing)

nested_whole : whole nested nested_form ≡ []
unfolding clock
nested_whole = refl

nested_0_0 : stuck_at nested nested_form 0 0
    ≡ (4 ∷ 4 ∷ []) ∷ (4 ∷ 5 ∷ []) ∷ (5 ∷ 4 ∷ []) ∷ (5 ∷ 5 ∷ []) ∷ (6 ∷ 4 ∷ []) ∷ (7 ∷ 4 ∷ []) ∷ []
unfolding clock
nested_0_0 = refl

nested_0_1 : stuck_at nested nested_form 0 1
    ≡ (2 ∷ 4 ∷ []) ∷ (3 ∷ 1 ∷ []) ∷ (3 ∷ 4 ∷ []) ∷ (4 ∷ 2 ∷ []) ∷ (4 ∷ 5 ∷ []) ∷ []
unfolding clock
nested_0_1 = refl

nested_1_0 : stuck_at nested nested_form 1 0 ≡ (7 ∷ 5 ∷ []) ∷ (7 ∷ 6 ∷ []) ∷ []
unfolding clock
nested_1_0 = refl

nested_1_1 : stuck_at nested nested_form 1 1
    ≡ (4 ∷ 2 ∷ []) ∷ (4 ∷ 5 ∷ []) ∷ (5 ∷ 2 ∷ []) ∷ (5 ∷ 5 ∷ []) ∷ (6 ∷ 2 ∷ []) ∷ (6 ∷ 5 ∷ []) ∷ []
unfolding clock
nested_1_1 = refl

-- each of them is seen
nested_unseen : unseen nested nested_form ≡ []
nested_unseen = refl

-- a segment insertion bit, and after it a choice of two registers of one length
abbrev series : Net
series =
    record {
      regs = full (plain_register 0 1 Entry ∷ plain_register 1 1 (FromReg 0) ∷ plain_register 2 1
          (FromMux 0) ∷ plain_register 3 1 (FromReg 2) ∷ plain_register 4 1 (FromReg 2) ∷ []);
      muxes = full (mux_by 0 (FromReg 0) (FromReg 1) ∷ mux_by 2 (FromReg 3) (FromReg 4) ∷ []);
      insts = full [];
      out = FromMux 1;
      nodes = full (plain_top ∷ plain_instance ∷ []);
      things = full [];
    }

abbrev series_form : Items
series_form =
    RegThen 0 (MuxThen 0 (RowThen Nothing (RowThen (RegThen 1 Nothing) NoRow))
    (RegThen 2 (MuxThen 1 (RowThen (RegThen 3 Nothing) (RowThen (RegThen 4 Nothing) NoRow)) Nothing)))

series_whole : whole series series_form ≡ []
unfolding clock
series_whole = refl

series_0_0 : stuck_at series series_form 0 0 ≡ (4 ∷ 8 ∷ []) ∷ (4 ∷ 9 ∷ []) ∷ (5 ∷ 8 ∷ []) ∷ (5 ∷ 9 ∷ [])
    ∷ (6 ∷ 8 ∷ []) ∷ (6 ∷ 9 ∷ []) ∷ (7 ∷ 8 ∷ []) ∷ (7 ∷ 9 ∷ []) ∷ []
unfolding clock
series_0_0 = refl

series_0_1 : stuck_at series series_form 0 1 ≡ (2 ∷ 8 ∷ []) ∷ (3 ∷ 8 ∷ []) ∷ []
unfolding clock
series_0_1 = refl

-- a choice that is stuck changes no number of bits: nothing differs, and the report has both rows
series_1_0 : stuck_at series series_form 1 0 ≡ []
unfolding clock
series_1_0 = refl

series_1_1 : stuck_at series series_form 1 1 ≡ []
unfolding clock
series_1_1 = refl

series_unseen : unseen series series_form ≡ branch 1 0 ∷ branch 1 1 ∷ []
series_unseen = refl
