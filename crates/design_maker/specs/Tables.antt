-- The tables of the instruments of a made design, and the device.
use Rattle.std.specs.Prelude.{ℕ, List, ◌++◌, codes, decimal}
use Rattle.design_maker.specs.Numbered.{numbered}
use Rattle.design_maker.specs.declared.instrument.Instrument.{Instrument}

-- a word that takes the input when it changes, and counts cycles of Run-Test/Idle
unfoldable pub table_text : ℕ → ℕ → List ℕ
table_text i width =
    codes "instrument net.w" ++ (decimal i ++ (codes ".ins\nin d " ++ (decimal width ++ (codes "\nword v "
    ++ (decimal width ++ codes "\nout q = v\nchange do v = d\nrun do v = v + 1\nend\n")))))

abbrev pub instrument_table : ℕ → Instrument → List ℕ
instrument_table i x = table_text i x.width

unfoldable pub tables_text : List Instrument → List ℕ
tables_text xs = codes "tables 1\n" ++ numbered instrument_table 1 xs

-- an instruction register of 8 bits, whose instruction IJTAG selects the network (IEEE 1149.1-2013)
unfoldable pub device_text : List ℕ
device_text = codes "device 1\nir 8\nlink tap IJTAG A0\n"
